-- `basis::ceil_div` meets its contract: the library's quotient is the definition's, by the remainder.
use mathlib.Core.Path.{◌∙◌}
use native.Mathlib.Nat.{div-zero, pos_of_ne-zero}
use Rattle.basis.specs.Fraction.{ceil}
use Rattle.basis.proofs.Fraction.{ceil_by_remainder}
use Rattle.basis.proofs.ceil_div.Goals as goal

pub returns-then-divisor-eq0 : goal.returns-then-divisor-eq0
unfolding ceil
returns-then-divisor-eq0 c = rw (c.if-divisor-eq0.true, div-zero)

pub returns-else-divisor-eq0 : goal.returns-else-divisor-eq0
returns-else-divisor-eq0 c = c.div_ceil.ensures ∙ ceil_by_remainder c.args.dividend c.args.divisor (pos_of_ne-zero c.if-divisor-eq0.false)
