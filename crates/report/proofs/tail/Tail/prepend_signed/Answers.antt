-- `report::tail::Tail::prepend_signed` meets its contract: the digits of the magnitude, and before them the sign where there is one.
use Rattle.std.proofs.Common.{ap, arith, length, length-append, nat_abs, refl, ◌+◌, ◌∙◌, ◌≤◌, ◌≡◌}
use mir.Facts.{to_z-of_z}
use Rattle.text.proofs.Decimal.{decimal_length_bound}
use Rattle.report.proofs.Sign.{signed_negative, signed_nonnegative}
use Rattle.report.proofs.tail.Tail.prepend_signed.Goals as goal
use Rattle.report.proofs.tail.Tail.prepend_signed.Goals.{After-prepend}

size : (c : After-prepend) → c.unsigned_abs.result ≡ nat_abs c.args.number
size c = c.unsigned_abs.ensures.value ∙ ap nat_abs (to_z-of_z c.ranges.number)

count : (c : After-prepend) → length c.prepend.new.self ≤ length c.args.self.now + 20
count c =
    omega (
      arith,
      simp length-append at (ap length c.prepend.ensures.text),
      decimal_length_bound 18 c.unsigned_abs.result (omega (arith, c.unsigned_abs.ensures.bound)),
    )

pub returns-then-number-lt0-clause-text : goal.returns-then-number-lt0-clause-text
returns-then-number-lt0-clause-text c =
    let sized = size (goal.at.returns-then-number-lt0-clause-text c).After-prepend in
    c.prepend_byte.ensures ∙ rw (c.prepend.ensures.text, sized, signed_negative c.ranges.number c.if-number-lt0.true) refl

pub returns-then-number-lt0-clause-short : goal.returns-then-number-lt0-clause-short
returns-then-number-lt0-clause-short c =
    omega (arith, ap length c.prepend_byte.ensures, count (goal.at.returns-then-number-lt0-clause-short c).After-prepend)

pub returns-else-number-lt0-clause-text : goal.returns-else-number-lt0-clause-text
returns-else-number-lt0-clause-text c =
    let sized = size (goal.at.returns-else-number-lt0-clause-text c).After-prepend in
    c.prepend.ensures.text ∙ rw (sized, signed_nonnegative c.ranges.number c.if-number-lt0.false) refl

pub prepend_byte-requires : goal.prepend_byte-requires
prepend_byte-requires c = omega (arith, count (goal.at.prepend_byte-requires c).After-prepend)
