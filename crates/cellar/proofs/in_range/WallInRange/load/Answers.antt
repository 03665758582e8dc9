-- `WallInRange::load` meets its contract: what is rounded is the exact load.
use Prim.Native.Nat.{ℕ}
use mathlib.Core.Path.{◌∙◌, ap}
use native.Mathlib.Omega.{arith}
use Rattle.basis.specs.Fraction.{◌÷◌}
use Rattle.basis.specs.Load.{rounded_load}
use Rattle.cellar.specs.Load.{exact_load, load}
use Rattle.cellar.proofs.in_range.WallInRange.load.Goals as goal

pub returns : goal.returns
unfolding load exact_load
returns c = c.rounded_load.ensures ∙ ap (λ (hundredths : ℕ). rounded_load (hundredths ÷ 100)) (omega arith)
