-- `WallInRange::load` meets its contract: what is rounded, once, is the exact load.
use Prim.Native.Nat.{ℕ}
use mathlib.Core.Path.{◌≡◌, ◌∙◌, ap}
use native.Mathlib.Omega.{arith}
use Rattle.basis.specs.Fraction.{◌÷◌}
use Rattle.basis.specs.Load.{rounded_load}
use Rattle.storey.specs.Load.{exact_load, load}
use Rattle.storey.proofs.Load.{load_up_to, load_above}
use Rattle.storey.proofs.in_range.WallInRange.load.Goals.{then-floorload-le-SIMPLIFIED_GREATEST_FLOOR_LOAD, else-floorload-le-SIMPLIFIED_GREATEST_FLOOR_LOAD}
use Rattle.storey.proofs.in_range.WallInRange.load.Goals as goal

pub returns : goal.returns
unfolding load exact_load
returns c =
    let wall = c.args.self.wall in
    let exact : c.if-floorload-le-SIMPLIFIED_GREATEST_FLOOR_LOAD.exact ÷ 100 ≡ exact_load wall =
    elim c.if-floorload-le-SIMPLIFIED_GREATEST_FLOOR_LOAD.branch [
      | then-floorload-le-SIMPLIFIED_GREATEST_FLOOR_LOAD w ↦
          ap (λ (hundredths : ℕ). hundredths ÷ 100) (omega (arith, w.exact-is, c.min-smaller.ensures)) ∙ load_up_to wall.dead wall.imposed wall.floorload (omega arith)
      | else-floorload-le-SIMPLIFIED_GREATEST_FLOOR_LOAD w ↦
          ap (λ (hundredths : ℕ). hundredths ÷ 100) (omega (arith, w.exact-is)) ∙ load_above wall.dead wall.imposed wall.floorload (omega arith)
    ] in
    c.rounded_load.ensures ∙ ap rounded_load exact
