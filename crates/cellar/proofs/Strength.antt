-- Laws of a cellar record with a greater strength: the load and the need stay, the limits are kept, the resistance does not fall; so an accepted one stays accepted.
use Prim.Native.Nat.{ℕ, ◌*◌, ◌≤◌}
use mathlib.Core.Bool.{true}
use mathlib.Core.Path.{◌≡◌, refl}
use native.Mathlib.Nat.{le_trans, mul-le-mul_left, mul-le-mul_right}
use native.Mathlib.Omega.{arith}
use borrow.Author.Tests.{ltb-false, le-ltb}
use Rattle.basis.specs.Fraction.{◌÷◌, ◌≼◌}
use Rattle.basis.specs.Refusal.{NoneApplies}
use Rattle.basis.specs.Result.{Accepted}
use Rattle.basis.proofs.Fraction.{≼_refl, times_mono, floor_mono}
use Rattle.cellar.specs.declared.CellarWall.{CellarWall}
use Rattle.cellar.specs.Record.{with_strength}
use Rattle.cellar.specs.Range.{in_range}
use Rattle.cellar.specs.RequiredLoad.{exact_required_load, required_load}
use Rattle.cellar.specs.Resistance.{reduction, exact_resistance, resistance}
use Rattle.cellar.specs.Load.{exact_load, load}
use Rattle.cellar.specs.Limits.{limits}
use Rattle.cellar.specs.Check.{check}
use Rattle.cellar.proofs.Limits.{each_limit}
use Rattle.cellar.proofs.Resistance.{resistance_den}
use Rattle.cellar.proofs.Claims.{accepted_exactly}

module _ (w : CellarWall) (F : ℕ) (stronger : w.strength ≤ F) where
  load_same : load (with_strength w F) ≡ load w
  unfolding load exact_load
  load_same = refl

  required_load_same : required_load (with_strength w F) ≡ required_load w
  unfolding required_load exact_required_load
  required_load_same = refl

  -- Of the limits only 11 looks at the strength.
  limits_kept : NoneApplies (limits w) → NoneApplies (limits (with_strength w F))
  unfolding each_limit
  limits_kept none =
      (none.0, (none.1.0, (none.1.1.0, (none.1.1.1.0, (le-ltb F 180 (le_trans (ltb-false w.strength 180 none.1.1.1.1.0) stronger), tt)))))

  exact_grows : exact_resistance w ≼ exact_resistance (with_strength w F)
  unfolding exact_resistance
  exact_grows =
      times_mono ((17 * w.strength * w.thickness) ÷ 9) (reduction w.bonded) ((17 * F * w.thickness) ÷ 9) (reduction w.bonded)
      (mul-le-mul_right 9 (mul-le-mul_right w.thickness (mul-le-mul_left 17 stronger))) (≼_refl (reduction w.bonded))

  resistance_grows : resistance w ≤ resistance (with_strength w F)
  unfolding resistance
  resistance_grows =
      floor_mono (exact_resistance w) (exact_resistance (with_strength w F)) (resistance_den w) (resistance_den (with_strength w F)) exact_grows

  pub stronger_accepted : in_range (with_strength w F) ≡ true → Accepted (check w) → Accepted (check (with_strength w F))
  stronger_accepted passed accepted =
      let kept = (accepted_exactly w).0 accepted in
      (accepted_exactly (with_strength w F)).1 (
        passed,
        limits_kept kept.1,
        omega (arith, load_same, kept.2, resistance_grows),
        omega (arith, required_load_same, kept.3),
      )
