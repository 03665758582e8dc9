-- Proofs of the claims of specs/Claims.antt.
use mathlib.Core.Path.{refl}
use native.Mathlib.Omega.{arith}
use borrow.Author.Tests.{ltb-false, le-ltb}
use Rattle.basis.specs.Result.{Below}
use Rattle.basis.proofs.Check as AnyCheck
use Rattle.basis.proofs.Fraction.{ceil_rounds_up, floor_rounds_down}
use Rattle.cellar.specs.declared.CellarWall.{CellarWall}
use Rattle.cellar.specs.RequiredLoad.{exact_required_load, required_load}
use Rattle.cellar.specs.Resistance.{exact_resistance, resistance}
use Rattle.cellar.specs.Load.{load}
use Rattle.cellar.specs.Check.{parts, check}
use Rattle.cellar.specs.Claims.{RequiredLoadRoundedUp, ResistanceRoundedDown, AcceptedExactly}
use Rattle.cellar.proofs.RequiredLoad.{required_load_den, required_load_most}
use Rattle.cellar.proofs.Resistance.{resistance_den, resistance_most}
use Rattle.cellar.proofs.Load.{load_most}

pub required_load_rounded_up : RequiredLoadRoundedUp
unfolding required_load
required_load_rounded_up w passed = ceil_rounds_up (exact_required_load w) (required_load_den w passed)

pub resistance_rounded_down : ResistanceRoundedDown
unfolding resistance
resistance_rounded_down w = floor_rounds_down (exact_resistance w) (resistance_den w)

pub accepted_exactly : AcceptedExactly
accepted_exactly w =
    let exactly = AnyCheck.accepted_exactly (parts w) refl in (
      (λ accepted.
          let all = exactly.0 accepted in
          (all.0, all.1, ltb-false (resistance w) (load w) all.2.0, ltb-false w.dead (required_load w) all.2.1.0)),
      (λ all. exactly.1 (all.0, all.1, (le-ltb (resistance w) (load w) all.2, (le-ltb w.dead (required_load w) all.3, tt)))),
    )

-- Every reported number is below 10^9.
pub result_below : (w : CellarWall) → Below 1000000000 (check w)
result_below w =
    AnyCheck.result_is_bounded (parts w) 1000000000 (omega arith) refl
    (λ passed none. (
      omega (arith, required_load_most w passed none),
      omega (arith, load_most w passed),
      omega (arith, resistance_most w passed),
    ))
