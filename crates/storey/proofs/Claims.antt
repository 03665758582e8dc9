-- Proofs of claims of specs/Claims.antt; the others stand in Height.antt, Load.antt and Check.antt.
use Prim.Native.Nat.{◌*◌, min}
use mathlib.Core.Bool.{and_comm}
use mathlib.Core.Path.{◌≡◌, refl}
use native.Mathlib.Omega.{arith}
use borrow.Author.Tests.{ltb-false, lt-ltb, le-ltb}
use lib.Dec.{leb}
use Rattle.basis.specs.Fraction.{whole}
use Rattle.basis.specs.Result.{Below}
use Rattle.basis.proofs.Check as AnyCheck
use Rattle.basis.proofs.Fraction.{ceil_rounds_up, floor_rounds_down}
use Rattle.basis.proofs.FirstRefusal.{NoneApplies-split}
use Rattle.storey.specs.declared.StoreyWall.{StoreyWall}
use Rattle.storey.specs.Span.{governing_span, span_reduced, support_span}
use Rattle.storey.specs.BucklingLength.{exact_length, buckling_length}
use Rattle.storey.specs.Resistance.{reduction_fifths, exact_resistance, resistance}
use Rattle.storey.specs.Load.{exact_load, load}
use Rattle.storey.specs.Height.{calcium_silicate_applies, height_limit}
use Rattle.storey.specs.Limits.{
  limits_up_to_11,
  slenderness_limit,
  too_thin,
  area_too_small,
  closely_held,
  unfit_for_use,
  floor_load_too_great,
  building_too_high,
  span_too_long,
  bearing_too_shallow,
  too_weak,
  too_slender,
}
use Rattle.storey.specs.Check.{parts, check}
use Rattle.storey.specs.Claims.{OneWaySpans, SpansExchange, UnmarkedHeight, OnlyHeightChanges, LengthRoundedUp, ResistanceRoundedDown, AcceptedExactly}
use Rattle.storey.proofs.BucklingLength.{exact_length_den}
use Rattle.storey.proofs.Load.{load_most}
use Rattle.storey.proofs.Range.{in_ranges}
use Rattle.storey.proofs.Span.{span_one_way}
use Rattle.storey.proofs.Resistance.{resistance_den, resistance_most}

pub one_way_spans : OneWaySpans
unfolding governing_span
one_way_spans L = (refl, span_one_way L 0 refl)

pub spans_exchange : SpansExchange
unfolding governing_span span_reduced support_span
spans_exchange L M one other =
    let shorter : min L M ≡ min M L = omega arith in
    rw (lt-ltb 0 L one, lt-ltb 0 M other, shorter, and_comm (leb M (2 * L)) (leb L (2 * M))) (refl, refl)

pub unmarked_height : UnmarkedHeight
unfolding calcium_silicate_applies height_limit
unmarked_height w unmarked = rw unmarked refl

-- No other definition looks at mark or wind, so each pair is one term.
pub only_height_changes : OnlyHeightChanges
unfolding exact_length buckling_length reduction_fifths exact_resistance resistance exact_load load too_thin area_too_small closely_held unfit_for_use floor_load_too_great building_too_high span_too_long bearing_too_shallow too_weak too_slender
only_height_changes w mark wind = (refl, refl, refl, refl, refl)

pub length_rounded_up : LengthRoundedUp
unfolding buckling_length
length_rounded_up w passed = ceil_rounds_up (exact_length w) (exact_length_den w passed)

pub resistance_rounded_down : ResistanceRoundedDown
unfolding resistance
resistance_rounded_down w passed =
    floor_rounds_down (exact_resistance w (whole (buckling_length w))) (resistance_den w passed (whole (buckling_length w)) (omega arith))

pub accepted_exactly : AcceptedExactly
accepted_exactly w =
    let exactly = AnyCheck.accepted_exactly (parts w) refl in (
      (λ accepted.
          let all = exactly.0 accepted in
          (all.0, all.1, ltb-false (resistance w) (load w) all.2.0)),
      (λ all. exactly.1 (all.0, all.1, (le-ltb (resistance w) (load w) all.2, tt))),
    )

-- Every reported number is below 10^9.
pub result_below : (w : StoreyWall) → Below 1000000000 (check w)
unfolding too_slender
result_below w =
    AnyCheck.result_is_bounded (parts w) 1000000000 (omega arith) refl
    (λ passed none.
    let slender = (NoneApplies-split (limits_up_to_11 w) (slenderness_limit w) none).1.0 in (
      omega (arith, ltb-false (270 * w.thickness) (buckling_length w) slender, in_ranges w passed),
      omega (arith, load_most w passed),
      omega (arith, resistance_most w passed),
    ))
