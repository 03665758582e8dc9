-- Proofs of the claims about the result.
use Prim.Native.Nat.{ℕ, ◌*◌, ◌≤◌, ◌<◌}
use mathlib.Core.Bool.{Bool, true, false, cond, not, true≢false}
use mathlib.Core.List.{List, ◌∷◌}
use mathlib.Core.Path.{◌≡◌, ◌∙◌, refl, sym, ap}
use native.Mathlib.Omega.{arith}
use Rattle.std.specs.Prelude.{Ok, Err}
use borrow.Author.Tests.{ltb-false, le-ltb, leb-true}
use lib.Dec.{leb, ltb, eqb}
use Rattle.basis.specs.declared.CheckResult.{CheckResult}
use Rattle.basis.specs.Range.{within}
use Rattle.basis.specs.declared.Refusal.TheVariants.{DeadLoadBelowMinimum}
use Rattle.basis.specs.Refusal.{verdict_number, first_or, first_of}
use Rattle.basis.specs.Result.{refused_with, filled_with, Accepted}
use Rattle.basis.specs.Check.{reported, result_of}
use Rattle.basis.proofs.Check as AnyCheck
use Rattle.basis.proofs.Choice.{cond_cases, and_left, and_right}
use Rattle.basis.proofs.Load.{exceeds_by_less_than_half}
use Rattle.basis.proofs.FirstRefusal.{first_or_none, first_or_some, none_first_of, NoneApplies-split}
use Rattle.storey.specs.BucklingLength.{buckling_length}
use Rattle.storey.specs.Limits.{limits_up_to_11, slenderness_limit, limits, too_slender}
use Rattle.storey.specs.Load.{exact_load, load}
use Rattle.storey.specs.Resistance.{resistance}
use Rattle.storey.specs.Range as StoreyRange
use Rattle.storey.specs.Check as StoreyCheck
use Rattle.storey.proofs.Claims as StoreyClaims
use Rattle.storey.proofs.Load.{exact_load_den, load_is_rounded, load_grows, load_most}
use Rattle.storey.proofs.Range.{in_ranges}
use Rattle.storey.proofs.Resistance.{resistance_most}
use Rattle.storey.specs.declared.StoreyWall.{StoreyWall}
use Rattle.minimum_load.specs.declared.TopStoreyWall.{TopStoreyWall}
use Rattle.minimum_load.specs.MinimumLoad.{minimum_load}
use Rattle.minimum_load.specs.Check.{wind_range, in_range, second, parts, check}
use Rattle.minimum_load.specs.Claims.{WindOutOfRange, RefusalPassedOn, NeedReported, AcceptedExactly, AcceptedExceedsByLessThanHalf, ReportedLoadGrows, NeverRefusal1, ResultIsBounded}
use Rattle.minimum_load.proofs.MinimumLoad.{minimum_load_most}

pub out_of_range : (w : TopStoreyWall) → in_range w ≡ false → check w ≡ refused_with 2
out_of_range w failed = AnyCheck.result_out_of_range (parts w) failed

pub wind_out_of_range : WindOutOfRange
unfolding in_range
wind_out_of_range w failed = out_of_range w (rw failed refl)

-- What is in range.

module _ (w : TopStoreyWall) (passed : in_range w ≡ true) where
  pub wind_passed : within (wind_range w.designwind) ≡ true
  unfolding in_range
  wind_passed = and_left (within (wind_range w.designwind)) (StoreyRange.in_range w.wall) passed

  pub wall_passed : StoreyRange.in_range w.wall ≡ true
  unfolding in_range
  wall_passed = and_right (within (wind_range w.designwind)) (StoreyRange.in_range w.wall) passed

  pub wind_most : w.designwind ≤ 10000
  wind_most = leb-true w.designwind 10000 (and_right (leb 1 w.designwind) (leb w.designwind 10000) wind_passed)

-- With W in its range, what the check asks first is what the ordinary check asks first.

ranges_same : (w : TopStoreyWall) → within (wind_range w.designwind) ≡ true → in_range w ≡ StoreyRange.in_range w.wall
unfolding in_range
ranges_same w passed = rw passed refl

abbrev front : TopStoreyWall → List (ℕ × Bool)
front w = (2, not (StoreyRange.in_range w.wall)) ∷ limits w.wall

check_same : (w : TopStoreyWall) → within (wind_range w.designwind) ≡ true → check w ≡ first_or refused_with (front w) (reported (parts w))
unfolding result_of
check_same w passed = rw (ranges_same w passed) refl

-- Where 13 applies, both report the same numbers.
reported_same : (w : TopStoreyWall) → ltb (resistance w.wall) (load w.wall) ≡ true → reported (parts w) ≡ reported (StoreyCheck.parts w.wall)
unfolding first_or second
reported_same w above = rw above refl

-- Where it does not, a wall that is not accepted is refused by a limit or its range.
refused_in_front : (w : TopStoreyWall) → ltb (resistance w.wall) (load w.wall) ≡ false → (Accepted (StoreyCheck.check w.wall) → ⊥) → first_of (front w) ≡ 0 → ⊥
unfolding result_of first_or
refused_in_front w covered refused none =
    refused (ap (λ (r : CheckResult). r.refusal) (first_or_none refused_with (front w) (none_first_of (front w) refl none)) ∙ rw covered refl)

pub refusal_passed_on : RefusalPassedOn
unfolding result_of
refusal_passed_on w passed refused = check_same w passed ∙ by_13 (ltb (resistance w.wall) (load w.wall)) refl
  where
    by_13 : (b : Bool) → ltb (resistance w.wall) (load w.wall) ≡ b → first_or refused_with (front w) (reported (parts w)) ≡ StoreyCheck.check w.wall
    by_13 true above = ap (first_or refused_with (front w)) (reported_same w above)
    by_13 false covered =
        let beyond = refused_in_front w covered refused in
        first_or_some refused_with (front w) (reported (parts w)) beyond ∙ sym (first_or_some refused_with (front w) (reported (StoreyCheck.parts w.wall)) beyond)

-- The load and the resistance of an accepted result.
ordinary_numbers : (w : StoreyWall) → Accepted (StoreyCheck.check w) → ((StoreyCheck.check w).load ≡ load w) × ((StoreyCheck.check w).resistance ≡ resistance w)
ordinary_numbers w accepted =
    let all = (StoreyClaims.accepted_exactly w).0 accepted in
    let numbers = AnyCheck.reported_numbers (StoreyCheck.parts w) all.0 all.1 in
    (ap (λ (r : CheckResult). r.load) numbers, ap (λ (r : CheckResult). r.resistance) numbers)

pub need_reported : NeedReported
unfolding first_or second
need_reported w passed accepted =
    let all = (StoreyClaims.accepted_exactly w.wall).0 accepted in
    AnyCheck.reported_numbers (parts w) (ranges_same w passed ∙ all.0) all.1 ∙ rw (le-ltb (resistance w.wall) (load w.wall) all.2) refl

pub accepted_exactly : AcceptedExactly
accepted_exactly w =
    let exactly = AnyCheck.accepted_exactly (parts w) refl in
    let ordinary = StoreyClaims.accepted_exactly w.wall in (
      (λ accepted.
          let all = exactly.0 accepted in (
            wind_passed w all.0,
            ordinary.1 (wall_passed w all.0, all.1, ltb-false (resistance w.wall) (load w.wall) all.2.0),
            ltb-false w.wall.dead (minimum_load w) all.2.1.0,
          )),
      (λ all.
          let kept = ordinary.0 all.1 in
          exactly.1 (ranges_same w all.0 ∙ kept.0, kept.1, (le-ltb (resistance w.wall) (load w.wall) kept.2, (le-ltb w.wall.dead (minimum_load w) all.2, tt)))),
    )

pub accepted_exceeds_by_less_than_half : AcceptedExceedsByLessThanHalf
accepted_exceeds_by_less_than_half w accepted =
    let all = (accepted_exactly w).0 accepted in
    let covered = ((StoreyClaims.accepted_exactly w.wall).0 all.1).2 in
    rw (need_reported w all.0 all.1)
    (exceeds_by_less_than_half (exact_load w.wall) (load w.wall) (resistance w.wall) (exact_load_den w.wall) (load_is_rounded w.wall) covered)

pub reported_load_grows : ReportedLoadGrows
reported_load_grows first second dead imposed floorload passed none passed' none' =
    rw (AnyCheck.reported_numbers (parts first) passed none, AnyCheck.reported_numbers (parts second) passed' none')
    (load_grows first.wall second.wall dead imposed floorload)

pub accepted_in_range : (w : TopStoreyWall) → Accepted (check w) → in_range w ≡ true
accepted_in_range w accepted = ((AnyCheck.accepted_exactly (parts w) refl).0 accepted).0

pub never_refusal_1 : NeverRefusal1
never_refusal_1 w one =
    absurd (true≢false (sym (AnyCheck.refusal_passes (parts w) (λ n. not (eqb n 1)) refl refl) ∙ ap (λ (n : ℕ). not (eqb n 1)) one))

pub result_is_bounded : ResultIsBounded
unfolding second first_or too_slender
result_is_bounded w =
    AnyCheck.result_is_bounded (parts w) 1000000000 (omega arith) refl
    (λ passed none.
    let ordinary = wall_passed w passed in
    let slender = (NoneApplies-split (limits_up_to_11 w.wall) (slenderness_limit w.wall) none).1.0 in (
      cond_cases (λ (n : ℕ). n < 1000000000) (ltb (resistance w.wall) (load w.wall))
          (λ _. omega (arith, ltb-false (270 * w.wall.thickness) (buckling_length w.wall) slender, in_ranges w.wall ordinary))
          (λ covered.
          let accepted = (StoreyClaims.accepted_exactly w.wall).1 (ordinary, none, ltb-false (resistance w.wall) (load w.wall) covered) in
          omega (arith, minimum_load_most w accepted (wind_most w passed))),
      omega (arith, load_most w.wall ordinary),
      omega (arith, resistance_most w.wall ordinary),
    ))

-- What the code makes of the ordinary result.

number_of_verdict : (below : Bool) → verdict_number (cond below (Err DeadLoadBelowMinimum) (Ok tt)) ≡ cond below 21 0
number_of_verdict true = refl
number_of_verdict false = refl

module _ (w : TopStoreyWall) (ordinary : CheckResult) (is : ordinary ≡ StoreyCheck.check w.wall) where
  pub load_fits : ordinary.load < 4294967296
  load_fits = rw is (omega (arith, (StoreyClaims.result_below w.wall).load_below))

  pub resistance_fits : ordinary.resistance < 4294967296
  resistance_fits = rw is (omega (arith, (StoreyClaims.result_below w.wall).resistance_below))

  -- Behind W's range and an ordinary result that is accepted: its load and resistance, with the need and 0 or 21.
  pub need_with_ordinary : within (wind_range w.designwind) ≡ true → ordinary.refusal ≡ 0 →
      filled_with (verdict_number (cond (ltb w.wall.dead (minimum_load w)) (Err DeadLoadBelowMinimum) (Ok tt))) (minimum_load w) ordinary.load ordinary.resistance
      ≡ check w
  need_with_ordinary passed accepted =
      let covered = rw is at accepted in
      let numbers = ordinary_numbers w.wall covered in
      rw (is, numbers.0, numbers.1, number_of_verdict (ltb w.wall.dead (minimum_load w))) (sym (need_reported w passed covered))
