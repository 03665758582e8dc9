-- Laws of the refusals: what it says of two records that 2, 25 or none of them applies.
use Prim.Native.Nat.{ℕ}
use mathlib.Core.Bool.{Bool, true, false, true≢false, cond, not, ◌&&◌, and-false}
use mathlib.Core.List.{List, [], ◌∷◌}
use mathlib.Core.Logic.{◌⊎◌, inl, inr}
use mathlib.Core.Path.{◌≡◌, ◌∙◌, refl, sym, ap, ap₂, subst}
use native.Mathlib.Omega.{arith}
use lib.Dec.{eqb, ltb}
use borrow.Author.Tests.{not-false, ltb-false, le-ltb, eqb-true, eq-eqb}
use Rattle.basis.specs.Refusal.{first_or, NoneApplies}
use Rattle.std.specs.Prelude.{Result, Ok, Err}
use Rattle.basis.proofs.Choice.{and_left, and_right, and_none, or_left, or_right}
use Rattle.storey.specs.declared.StoreyWall.{StoreyWall}
use Rattle.storey.specs.Record.{numbers, storey_of}
use Rattle.storey.specs.Range.{in_range}
use Rattle.early_design.specs.Check.{low_above_high, with_six_of, same_numbers, another_differs, two_way_span_differs, not_low_and_high, refusals, answer, check, range_result}
use Rattle.early_design.specs.declared.RangeAnswer.{RangeAnswer}
use Rattle.early_design.specs.Claims.{LowAndHigh, NotRefusedExactly, RefusedAs2Exactly, RefusedAs25Exactly}

refusal_number : Result RangeAnswer ℕ → ℕ
refusal_number given = (range_result given).refusal

-- What is answered, by the three tests.
by_tests : (passed passed' apart : Bool) (given : RangeAnswer) → Result RangeAnswer ℕ
by_tests passed passed' apart given = cond (not passed) (Err 2) (cond (not passed') (Err 2) (cond apart (Err 25) (Ok given)))

-- 2

to_2 : (low high : StoreyWall) → (in_range low && in_range high) ≡ false → check low high ≡ Err 2
unfolding first_or
to_2 low high = by_low (in_range low) refl
  where
    by_low : (b : Bool) → in_range low ≡ b → (b && in_range high) ≡ false → check low high ≡ Err 2
    by_low true passed failed = rw (passed, failed) refl
    by_low false failed either = rw failed refl

from_2 : (passed passed' apart : Bool) (given : RangeAnswer) → refusal_number (by_tests passed passed' apart given) ≡ 2 → (passed && passed') ≡ false
unfolding refusal_number by_tests
from_2 true true true given is = absurd (let no· : ⊥ = omega (arith, is) in no·)
from_2 true true false given is = absurd (let no· : ⊥ = omega (arith, is) in no·)
from_2 true false apart given is = refl
from_2 false passed' apart given is = refl

pub refused_as_2_exactly : RefusedAs2Exactly
unfolding first_or refusal_number by_tests
refused_as_2_exactly low high =
    ((λ is. from_2 (in_range low) (in_range high) (not_low_and_high low high) (answer low high) (ap refusal_number is)), to_2 low high)

same_numbers_are : (ns ms : List ℕ) → same_numbers ns ms ≡ true → ns ≡ ms
same_numbers_are [] [] same = refl
same_numbers_are [] (m ∷ ms) same = absurd (true≢false (sym same))
same_numbers_are (n ∷ ns) [] same = absurd (true≢false (sym same))
same_numbers_are (n ∷ ns) (m ∷ ms) same =
    ap₂ (λ (k : ℕ) (ks : List ℕ). k ∷ ks) (eqb-true n m (and_left (eqb n m) (same_numbers ns ms) same))
    (same_numbers_are ns ms (and_right (eqb n m) (same_numbers ns ms) same))

same_as_itself : (ns : List ℕ) → same_numbers ns ns ≡ true
same_as_itself [] = refl
same_as_itself (n ∷ ns) = rw (eq-eqb n n refl) (same_as_itself ns)

module _ (low high : StoreyWall) where
  all_else : another_differs low high ≡ false → with_six_of high low ≡ high
  unfolding another_differs
  all_else none =
      let same = not-false (same_numbers (numbers (with_six_of high low)) (numbers high)) none in
      ap storey_of (same_numbers_are (numbers (with_six_of high low)) (numbers high) same)

  no_other : with_six_of high low ≡ high → another_differs low high ≡ false
  unfolding another_differs
  no_other is =
      ap not (subst (λ (w : StoreyWall). same_numbers (numbers (with_six_of high low)) (numbers w) ≡ true) is (same_as_itself (numbers (with_six_of high low))))

  two_way : two_way_span_differs low high ≡ false → (low.otherspan ≡ 0) ⊎ (low.span ≡ high.span)
  unfolding two_way_span_differs
  two_way none = by_span (ltb 0 low.otherspan) refl
    where
      by_span : (b : Bool) → ltb 0 low.otherspan ≡ b → (low.otherspan ≡ 0) ⊎ (low.span ≡ high.span)
      by_span true above =
          let same = eqb-true _ _ (not-false _ (and_none _ _ none above)) in
          inr (omega (arith, same))
      by_span false isnt = inl (omega (arith, ltb-false 0 low.otherspan isnt))

  no_span : (low.otherspan ≡ 0) ⊎ (low.span ≡ high.span) → two_way_span_differs low high ≡ false
  unfolding two_way_span_differs
  no_span (inl one_way) = rw one_way refl
  no_span (inr same) = rw (eq-eqb low.span high.span same) (and-false (ltb 0 low.otherspan))

  low_and_high : not_low_and_high low high ≡ false → LowAndHigh low high
  unfolding not_low_and_high low_above_high
  low_and_high none =
      let to_others = or_left _ _ none in
      let to_building = or_left _ _ to_others in
      let to_floorload = or_left _ _ to_building in
      let to_span = or_left _ _ to_floorload in
      let to_strength = or_left _ _ to_span in
      let to_imposed = or_left _ _ to_strength in
      record {
        dead = ltb-false high.dead low.dead (or_left _ _ to_imposed);
        imposed = ltb-false high.imposed low.imposed (or_right _ _ to_imposed);
        strength = ltb-false high.strength low.strength (or_right _ _ to_strength);
        span = ltb-false high.span low.span (or_right _ _ to_span);
        floorload = ltb-false high.floorload low.floorload (or_right _ _ to_floorload);
        building = ltb-false high.building low.building (or_right _ _ to_building);
        all_else = all_else (or_right _ _ to_others);
        two_way = two_way (or_right _ _ none);
      }

  no_refusal_25 : LowAndHigh low high → not_low_and_high low high ≡ false
  unfolding not_low_and_high low_above_high
  no_refusal_25 pair =
      rw (
        le-ltb high.dead low.dead pair.dead,
        le-ltb high.imposed low.imposed pair.imposed,
        le-ltb high.strength low.strength pair.strength,
        le-ltb high.span low.span pair.span,
        le-ltb high.floorload low.floorload pair.floorload,
        le-ltb high.building low.building pair.building,
        no_other pair.all_else,
        no_span pair.two_way,
      ) refl

  pub not_refused : in_range low ≡ true → in_range high ≡ true → not_low_and_high low high ≡ false → NoneApplies (refusals low high)
  not_refused low_passed high_passed agree = (ap not low_passed, (ap not high_passed, (agree, tt)))

-- 25

from_25 : (passed passed' apart : Bool) (given : RangeAnswer) → refusal_number (by_tests passed passed' apart given) ≡ 25 →
    (passed ≡ true) × (passed' ≡ true) × (apart ≡ true)
unfolding refusal_number by_tests
from_25 true true true given is = (refl, refl, refl)
from_25 true true false given is = absurd (let no· : ⊥ = omega (arith, is) in no·)
from_25 true false apart given is = absurd (let no· : ⊥ = omega (arith, is) in no·)
from_25 false passed' apart given is = absurd (let no· : ⊥ = omega (arith, is) in no·)

pub refused_as_25_exactly : RefusedAs25Exactly
unfolding first_or refusal_number by_tests
refused_as_25_exactly low high = (
  (λ is.
      let tests = from_25 (in_range low) (in_range high) (not_low_and_high low high) (answer low high) (ap refusal_number is) in
      (tests.0, tests.1, (λ pair. true≢false (sym tests.2 ∙ no_refusal_25 low high pair)))),
  (λ all. rw (all.0, all.1) (by_pair (not_low_and_high low high) refl all.2)),
)
  where
    by_pair : (b : Bool) → not_low_and_high low high ≡ b → (LowAndHigh low high → ⊥) → ◌≡◌ {A = Result RangeAnswer ℕ} (cond b (Err 25) (Ok (answer low high))) (Err 25)
    by_pair true apart none = refl
    by_pair false agree none = absurd (none (low_and_high low high agree))

pub not_refused_exactly : NotRefusedExactly
not_refused_exactly low high = (
  (λ none. (not-false (in_range low) none.0, not-false (in_range high) none.1.0, low_and_high low high none.1.1.0)),
  (λ all. not_refused low high all.0 all.1 (no_refusal_25 low high all.2)),
)
