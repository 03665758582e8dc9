-- Proofs of the claims of specs/Claims.antt: those of each kind, and of any check.
use Prim.Native.Nat.{ℕ}
use mathlib.Core.Bool.{true, not, true≢false}
use mathlib.Core.Logic.{◌↔◌}
use mathlib.Core.Path.{◌≡◌, ◌∙◌, refl, sym, ap, subst}
use lib.Dec.{eqb}
use Rattle.basis.specs.declared.CheckResult.{CheckResult}
use Rattle.basis.specs.Fraction.{LeastAtOrAbove, LessThanOneBelow}
use Rattle.basis.specs.Load.{LoadRounded}
use Rattle.basis.specs.Refusal.{first_of, NoneApplies}
use Rattle.basis.specs.Result.{Accepted}
use Rattle.basis.specs.Check.{reported}
use Rattle.basis.proofs.Check.{reported_numbers, accepted_exactly, refusal_passes}
use Rattle.basis.proofs.Result.{filled_spare}
use Rattle.storey.proofs.Claims as StoreyClaims
use Rattle.storey.proofs.Load as StoreyLoad
use Rattle.storey.proofs.Range as StoreyRange
use Rattle.cellar.proofs.Claims as CellarClaims
use Rattle.cellar.proofs.Load as CellarLoad
use Rattle.cellar.proofs.Range as CellarRange
use Rattle.walls.specs.declared.Wall.{Wall}
use Rattle.walls.specs.declared.Wall.TheVariants.{Storey, Cellar}
use Rattle.walls.specs.Check.{parts, in_range, check}
use Rattle.walls.specs.Claims.{exact_second, exact_load, exact_resistance, Covered, Numbers, NumbersReported, AcceptedWithinLimits, NeverRefusal1, ResultIsBounded, EveryNumberHasRange, NumbersAreSmall}

abbrev refusal : CheckResult → ℕ
refusal result = result.refusal

-- What holds of the numbers as they are reported holds of the result.
numbers_checked : (wall : Wall) → in_range wall ≡ true → NoneApplies (parts wall).limits →
    LeastAtOrAbove (parts wall).second (exact_second wall) →
    LoadRounded (parts wall).load (exact_load wall) →
    LessThanOneBelow (parts wall).resistance (exact_resistance wall (parts wall).second) →
    Accepted (check wall) ↔ Covered wall (reported (parts wall)) → Numbers wall (check wall)
numbers_checked wall passed none second load resistance verdict =
    let p = parts wall in
    let is = reported_numbers p passed none in
    subst (Numbers wall) (sym is)
    (record {
      second_rounded_up = second;
      load_rounded = load;
      resistance_rounded_down = resistance;
      verdict = ((λ accepted. verdict.0 (ap refusal is ∙ accepted)), (λ covered. sym (ap refusal is) ∙ verdict.1 covered));
      spare_signed = filled_spare (first_of p.measures) p.second p.load p.resistance;
    })

pub numbers_reported : NumbersReported
numbers_reported (Storey w) passed none =
    let exactly = StoreyClaims.accepted_exactly w in
    numbers_checked (Storey w) passed none
    (StoreyClaims.length_rounded_up w passed) (StoreyLoad.load_is_rounded w) (StoreyClaims.resistance_rounded_down w passed)
    ((λ accepted. (exactly.0 accepted).2), (λ covered. exactly.1 (passed, none, covered)))
numbers_reported (Cellar w) passed none =
    let exactly = CellarClaims.accepted_exactly w in
    numbers_checked (Cellar w) passed none
    (CellarClaims.required_load_rounded_up w passed) (CellarLoad.load_is_rounded w) (CellarClaims.resistance_rounded_down w) (
      (λ accepted.
          let all = exactly.0 accepted in
          (all.2, all.3)),
      (λ covered. exactly.1 (passed, none, covered.0, covered.1)),
    )

pub accepted_within_limits : AcceptedWithinLimits
accepted_within_limits (Storey w) accepted = let all = (accepted_exactly (parts (Storey w)) refl).0 accepted in (all.0, all.1)
accepted_within_limits (Cellar w) accepted = let all = (accepted_exactly (parts (Cellar w)) refl).0 accepted in (all.0, all.1)

-- No refusal of either kind has the number 1.
pub never_refusal_1 : NeverRefusal1
never_refusal_1 wall one = absurd (true≢false (sym (passes wall) ∙ ap (λ (n : ℕ). not (eqb n 1)) one))
  where
    passes : (wall : Wall) → not (eqb (check wall).refusal 1) ≡ true
    passes (Storey w) = refusal_passes (parts (Storey w)) (λ n. not (eqb n 1)) refl refl
    passes (Cellar w) = refusal_passes (parts (Cellar w)) (λ n. not (eqb n 1)) refl refl

pub result_is_bounded : ResultIsBounded
result_is_bounded (Storey w) = StoreyClaims.result_below w
result_is_bounded (Cellar w) = CellarClaims.result_below w

pub every_number_has_range : EveryNumberHasRange
every_number_has_range (Storey w) = refl
every_number_has_range (Cellar w) = refl

pub numbers_are_small : NumbersAreSmall
numbers_are_small (Storey w) passed = StoreyRange.numbers_small w passed
numbers_are_small (Cellar w) passed = CellarRange.numbers_small w passed
