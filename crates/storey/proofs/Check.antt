-- Laws of what every check begins with: a check that asks 2 and the limits up to 11 first, and then whatever it asks, follows from the assessment.
use Prim.Native.Nat.{ℕ}
use mathlib.Core.Bool.{Bool, true, not}
use mathlib.Core.List.{List, ◌∷◌}
use mathlib.Core.Path.{◌≡◌, ◌∙◌, refl, sym, ap}
use Rattle.std.specs.Prelude.{Result, Ok, Err}
use borrow.Author.Tests.{not-false}
use Rattle.basis.specs.Refusal.{first_or}
use Rattle.basis.specs.Result.{refused_with}
use Rattle.basis.specs.Check.{reported, result_of}
use Rattle.basis.specs.declared.CheckResult.{CheckResult}
use Rattle.basis.proofs.FirstRefusal.{first_or_cases, first_or_map, first_or_append, every_any}
use Rattle.storey.specs.declared.StoreyWall.{StoreyWall}
use Rattle.storey.specs.declared.Assessment.{Assessment}
use Rattle.storey.specs.Range.{in_range}
use Rattle.storey.specs.BucklingLength.{buckling_length}
use Rattle.storey.specs.Resistance.{reduction_fifths}
use Rattle.storey.specs.Load.{load}
use Rattle.storey.specs.Limits.{limits_up_to_11, slenderness_limit}
use Rattle.storey.specs.Check.{parts, check, assessment, behind, Assessed}
use Rattle.storey.specs.Claims.{CheckBehindAssessment, AssessmentNumbers}

-- 2 and the limits up to 11.
abbrev pub front : StoreyWall → List (ℕ × Bool)
front w = (2, not (in_range w)) ∷ limits_up_to_11 w

abbrev pub assessed_numbers : StoreyWall → Assessment
assessed_numbers w = record { buckling = buckling_length w; load = load w; fifths = reduction_fifths w }

pub assessment_behind : (w : StoreyWall) (rest : CheckResult) → first_or refused_with (front w) rest ≡ behind rest (assessment w)
unfolding assessment
assessment_behind w rest = sym (first_or_map Err (behind rest) (front w) (Ok (assessed_numbers w)))

-- The ordinary check has the slenderness and what is reported behind it.
pub check_behind_assessment : CheckBehindAssessment
unfolding result_of
check_behind_assessment w =
    first_or_append refused_with (front w) (slenderness_limit w) (reported (parts w))
    ∙ assessment_behind w (first_or refused_with (slenderness_limit w) (reported (parts w)))

-- What the numbers of an assessment are.

abbrev Told : StoreyWall → Result Assessment ℕ → Type 0
Told w (Err n) = Unit
Told w (Ok a) = Assessed w a.buckling a.load a.fifths

pub told : (w : StoreyWall) → Told w (assessment w)
unfolding assessment
told w =
    first_or_cases Err (Told w) (λ _. true) (front w) (every_any (front w)) (λ _ _. tt)
    (λ none. record {
      in_range = not-false (in_range w) none.0;
      within_limits = none.1;
      buckling_length = refl;
      load = refl;
      reduction = refl;
    })

pub assessment_numbers : AssessmentNumbers
assessment_numbers w E N fifths is = rw is at (told w)

pub check_refused : (w : StoreyWall) (n : ℕ) → assessment w ≡ Err n → check w ≡ refused_with n
check_refused w n is = check_behind_assessment w ∙ ap (behind (first_or refused_with (slenderness_limit w) (reported (parts w)))) is
