-- `DesignRange::answer` meets its contract: what was read is what the definition has, and then the answer for it.
use mathlib.Core.Bool.{Bool, true, false, cond, not}
use mathlib.Core.Path.{◌≡◌, ◌∙◌, refl, sym, ap, ap₂}
use Rattle.std.specs.Prelude.{ℕ, Result, Err}
use Rattle.basis.specs.declared.Refusal.{Refusal}
use Rattle.basis.specs.declared.Refusal.TheVariants.{NotALine, OutOfRange}
use Rattle.basis.specs.Refusal.{number_of}
use Rattle.early_design.specs.declared.RangeAnswer.{RangeAnswer}
use Rattle.wallcheck.specs.EarlyDesign.{range_read}
use Rattle.wallcheck.proofs.storey_checks.DesignRange.answer.Goals as goal

-- A missing high line behind a low one: 1 where the low one is in range, else 2.
missing : (passed : Bool) → ◌≡◌ {A = Result RangeAnswer ℕ} (Err (number_of (cond (not passed) OutOfRange NotALine))) (Err (cond passed 1 2))
missing true = refl
missing false = refl

pub returns-in-Some-None : goal.returns-in-Some-None
returns-in-Some-None g c =
    ap (λ (refusal : Refusal). Err (number_of refusal)) c.first_refusal.ensures
    ∙ missing c.in_range.result
    ∙ ap (λ (passed : Bool). Err (cond passed 1 2)) c.in_range.ensures
    ∙ ap₂ range_read (sym c.in-Some-None.is-0 ∙ c.storey_wall.ensures) (sym c.in-Some-None.is-1 ∙ c.storey_wall-2.ensures)

pub returns-in-Some-Some : goal.returns-in-Some-Some
returns-in-Some-Some g c =
    c.check.ensures
    ∙ ap₂ range_read (sym c.in-Some-Some.is-0 ∙ c.storey_wall.ensures) (sym c.in-Some-Some.is-1 ∙ c.storey_wall-2.ensures)
