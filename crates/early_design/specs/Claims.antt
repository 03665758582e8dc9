-- Document 02, #109, as claims about the definitions: "The check says 1 if every record between them is accepted, 2 if none is, 3 otherwise, each exactly
-- then." Their proofs stand in proofs/Check.antt, WorstAndBest.antt and Claims.antt.
use Rattle.std.specs.Prelude.{ℕ, ◌≤◌, true, false, ◌&&◌, ◌⊎◌, ◌↔◌, ◌≡◌, Err}
use Rattle.basis.specs.Refusal.{NoneApplies}
use Rattle.basis.specs.Result.{Accepted}
use Rattle.storey.specs.declared.StoreyWall.{StoreyWall}
use Rattle.storey.specs.Range.{in_range}
use Rattle.storey.specs.Check as StoreyCheck
use Rattle.early_design.specs.declared.RangeResult.{RangeResult}
use Rattle.early_design.specs.Between.{Between}
use Rattle.early_design.specs.Check.{with_six_of, refusals, check, range_result}
use Rattle.early_design.specs.WorstAndBest.{worst_of, best_of}

-- A low and a high record: no "low value is above its high value", they "agree except in G, Q, F, L, q, H", and "Where M isn't 0, L must agree too".
pub record LowAndHigh (low high : StoreyWall) : Type 0 where
  pub dead : low.dead ≤ high.dead
  pub imposed : low.imposed ≤ high.imposed
  pub strength : low.strength ≤ high.strength
  pub span : low.span ≤ high.span
  pub floorload : low.floorload ≤ high.floorload
  pub building : low.building ≤ high.building
  -- the low record with the six of the high one is the high one
  pub all_else : with_six_of high low ≡ high
  pub two_way : (low.otherspan ≡ 0) ⊎ (low.span ≡ high.span)

-- No refusal applies, exactly where both are in range and are a low and a high record.
abbrev pub NotRefusedExactly : Type 0
NotRefusedExactly =
    (low high : StoreyWall) →
    NoneApplies (refusals low high) ↔ ((in_range low ≡ true) × (in_range high ≡ true) × LowAndHigh low high)

-- 2 exactly where one of the two is out of range,
abbrev pub RefusedAs2Exactly : Type 0
RefusedAs2Exactly = (low high : StoreyWall) → (check low high ≡ Err 2) ↔ ((in_range low && in_range high) ≡ false)

-- .. and 25 exactly where both are in range and are no low and high record.
abbrev pub RefusedAs25Exactly : Type 0
RefusedAs25Exactly =
    (low high : StoreyWall) →
    (check low high ≡ Err 25) ↔ ((in_range low ≡ true) × (in_range high ≡ true) × (LowAndHigh low high → ⊥))

-- "every record between them is accepted", "none is", "otherwise"

abbrev pub EveryAccepted : (low high : StoreyWall) → Type 0
EveryAccepted low high = (wall : StoreyWall) → Between low high wall → Accepted (StoreyCheck.check wall)

abbrev pub NotOneAccepted : (low high : StoreyWall) → Type 0
NotOneAccepted low high = (wall : StoreyWall) → Between low high wall → Accepted (StoreyCheck.check wall) → ⊥

abbrev pub Otherwise : (low high : StoreyWall) → Type 0
Otherwise low high = (EveryAccepted low high → ⊥) × (NotOneAccepted low high → ⊥)

-- The two numbers that are handed back.
abbrev pub answers : (low high : StoreyWall) → RangeResult
answers low high = range_result (check low high)

abbrev pub Answers : (low high : StoreyWall) → ℕ → Type 0
Answers low high n = answers low high ≡ record { refusal = 0; answer = n }

abbrev pub EveryAcceptedAnswers1 : Type 0
EveryAcceptedAnswers1 = (low high : StoreyWall) → Answers low high 1 ↔ (NoneApplies (refusals low high) × EveryAccepted low high)

abbrev pub NotOneAcceptedAnswers2 : Type 0
NotOneAcceptedAnswers2 = (low high : StoreyWall) → Answers low high 2 ↔ (NoneApplies (refusals low high) × NotOneAccepted low high)

abbrev pub OtherwiseAnswers3 : Type 0
OtherwiseAnswers3 = (low high : StoreyWall) → Answers low high 3 ↔ (NoneApplies (refusals low high) × Otherwise low high)

-- Every record between two that are not refused is in range: a record of document 01.
abbrev pub BetweenInRange : Type 0
BetweenInRange =
    (low high wall : StoreyWall) → NoneApplies (refusals low high) → Between low high wall → in_range wall ≡ true

-- Two records between decide: every record is accepted exactly if the worst is, and none exactly if the best is not.
abbrev pub TwoRecordsDecide : Type 0
TwoRecordsDecide =
    (low high : StoreyWall) → NoneApplies (refusals low high) →
    Between low high (worst_of low high)
    × Between low high (best_of low high)
    × (EveryAccepted low high ↔ Accepted (StoreyCheck.check (worst_of low high)))
    × (NotOneAccepted low high ↔ (Accepted (StoreyCheck.check (best_of low high)) → ⊥))
