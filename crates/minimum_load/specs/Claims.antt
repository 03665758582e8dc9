-- Document 02, #106, as claims about the definitions; their proofs stand in proofs/MinimumLoad.antt and proofs/Check.antt.
use Rattle.std.specs.Prelude.{◌*◌, ◌≤◌, ◌<◌, true, false, cond, ◌↔◌, ◌≡◌, ltb}
use Rattle.basis.specs.Fraction.{LeastAtOrAbove}
use Rattle.basis.specs.Load.{ExceedsByLessThanHalf}
use Rattle.basis.specs.Range.{within}
use Rattle.basis.specs.Refusal.{NoneApplies}
use Rattle.basis.specs.Result.{refused_with, filled_with, Accepted, Below}
use Rattle.storey.specs.declared.StoreyWall.{StoreyWall}
use Rattle.storey.specs.Limits.{limits}
use Rattle.storey.specs.Load.{exact_load, load}
use Rattle.storey.specs.Resistance.{resistance}
use Rattle.storey.specs.Check as StoreyCheck
use Rattle.minimum_load.specs.declared.TopStoreyWall.{TopStoreyWall}
use Rattle.minimum_load.specs.MinimumLoad.{exact_minimum_load, minimum_load}
use Rattle.minimum_load.specs.Check.{wind_range, in_range, check}

-- "Behind the ordinary check a is above 100, so 300a is always above h."
abbrev pub DivisorPositive : Type 0
DivisorPositive = (w : StoreyWall) → Accepted (StoreyCheck.check w) → (100 < w.bearing) × (w.height < 300 * w.bearing)

-- So the divisor is above 0, and the need is the exact value rounded up.
abbrev pub MinimumLoadRoundedUp : Type 0
MinimumLoadRoundedUp = (w : TopStoreyWall) → Accepted (StoreyCheck.check w.wall) → LeastAtOrAbove (minimum_load w) (exact_minimum_load w)

-- "A W out of range is refusal 2 in that refusal's place."
abbrev pub WindOutOfRange : Type 0
WindOutOfRange = (w : TopStoreyWall) → within (wind_range w.designwind) ≡ false → check w ≡ refused_with 2

-- "The ordinary check comes first and its refusal is passed on as it is."
abbrev pub RefusalPassedOn : Type 0
RefusalPassedOn =
    (w : TopStoreyWall) → within (wind_range w.designwind) ≡ true → (Accepted (StoreyCheck.check w.wall) → ⊥) →
    check w ≡ StoreyCheck.check w.wall

-- "The second number of an accepted result is the need"; "21, tested last, is given when G is below the need and fills the result as 19 does". These three
-- give the result of every record.
abbrev pub NeedReported : Type 0
NeedReported =
    (w : TopStoreyWall) → within (wind_range w.designwind) ≡ true → Accepted (StoreyCheck.check w.wall) →
    check w ≡ filled_with (cond (ltb w.wall.dead (minimum_load w)) 21 0) (minimum_load w) (load w.wall) (resistance w.wall)

-- Accepted exactly when W is in its range, the ordinary check accepts, and G reaches the need.
abbrev pub AcceptedExactly : Type 0
AcceptedExactly =
    (w : TopStoreyWall) →
    Accepted (check w)
    ↔ ((within (wind_range w.designwind) ≡ true) × Accepted (StoreyCheck.check w.wall) × (minimum_load w ≤ w.wall.dead))

-- Document 02, #108, of this check too: "an accepted record's exact load exceeds the reported resistance, if at all, by less than half a newton per metre",
abbrev pub AcceptedExceedsByLessThanHalf : Type 0
AcceptedExceedsByLessThanHalf = (w : TopStoreyWall) → Accepted (check w) → ExceedsByLessThanHalf (exact_load w.wall) (check w).resistance

-- .. and "N never falls when G, Q or .. q rises and none of them falls", where it is reported: within the ranges and every limit.
abbrev pub ReportedLoadGrows : Type 0
ReportedLoadGrows =
    (first second : TopStoreyWall) →
    first.wall.dead ≤ second.wall.dead → first.wall.imposed ≤ second.wall.imposed → first.wall.floorload ≤ second.wall.floorload →
    in_range first ≡ true → NoneApplies (limits first.wall) → in_range second ≡ true → NoneApplies (limits second.wall) →
    (check first).load ≤ (check second).load

-- Refusal 1 is about a line: no record has it.
abbrev pub NeverRefusal1 : Type 0
NeverRefusal1 = (w : TopStoreyWall) → (check w).refusal ≡ 1 → ⊥

-- Every reported number is below 10^9.
abbrev pub ResultIsBounded : Type 0
ResultIsBounded = (w : TopStoreyWall) → Below 1000000000 (check w)
