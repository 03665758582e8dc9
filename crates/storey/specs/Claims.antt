-- Demand 2 for a storey wall, as claims about the definitions; their proofs stand in proofs/Claims.antt, Height.antt, Load.antt and Check.antt. What holds of any
-- check stands in basis, what holds of both kinds in walls.
use Rattle.std.specs.Prelude.{ℕ, ◌≤◌, ◌<◌, Bool, true, cond, map, ◌↔◌, ◌≡◌, eqb, Ok}
use Rattle.basis.specs.Fraction.{whole, LeastAtOrAbove, LessThanOneBelow}
use Rattle.basis.specs.Refusal.{first_or, NoneApplies}
use Rattle.basis.specs.Result.{refused_with, Accepted}
use Rattle.basis.specs.Check.{reported}
use Rattle.basis.specs.Load.{rounded_load}
use Rattle.storey.specs.declared.StoreyWall.{StoreyWall}
use Rattle.storey.specs.Record.{with_calcium_silicate, with_wind}
use Rattle.storey.specs.Range.{in_range}
use Rattle.storey.specs.Span.{governing_span, support_span}
use Rattle.storey.specs.BucklingLength.{exact_length, buckling_length}
use Rattle.storey.specs.Resistance.{exact_resistance, resistance}
use Rattle.storey.specs.Load.{general_load, load}
use Rattle.storey.specs.Height.{NoLower, general_height, calcium_silicate_height, height_limit}
use Rattle.storey.specs.Limits.{too_high, slenderness_limit, limits}
use Rattle.storey.specs.Check.{measures, parts, check, assessment, behind, Assessed}

-- Document 02, #101: "0 for a one-way slab". Refusal 9 and m then take L, as document 01 has it.
abbrev pub OneWaySpans : Type 0
OneWaySpans = (L : ℕ) → (governing_span L 0 ≡ L) × (support_span L 0 ≡ whole L)

-- #101 speaks of both spans alike: which of them is entered as L makes no difference.
abbrev pub SpansExchange : Type 0
SpansExchange = (L M : ℕ) → 0 < L → 0 < M → (governing_span L M ≡ governing_span M L) × (support_span L M ≡ support_span M L)

-- Document 02, #102: without the mark the heights are document 01's, whatever the wind.
abbrev pub UnmarkedHeight : Type 0
UnmarkedHeight = (w : StoreyWall) → w.calciumsilicate ≡ 0 → height_limit w ≡ general_height w.usage w.thickness

-- #102, "greater strength still never hurts acceptance": the height of a calcium silicate wall is never below document 01's,
abbrev pub CalciumSilicateNoLower : Type 0
CalciumSilicateNoLower = (usage t F : ℕ) → NoLower (general_height usage t) (calcium_silicate_height usage t F)

-- .. and it never falls as F grows.
abbrev pub CalciumSilicateGrows : Type 0
CalciumSilicateGrows = (usage t F F' : ℕ) → F ≤ F' → NoLower (calcium_silicate_height usage t F) (calcium_silicate_height usage t F')

-- #102: "Of refusals 3 to 13 only 6 changes meaning." With another mark and wind a record has the same limits but for the test of 6, the same test of 13, and
-- the same E, N and resistance.
abbrev pub OnlyHeightChanges : Type 0
OnlyHeightChanges =
    (w : StoreyWall) (mark wind : ℕ) →
    let other = with_wind (with_calcium_silicate w mark) wind in
    (limits other ≡ map (λ (limit : ℕ × Bool). cond (eqb limit.0 6) (6, too_high other) limit) (limits w))
    × (measures other ≡ measures w)
    × (buckling_length other ≡ buckling_length w)
    × (load other ≡ load w)
    × (resistance other ≡ resistance w)

-- Document 02, #103: "Lighter loads must go on leaving an accepted wall accepted, also across q = 3000". Where neither G nor Q nor q falls, N does not fall.
abbrev pub LoadGrows : Type 0
LoadGrows = (w w' : StoreyWall) → w.dead ≤ w'.dead → w.imposed ≤ w'.imposed → w.floorload ≤ w'.floorload → load w ≤ load w'

-- #103, "the smaller of that and 1.35G + 1.5Q": N is never above that of 1.35G + 1.5Q, rounded alike. With `AcceptedExactly`: a wall accepted with that load is accepted.
abbrev pub LoadNoGreater : Type 0
LoadNoGreater = (w : StoreyWall) → load w ≤ rounded_load (general_load w.dead w.imposed)

-- E is the exact buckling length rounded up.
abbrev pub LengthRoundedUp : Type 0
LengthRoundedUp = (w : StoreyWall) → in_range w ≡ true → LeastAtOrAbove (buckling_length w) (exact_length w)

-- "That resistance never exceeds the exact fraction (0 where negative) and is less than 1 N/m below it."
abbrev pub ResistanceRoundedDown : Type 0
ResistanceRoundedDown =
    (w : StoreyWall) → in_range w ≡ true → LessThanOneBelow (resistance w) (exact_resistance w (whole (buckling_length w)))

-- "Accepted exactly when every limit holds and the reported load is at most the reported resistance."
abbrev pub AcceptedExactly : Type 0
AcceptedExactly = (w : StoreyWall) → Accepted (check w) ↔ ((in_range w ≡ true) × NoneApplies (limits w) × (load w ≤ resistance w))

-- The check stands on the assessment: behind it come 12 and what is reported.
abbrev pub CheckBehindAssessment : Type 0
CheckBehindAssessment = (w : StoreyWall) → check w ≡ behind (first_or refused_with (slenderness_limit w) (reported (parts w))) (assessment w)

-- The numbers of an assessment are E, N and the reduction of a record in range that no refusal up to 11 applies to.
abbrev pub AssessmentNumbers : Type 0
AssessmentNumbers = (w : StoreyWall) (E N fifths : ℕ) → assessment w ≡ Ok (record { buckling = E; load = N; fifths = fifths }) → Assessed w E N fifths
