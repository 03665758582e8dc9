-- Document 01, "Plausible readings that are false": each reading as a statement about the definitions. Each is refuted in proofs/FalseReadings.antt.
use Rattle.std.specs.Prelude.{ℕ, ◌≤◌, true, ◌≡◌}
use Rattle.basis.specs.Fraction.{whole, times, floor, nearest}
use Rattle.basis.specs.Result.{Accepted}
use Rattle.storey.specs.declared.StoreyWall.{StoreyWall}
use Rattle.storey.specs.Range.{in_range}
use Rattle.storey.specs.BucklingLength.{exact_length, buckling_length}
use Rattle.storey.specs.Resistance.{support_factor_of, unreduced, reduction, resistance}
use Rattle.storey.specs.Check.{check}
use Rattle.storey.specs.Record.{with_thickness, with_height, with_distance, with_bearing}

-- "A lower wall buckles over a shorter length", on three sides.
abbrev pub LowerIsShorter : Type 0
LowerIsShorter = (w : StoreyWall) (h : ℕ) → w.held ≡ 3 → h ≤ w.height → buckling_length (with_height w h) ≤ buckling_length w

-- The same for acceptance: demand 3 without its clause for three sides.
abbrev pub LowerStaysAccepted : Type 0
LowerStaysAccepted =
    (w : StoreyWall) (h : ℕ) → in_range (with_height w h) ≡ true → h ≤ w.height → Accepted (check w) → Accepted (check (with_height w h))

-- "A narrower wall held on four sides is stiffer".
abbrev pub NarrowerIsStiffer : Type 0
NarrowerIsStiffer = (w : StoreyWall) (c : ℕ) → w.held ≡ 4 → c ≤ w.distance → buckling_length (with_distance w c) ≤ buckling_length w

-- "Thicker is stronger", with full bearing.
abbrev pub ThickerIsStronger : Type 0
ThickerIsStronger = (w : StoreyWall) (t : ℕ) → w.thickness ≡ w.bearing → w.thickness ≤ t → resistance w ≤ resistance (with_bearing (with_thickness w t) t)

-- "Rounding E to nearest".
abbrev pub LengthToNearest : Type 0
LengthToNearest = (w : StoreyWall) → buckling_length w ≡ nearest (exact_length w)

-- "Rounding before the factor 4/5".
abbrev pub RoundedBeforeReduction : Type 0
RoundedBeforeReduction =
    (w : StoreyWall) →
    resistance w
    ≡ floor
    (times (reduction w)
    (whole
    (floor
    (unreduced w.support w.thickness w.bearing w.strength (support_factor_of w) (whole (buckling_length w))))))
