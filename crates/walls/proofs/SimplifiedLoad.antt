-- The load on both sides of q = 3000: an instance of the comparison of records, and figures, computed.
use Prim.Native.Nat.{ℕ, ◌≤◌}
use mathlib.Core.Bool.{true}
use mathlib.Core.Path.{◌≡◌, refl}
use native.Mathlib.Nat.{le_refl}
use native.Mathlib.Omega.{arith}
use Rattle.basis.proofs.Range.{all_within_lem}
use Rattle.storey.specs.declared.StoreyWall.{StoreyWall}
use Rattle.storey.specs.Record.{with_floor_load}
use Rattle.storey.specs.Range.{ranges, in_range}
use Rattle.storey.proofs.Claims.{accepted_exactly}
use Rattle.storey.proofs.Range.{in_ranges}
use Rattle.cellar.specs.Load.{exact_load, load}
use Rattle.walls.specs.SimplifiedLoad.{AcceptedAcross3000, AcceptedWhereVersionTwoFailed, LoadsOnBothSides, CellarLoadStays}
use Rattle.walls.proofs.Comparison.{lighter_no_worse, storey_comparison}
use Rattle.walls.proofs.Computes.{computes}

-- A lower q is in range where a higher one is.
range_kept : (w : StoreyWall) (q : ℕ) → q ≤ w.floorload → in_range w ≡ true → in_range (with_floor_load w q) ≡ true
unfolding in_range
range_kept w q lower passed =
    let all = in_ranges w passed in
    all_within_lem (ranges (with_floor_load w q)) (omega (arith, lower))

pub accepted_across_3000 : AcceptedAcross3000
accepted_across_3000 w q above up_to_lem accepted =
    let lower : q ≤ w.floorload = omega (arith, above, up_to_lem) in
    let passed = ((accepted_exactly w).0 accepted).0 in
    (storey_comparison w (with_floor_load w q) passed (range_kept w q lower passed) (lighter_no_worse w w.dead w.imposed q (le_refl _) (le_refl _) lower) accepted).0

pub accepted_where_version_two_failed : AcceptedWhereVersionTwoFailed
unfolding computes
accepted_where_version_two_failed = (refl, refl, omega arith)

pub loads_on_both_sides : LoadsOnBothSides
unfolding computes
loads_on_both_sides = refl

pub cellar_load_stays : CellarLoadStays
unfolding exact_load load
cellar_load_stays w = refl
