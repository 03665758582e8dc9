-- Of two records accepted with the same W all loads between are accepted. The argument in plain words: the ordinary check accepts the record between, since its loads are no
-- greater than the high end's (demand 3); its G reaches the need, which does not look at the loads, since it is no less than the low end's.
use Prim.Native.Nat.{ℕ, ◌≤◌}
use mathlib.Core.Bool.{true}
use mathlib.Core.Path.{◌≡◌, refl}
use native.Mathlib.Omega.{arith}
use native.Mathlib.Nat.{le_refl}
use Rattle.basis.proofs.Range.{all_within_lem}
use Rattle.storey.specs.declared.StoreyWall.{StoreyWall}
use Rattle.storey.specs.Range.{ranges, in_range}
use Rattle.storey.proofs.Claims as StoreyClaims
use Rattle.storey.proofs.Range.{in_ranges}
use Rattle.walls.specs.Examples.{example_a}
use Rattle.walls.proofs.Comparison.{lighter_no_worse, storey_comparison}
use Rattle.walls.proofs.Computes.{computes}
use Rattle.minimum_load.specs.MinimumLoad.{exact_minimum_load, minimum_load}
use Rattle.minimum_load.specs.Check as Check
use Rattle.minimum_load.specs.Comparison.{with_loads, WithItsOwnLoads, loaded, BetweenAccepted, LighterStaysAccepted, LighterRefused}
use Rattle.minimum_load.proofs.Check.{accepted_exactly}

pub with_its_own_loads : WithItsOwnLoads
with_its_own_loads wall = refl

module _ (wall : StoreyWall) where
  -- The need does not look at the loads.
  need_same : (W G Q G' Q' : ℕ) → minimum_load (loaded wall W G Q) ≡ minimum_load (loaded wall W G' Q')
  unfolding exact_minimum_load minimum_load
  need_same W G Q G' Q' = refl

  -- Loads from those of a record in range on, up to those of another, are in range.
  range_kept : (G Q G' Q' dead imposed : ℕ) → G ≤ dead → dead ≤ G' → imposed ≤ Q' →
      in_range (with_loads wall G Q) ≡ true → in_range (with_loads wall G' Q') ≡ true → in_range (with_loads wall dead imposed) ≡ true
  unfolding in_range
  range_kept G Q G' Q' dead imposed dead_from dead_to imposed_to low high =
      let all = in_ranges (with_loads wall G Q) low in
      let all_high = in_ranges (with_loads wall G' Q') high in
      all_within_lem (ranges (with_loads wall dead imposed)) (omega arith)

pub between_accepted : BetweenAccepted
between_accepted wall W G Q G' Q' dead imposed low high dead_from dead_to imposed_from imposed_to =
    let from = (accepted_exactly (loaded wall W G Q)).0 low in
    let to = (accepted_exactly (loaded wall W G' Q')).0 high in
    let passed_low = ((StoreyClaims.accepted_exactly (with_loads wall G Q)).0 from.1).0 in
    let passed_high = ((StoreyClaims.accepted_exactly (with_loads wall G' Q')).0 to.1).0 in
    let passed = range_kept wall G Q G' Q' dead imposed dead_from dead_to imposed_to passed_low passed_high in
    (accepted_exactly (loaded wall W dead imposed)).1 (
      from.0,
      (storey_comparison (with_loads wall G' Q') (with_loads wall dead imposed) passed_high passed
          (lighter_no_worse (with_loads wall G' Q') dead imposed wall.floorload dead_to imposed_to (le_refl _)) to.1).0,
      omega (arith, need_same wall W G Q dead imposed, from.2, dead_from),
    )

pub lighter_refused : LighterRefused
unfolding computes exact_minimum_load minimum_load Check.in_range Check.second
lighter_refused = (refl, refl)

-- A with G=6062 and with G=6061, and W=780.
pub lighter_can_be_refused : LighterStaysAccepted → ⊥
unfolding computes exact_minimum_load minimum_load Check.in_range Check.second
lighter_can_be_refused reading =
    omega (
      arith,
      reading (with_loads example_a 6062 90000) (with_loads example_a 6061 90000) 780 refl refl
          (lighter_no_worse (with_loads example_a 6062 90000) 6061 90000 2250 (omega arith) (omega arith) (omega arith)) refl,
    )
