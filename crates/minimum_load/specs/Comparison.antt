-- Document 02, #106: "This check fails for too little load, so what holds is the cellar's sentence".
use Rattle.std.specs.Prelude.{ℕ, ◌≤◌, true, ◌≡◌}
use Rattle.basis.specs.Result.{Accepted, filled_with}
use Rattle.storey.specs.declared.StoreyWall.{StoreyWall}
use Rattle.storey.specs.Range.{in_range}
use Rattle.storey.specs.Record.{with_dead, with_imposed}
use Rattle.storey.specs.Comparison.{NoWorse}
use Rattle.walls.specs.Examples.{example_a}
use Rattle.minimum_load.specs.declared.TopStoreyWall.{TopStoreyWall}
use Rattle.minimum_load.specs.Check.{check}

-- The record with the loads G and Q.
abbrev pub with_loads : StoreyWall → (G Q : ℕ) → StoreyWall
with_loads wall G Q = with_imposed (with_dead wall G) Q

-- Every record is one with loads, its own. So two records that differ only in G and Q are one record with two pairs of loads.
abbrev pub WithItsOwnLoads : Type 0
WithItsOwnLoads = (wall : StoreyWall) → with_loads wall wall.dead wall.imposed ≡ wall

-- The record with the loads G and Q, and the design wind W.
abbrev pub loaded : StoreyWall → (W G Q : ℕ) → TopStoreyWall
loaded wall W G Q = record { wall = with_loads wall G Q; designwind = W }

-- "of two records accepted with the same W that differ only in G and Q, neither falling, all loads between are accepted with it", ends included.
abbrev pub BetweenAccepted : Type 0
BetweenAccepted =
    (wall : StoreyWall) (W G Q G' Q' dead imposed : ℕ) → Accepted (check (loaded wall W G Q)) → Accepted (check (loaded wall W G' Q')) →
    G ≤ dead → dead ≤ G' → Q ≤ imposed → imposed ≤ Q' → Accepted (check (loaded wall W dead imposed))

-- What does not hold: demand 3's comparison of two storey records, in which the second's loads are no greater. It is refuted in proofs/Comparison.antt.
abbrev pub LighterStaysAccepted : Type 0
LighterStaysAccepted =
    (first second : StoreyWall) (W : ℕ) → in_range first ≡ true → in_range second ≡ true → NoWorse first second →
    Accepted (check (record { wall = first; designwind = W })) → Accepted (check (record { wall = second; designwind = W }))

-- A with W=780 is accepted with G=6062, which is the need, and with 1 N/m less it is refused as 21.
abbrev pub LighterRefused : Type 0
LighterRefused =
    (check (loaded example_a 780 6062 90000) ≡ filled_with 0 6062 134487 352425)
    × (check (loaded example_a 780 6061 90000) ≡ filled_with 21 6062 134485 352425)
