-- Document 01, "Comparison of records": demand 3, one claim for two storey records and one for the cellar records between two.
-- Both are about `check`, the definition that every result is computed by, and read the verdict and the resistance off its numbers.
use Rattle.std.specs.Prelude.{◌≤◌, true, ◌≡◌}
use Rattle.basis.specs.Result.{Accepted}
use Rattle.storey.specs.declared.StoreyWall.{StoreyWall}
use Rattle.storey.specs.Comparison.{NoWorse}
use Rattle.cellar.specs.declared.CellarWall.{CellarWall}
use Rattle.cellar.specs.Comparison.{Between}
use Rattle.walls.specs.declared.Wall.TheVariants.{Storey, Cellar}
use Rattle.walls.specs.Check.{in_range, check}

-- "Two storey records in range, the second with no greater G, Q, q, L, H, h, no lower F, no shallower a, any of these at once, all else equal:
-- if the first is accepted so is the second, with at least the first's resistance." What document 02 asks: M equal (#101), and mark and wind
-- "equal in any two records compared" (#102), are part of `all_else` of `NoWorse`; #101's condition on L is its field `spans`. The claim
-- holds across q = 3000, where the load's formula changes (#103).
abbrev pub StoreyComparison : Type 0
StoreyComparison =
    (first second : StoreyWall) → in_range (Storey first) ≡ true → in_range (Storey second) ≡ true → NoWorse first second →
    Accepted (check (Storey first)) →
    Accepted (check (Storey second)) × ((check (Storey first)).resistance ≤ (check (Storey second)).resistance)

-- "Two accepted cellar records that differ at most in G and Q, neither falling: every record between them is accepted." Of e it asks only that they
-- share it, so it holds "with e above the ceiling or below it" (#105).
abbrev pub CellarComparison : Type 0
CellarComparison =
    (low high wall : CellarWall) → Accepted (check (Cellar low)) → Accepted (check (Cellar high)) → Between low high wall →
    Accepted (check (Cellar wall))
