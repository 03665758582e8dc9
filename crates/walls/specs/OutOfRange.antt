-- 2: "a number out of range", for any numbers at all, also those that no line can hold.
use Rattle.std.specs.Prelude.{ℕ, ◌-◌, ◌^◌, false, map, ◌≡◌}
use Rattle.basis.specs.Result.{refused_with}
use Rattle.storey.specs.Record as StoreyRecord
use Rattle.storey.specs.Record.{storey_of}
use Rattle.cellar.specs.Record as CellarRecord
use Rattle.cellar.specs.Record.{cellar_of}
use Rattle.walls.specs.declared.Wall.{Wall}
use Rattle.walls.specs.declared.Wall.TheVariants.{Storey, Cellar}
use Rattle.walls.specs.Check.{in_range, check}
use Rattle.walls.specs.Examples.{example_a, example_k}

abbrev pub OutOfRangeRefused : Type 0
OutOfRangeRefused = (wall : Wall) → in_range wall ≡ false → check wall ≡ refused_with 2

-- The greatest number of a machine word in every field.
abbrev pub most : ℕ
most = 2 ^ 64 - 1

abbrev pub GreatestRefused : Type 0
GreatestRefused =
    (check (Storey (storey_of (map (λ _. most) (StoreyRecord.numbers example_a)))) ≡ refused_with 2)
    × (check (Cellar (cellar_of (map (λ _. most) (CellarRecord.numbers example_k)))) ≡ refused_with 2)
