-- Lines of document 01, lines near to them, what each is read as, and how many of its bytes are taken.
use Rattle.std.specs.Prelude.{ℕ, ◌≡◌, List, [], ◌∷◌, map, Option, Some, None}
use Prim.Native.String.{String}
use Rattle.text.specs.Quoted.{bytes}
use Rattle.storey.specs.Record.{with_dead}
use Rattle.walls.specs.Examples.{example_a, example_k}
use Rattle.walls.specs.declared.Wall.TheVariants.{Storey, Cellar}
use Rattle.walls.specs.declared.Wall.{Wall}
use Rattle.line.specs.Reading.{counted_reading}

unfoldable pub worked : List (String × Option Wall × ℕ)
worked =
    ("S 1 175 2625 5000 2 0 1 5000 175 500 0 60000 90000 2250 9000 3 0 0 0", Some (Storey example_a), 68)
    -- nine digits, and a number that is in no range
    ∷ ("S 1 175 2625 5000 2 0 1 5000 175 500 0 999999999 90000 2250 9000 3 0 0 0", Some (Storey (with_dead example_a 999999999)), 72)
    ∷ ("S 1 175 2625 5000 2 0 1 5000 175 500 0 1000000000 90000 2250 9000 3 0 0 0", None, 49)
    ∷ ("S 1 175 2625 5000 2 0 1 5000 175 500 0 60000 90000 2250 9000 3 0 0 0 ", None, 69)
    ∷ ("S 1 175 2625 5000 2 0 1 5000 175 500 0 60000 90000 2250 9000 3 0 0 0\r", None, 69)
    ∷ ("S 1 175 2625 5000 2 0 1 5000 175 500 0 60000 90000 2250 9000 3 0 0 0 0", None, 69)
    -- document 02, #101: "a line with fewer numbers than its record then has is refusal 1"
    ∷ ("S 1 175 2625 5000 2 0 1 5000 175 500 0 60000 90000 2250 9000 3", None, 62)
    ∷ ("S 1 175 2625 5000 2 0 1 5000 175 500 0 60000 90000 2250 9000 3 0", None, 64)
    ∷ ("S 1 175 2625 5000 2 0 1 5000 175 500 0 60000 90000 2250 9000 3 0 0", None, 66)
    ∷ ("C 365 2500 2000 6000 20000 500 0 40000 10000 5000", Some (Cellar example_k), 49)
    ∷ ("c 365 2500 2000 6000 20000 500 0 40000 10000 5000", None, 1)
    -- document 02, #104: a short line has no wrong byte; a digit behind a lone 0 and a space behind a space are wrong
    ∷ ("S 175", None, 5)
    ∷ ("S 01", None, 4)
    ∷ ("S  1", None, 3)
    ∷ ("", None, 0)
    ∷ []

-- Each is read so.
abbrev pub WorkedLines : Type 0
WorkedLines =
    map (λ (line : String × Option Wall × ℕ). counted_reading (bytes line.0)) worked
    ≡ map (λ (line : String × Option Wall × ℕ). record { reading = line.1; taken = line.2 }) worked
