-- Document 02, #109, at examples: A of document 01 with other loads and strengths.
use Rattle.std.specs.Prelude.{ℕ}
use Rattle.basis.specs.Result.{Accepted}
use Rattle.storey.specs.declared.StoreyWall.{StoreyWall}
use Rattle.storey.specs.Record.{with_dead, with_imposed, with_strength}
use Rattle.storey.specs.Check as StoreyCheck
use Rattle.walls.specs.Examples.{example_a}
use Rattle.early_design.specs.Claims.{Answers}

abbrev pub example_a_with : (G Q F : ℕ) → StoreyWall
example_a_with G Q F = with_strength (with_imposed (with_dead example_a G) Q) F

-- "1 if every record between them is accepted, 2 if none is, 3 otherwise".
abbrev pub WorkedAnswers : Type 0
WorkedAnswers =
    Answers (example_a_with 50000 60000 400) (example_a_with 70000 90000 600) 1
    × Answers (example_a_with 120000 60000 300) (example_a_with 130000 60000 350) 2
    × Answers (example_a_with 50000 60000 300) (example_a_with 70000 90000 600) 3

-- The two given records do not decide: both are accepted and not every record between them is, or neither is and some record between them is.
abbrev pub GivenRecordsDoNotDecide : Type 0
GivenRecordsDoNotDecide =
    (Accepted (StoreyCheck.check (example_a_with 10000 50000 200))
    × Accepted (StoreyCheck.check (example_a_with 100000 90000 500))
    × Answers (example_a_with 10000 50000 200) (example_a_with 100000 90000 500) 3)
    × (Accepted (StoreyCheck.check (example_a_with 110000 0 200)) → ⊥)
    × (Accepted (StoreyCheck.check (example_a_with 160000 0 300)) → ⊥)
    × Answers (example_a_with 110000 0 200) (example_a_with 160000 0 300) 3
