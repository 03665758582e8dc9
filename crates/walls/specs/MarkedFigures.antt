-- Document 01, "Twelve marked figures": one table, and one statement that the definitions satisfy it.
use Rattle.std.specs.Prelude.{ℕ, Bool, true, ◌&&◌, List, [], ◌∷◌, ◌≡◌, eqb}
use Rattle.basis.specs.declared.CheckResult.{CheckResult}
use Rattle.storey.specs.Record.{with_support, with_span}
use Rattle.cellar.specs.Record.{with_spacing}
use Rattle.walls.specs.declared.Wall.{Wall}
use Rattle.walls.specs.declared.Wall.TheVariants.{Storey, Cellar}
use Rattle.walls.specs.Check.{check}
use Rattle.walls.specs.Examples.{example_a, example_held, example_k}

-- A record, which number of its result is marked, and the figure.
pub record Figure : Type 0 where
  pub wall : Wall
  pub number : CheckResult → ℕ
  pub figure : ℕ

-- E of a storey wall or the need of a cellar wall, the second number.
abbrev pub second_is : Wall → ℕ → Figure
second_is wall figure = record { wall = wall; number = λ result. result.second; figure = figure }

abbrev pub resistance_is : Wall → ℕ → Figure
resistance_is wall figure = record { wall = wall; number = λ result. result.resistance; figure = figure }

abbrev pub marked_figures : List Figure
marked_figures =
    -- "With t=a=175: E at h=2625 is 19688 on two sides"
    second_is (Storey (example_held 2625 2 0)) 19688
    -- "three sides c=1500: 16525, c=2626: 19688"
    ∷ second_is (Storey (example_held 2625 3 1500)) 16525
    ∷ second_is (Storey (example_held 2625 3 2626)) 19688
    -- "four sides c=3000: 13762, c=2625: 12600, c=2624: 13120"
    ∷ second_is (Storey (example_held 2625 4 3000)) 13762
    ∷ second_is (Storey (example_held 2625 4 2625)) 12600
    ∷ second_is (Storey (example_held 2625 4 2624)) 13120
    -- "Three sides c=500: h=2000 gives 7500, h=2400 gives 7378."
    ∷ second_is (Storey (example_held 2000 3 500)) 7500
    ∷ second_is (Storey (example_held 2400 3 500)) 7378
    -- "Resistance 352425 and 297500 as above": A, and A with support 2 and L=6000
    ∷ resistance_is (Storey example_a) 352425
    ∷ resistance_is (Storey (with_span (with_support example_a 2) 6000)) 297500
    -- "K's need with c=2500: 13699, c=3750: 18265."
    ∷ second_is (Cellar (with_spacing example_k 2500)) 13699
    ∷ second_is (Cellar (with_spacing example_k 3750)) 18265
    ∷ []

abbrev pub all_agree : List Figure → Bool
all_agree [] = true
all_agree (f ∷ fs) = eqb (f.number (check f.wall)) f.figure && all_agree fs

abbrev pub MarkedFiguresAgree : Type 0
MarkedFiguresAgree = all_agree marked_figures ≡ true
