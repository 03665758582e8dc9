-- Document 02, #106: its figures.
use Rattle.std.specs.Prelude.{◌≡◌}
use Rattle.basis.specs.Result.{filled_with}
use Rattle.storey.specs.Record.{with_thickness, with_bearing}
use Rattle.walls.specs.Examples.{example_a}
use Rattle.minimum_load.specs.declared.TopStoreyWall.{TopStoreyWall}
use Rattle.minimum_load.specs.MinimumLoad.{minimum_load}
use Rattle.minimum_load.specs.Check.{check}

-- A with W=780.
abbrev pub example_a_in_wind : TopStoreyWall
example_a_in_wind = record { wall = example_a; designwind = 780 }

-- The wall of source document 003's example 5, 365 mm thick with a bearing of 243 mm, as A otherwise, with W=780.
abbrev pub example_five_in_wind : TopStoreyWall
example_five_in_wind = record { wall = with_bearing (with_thickness example_a 365) 243; designwind = 780 }

-- "W=780, h=2625 gives 6062 for a=175 and 4303 for a=243."
abbrev pub FiguresOf106 : Type 0
FiguresOf106 = (minimum_load example_a_in_wind ≡ 6062) × (minimum_load example_five_in_wind ≡ 4303)

-- All five numbers of A with W=780.
abbrev pub ExampleAInWind : Type 0
ExampleAInWind = check example_a_in_wind ≡ filled_with 0 6062 210000 352425
