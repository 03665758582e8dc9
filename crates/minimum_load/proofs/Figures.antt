-- The figures of document 02, #106: they compute.
use mathlib.Core.Path.{refl}
use Rattle.walls.proofs.Computes.{computes}
use Rattle.minimum_load.specs.MinimumLoad.{exact_minimum_load, minimum_load}
use Rattle.minimum_load.specs.Check.{in_range, second}
use Rattle.minimum_load.specs.Figures.{FiguresOf106, ExampleAInWind}

pub figures_of_106 : FiguresOf106
unfolding computes exact_minimum_load minimum_load
figures_of_106 = (refl, refl)

pub example_a_in_wind_lem : ExampleAInWind
unfolding computes exact_minimum_load minimum_load in_range second
example_a_in_wind_lem = refl
