-- The examples of the choice.
use mathlib.Core.Path.{refl}
use Rattle.walls.proofs.Computes.{computes}
use Rattle.selection.specs.Blocks.{in_range, bad_list}
use Rattle.selection.specs.Choice.{accepted, price_competes, better, is_best, before_best, is_checked, checked_behind}
use Rattle.selection.specs.Figures.{WorkedChoices}

pub worked_choices : WorkedChoices
unfolding computes in_range bad_list accepted price_competes better is_best before_best is_checked checked_behind
worked_choices = (refl, refl, refl, refl, refl, refl)
