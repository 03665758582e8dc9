-- The definitions satisfy the twelve marked figures: the common statement computes.
use mathlib.Core.Path.{refl}
use Rattle.walls.specs.MarkedFigures.{MarkedFiguresAgree}
use Rattle.walls.proofs.Computes.{computes}

pub marked_figures_agree : MarkedFiguresAgree
unfolding computes
marked_figures_agree = refl
