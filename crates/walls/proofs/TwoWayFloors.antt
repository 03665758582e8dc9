-- The figures of two-way floors, computed.
use mathlib.Core.Path.{refl}
use Rattle.walls.specs.TwoWayFloors.{ShorterLosesReduction, ShorterLosesResistance}
use Rattle.walls.proofs.Computes.{computes}

pub shorter_loses_reduction : ShorterLosesReduction
unfolding computes
shorter_loses_reduction = (refl, refl)

pub shorter_loses_resistance : ShorterLosesResistance
unfolding computes
shorter_loses_resistance = (refl, refl)
