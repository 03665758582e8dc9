-- The heights of calcium silicate walls, computed.
use mathlib.Core.Path.{refl}
use Rattle.walls.specs.CalciumSilicate.{HeightsAtEveryEdge, TallerAccepted}
use Rattle.walls.proofs.Computes.{computes}

pub heights_at_every_edge : HeightsAtEveryEdge
unfolding computes
heights_at_every_edge = refl

pub taller_accepted : TallerAccepted
unfolding computes
taller_accepted = (refl, refl, refl)
