-- Records out of range.
use mathlib.Core.Path.{refl}
use Rattle.basis.proofs.Check.{result_out_of_range}
use Rattle.walls.specs.Check.{parts}
use Rattle.walls.specs.OutOfRange.{OutOfRangeRefused, GreatestRefused}
use Rattle.walls.proofs.Computes.{computes}

pub out_of_range_refused : OutOfRangeRefused
out_of_range_refused wall failed = result_out_of_range (parts wall) failed

pub greatest_refused : GreatestRefused
unfolding computes
greatest_refused = (refl, refl)
