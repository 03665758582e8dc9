-- `WallInRange::support` meets its contract: the range has no other number.
use Rattle.std.proofs.Common.{arith}
use Rattle.storey.proofs.Range.{in_ranges}
use Rattle.storey.proofs.in_range.WallInRange.support.Goals as goal

pub returns-in_default : goal.returns-in_default
returns-in_default c = omega (arith, in_ranges c.args.self.wall c.args.self.in_range, c.in_default)
