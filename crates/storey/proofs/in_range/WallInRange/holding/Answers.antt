-- `WallInRange::holding` meets its contract: the ranges have no other number, and on two sides no distance but 0.
use Rattle.std.proofs.Common.{arith, ◌≡◌, sym}
use Rattle.storey.proofs.Range.{in_ranges, no_distance}
use Rattle.storey.proofs.in_range.WallInRange.holding.Goals as goal

pub returns-in_default-clause-held : goal.returns-in_default-clause-held
returns-in_default-clause-held c = omega (arith, in_ranges c.args.self.wall c.args.self.in_range, c.in_default)

pub returns-in_default-clause-distance : goal.returns-in_default-clause-distance
returns-in_default-clause-distance c =
    let two : c.args.self.wall.held ≡ 2 = omega (arith, in_ranges c.args.self.wall c.args.self.in_range, c.in_default) in
    sym (no_distance c.args.self.wall c.args.self.in_range two)
