-- The loop of `archive::count_blocks`, `Counted`: what is in blocks so far; fewer bytes are left after each turn.
use Prim.Native.Nat.{◌-◌}
use lib.ListN.{length}
use Rattle.archive.proofs.Counting.{Counted}
use Rattle.archive.proofs.count_blocks.Given as goal

abbrev pub invariant-loop-taken : goal.invariant-loop-taken
invariant-loop-taken l = Counted l.fn.text l.taken l.count

abbrev pub decreases-loop-taken : goal.decreases-loop-taken
decreases-loop-taken l = length l.fn.text - l.taken
