-- The loop of `archive::unpack`, `Unread`: what is written so far, and the blocks that are left.
use Prim.Native.Nat.{◌-◌, ◌/◌}
use lib.ListN.{length}
use Rattle.archive.proofs.Unpacking.{Unread}
use Rattle.archive.proofs.unpack.Given as goal

abbrev pub invariant-loop-blocks : goal.invariant-loop-blocks
invariant-loop-blocks l = Unread l.fn.archive l.fn.out l.out l.rest (length l.fn.out / 512 - l.blocks) l.blocks l.written

abbrev pub decreases-loop-blocks : goal.decreases-loop-blocks
decreases-loop-blocks l = length l.fn.out / 512 - l.blocks
