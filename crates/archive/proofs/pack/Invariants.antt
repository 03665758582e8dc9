-- The loop of `archive::pack`, `Placed`: the blocks that are written so far, and the room that is left.
use Prim.Native.Nat.{◌-◌, ◌/◌}
use lib.ListN.{length}
use Rattle.archive.proofs.Placed.{Placed}
use Rattle.archive.proofs.pack.Given as goal

abbrev pub invariant-loop-blocks : goal.invariant-loop-blocks
invariant-loop-blocks l = Placed l.fn.text l.fn.complete l.fn.out l.out (length l.fn.out / 512 - l.blocks) l.taken l.blocks

abbrev pub decreases-loop-blocks : goal.decreases-loop-blocks
decreases-loop-blocks l = length l.fn.out / 512 - l.blocks
