-- The loop of `selection::chosen`: the best of the blocks so far, and how many of them were checked.
use Rattle.std.proofs.Common.{take}
use Rattle.selection.proofs.BestSoFar.{SoFar}
use Rattle.selection.proofs.chosen.Given as goal

abbrev pub invariant-loop-index : goal.invariant-loop-index
invariant-loop-index l = SoFar l.fn.wall (take l.index l.fn.blocks) l.best l.checked
