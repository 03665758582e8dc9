-- The loop of `archive::count_line_ends`: the lines that end in the parts so far, and in what is not counted yet.
use Prim.Native.Nat.{◌+◌}
use Rattle.std.proofs.Common.{◌≡◌, length}
use Rattle.archive.proofs.Claims.{line_ends}
use Rattle.archive.proofs.count_line_ends.Given as goal

abbrev pub invariant-loop-uncounted : goal.invariant-loop-uncounted
invariant-loop-uncounted l = l.ends + line_ends l.uncounted ≡ line_ends l.fn.text

abbrev pub decreases-loop-uncounted : goal.decreases-loop-uncounted
decreases-loop-uncounted l = length l.uncounted
