-- The loop of `archive::count_in_part`: how many of the bytes so far are byte 10.
use Rattle.std.proofs.Common.{◌≡◌, take}
use Rattle.archive.proofs.Claims.{line_ends}
use Rattle.archive.proofs.count_in_part.Given as goal

abbrev pub invariant-loop-byte : goal.invariant-loop-byte
invariant-loop-byte l = l.ends ≡ line_ends (take l.byte-index l.fn.part)
