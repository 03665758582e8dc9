-- The loop of `archive::block::sum_of`: the sum of the bytes so far, modulo 65536.
use Rattle.std.proofs.Common.{◌≡◌, ◌%◌, sum, take}
use Rattle.archive.proofs.block.sum_of.Given as goal

abbrev pub invariant-loop-byte : goal.invariant-loop-byte
invariant-loop-byte l = l.sum ≡ sum (take l.byte-index l.fn.bytes) % 65536
