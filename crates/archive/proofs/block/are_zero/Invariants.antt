-- The loop of `archive::block::are_zero`: what is gathered is 0 where the sum of the bytes so far is.
use Rattle.std.proofs.Common.{◌≡◌, sum, take}
use lib.Dec.{eqb}
use Rattle.archive.proofs.block.are_zero.Given as goal

abbrev pub invariant-loop-byte : goal.invariant-loop-byte
invariant-loop-byte l = eqb l.gathered 0 ≡ eqb (sum (take l.byte-index l.fn.bytes)) 0
