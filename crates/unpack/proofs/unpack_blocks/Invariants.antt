-- The loop of `unpack::unpack_blocks`: fewer bytes are left after each turn.
use lib.ListN.{length}
use Rattle.unpack.proofs.unpack_blocks.Given as goal

abbrev pub decreases-loop-rest : goal.decreases-loop-rest
decreases-loop-rest g l = length l.rest
