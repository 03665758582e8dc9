-- `archive::block::number_at` meets its contract.
use Rattle.std.proofs.Common.{arith}
use Rattle.archive.specs.Block.{number_at}
use Rattle.archive.proofs.block.number_at.Goals as goal

pub returns : goal.returns
unfolding number_at
returns c = omega (arith, c.from_le_bytes.ensures)
