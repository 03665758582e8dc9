-- `archive::block::write_block` meets its contract.
use Rattle.std.proofs.Common.{arith, refl}
use Rattle.archive.proofs.BlockParts.{block_written}
use Rattle.archive.proofs.block.write_block.Goals as goal

pub returns : goal.returns
returns c =
    block_written c.args.lines.now c.split_at_mut-head.result.1.now c.requires.capacity
    (omega (arith, c.split_at_mut-head.ensures.back_len, c.requires.block)) c.copy.ensures c.clear.ensures c.to_le_bytes-count.ensures c.sum_of.ensures
    c.sum_of-2.ensures refl c.to_le_bytes-sum.ensures c.copy_from_slice.ensures.after
