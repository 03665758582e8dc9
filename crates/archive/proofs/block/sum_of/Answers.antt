-- `archive::block::sum_of` meets its contract.
use Rattle.std.proofs.Common.{arith}
use Rattle.std.proofs.lemmas.List.Sums.{sum_by_more}
use Rattle.archive.proofs.block.sum_of.Goals as goal

pub loop-byte-preserved : goal.loop-byte-preserved
loop-byte-preserved c =
    let more = sum_by_more (λ n. n) c.args.bytes.now c.loop-byte.byte-index 0 c.loop-byte-test.true in
    omega (arith, more, c.loop-byte.invariant, c.from-addend.ensures)
