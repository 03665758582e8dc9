-- `archive::block::are_zero` meets its contract.
use Rattle.std.proofs.Common.{ap, sym, sum, ◌∙◌}
use lib.Dec.{eqb}
use Rattle.std.proofs.lemmas.List.{take_all}
use Rattle.std.proofs.lemmas.List.Sums.{sum_by_more}
use Rattle.archive.proofs.BlockParts.{gathered_more, zeros_test}
use Rattle.archive.proofs.block.are_zero.Goals as goal

pub loop-byte-preserved : goal.loop-byte-preserved
loop-byte-preserved c =
    gathered_more _ _ _ c.loop-byte.invariant ∙ ap (λ n. eqb n 0) (sym (sum_by_more (λ n. n) c.args.bytes.now c.loop-byte.byte-index 0 c.loop-byte-test.true))

pub returns : goal.returns
returns c =
    c.loop-byte.invariant ∙ ap (λ l. eqb (sum l) 0) (take_all c.loop-byte.byte-index c.args.bytes.now c.loop-byte-test.false) ∙ sym (zeros_test c.args.bytes.now)
