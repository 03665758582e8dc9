-- `archive::block::is_valid` meets its contract.
use Rattle.std.proofs.Common.{refl, arith, sym, ◌∙◌, ◌≡◌}
use Rattle.archive.specs.Block.{used}
use Rattle.archive.proofs.BlockParts.{valid_size, valid_count, valid_tests, used_lem}
use Rattle.archive.proofs.block.is_valid.Goals as goal
use Rattle.archive.proofs.block.is_valid.Goals.{After-from-count}

count : (c : After-from-count) → c.from-count.result ≡ used c.args.block.now
count c = c.from-count.ensures ∙ c.number_at.ensures ∙ sym (used_lem c.args.block.now)

pub returns-then-block-ne-BLOCK : goal.returns-then-block-ne-BLOCK
returns-then-block-ne-BLOCK c = valid_size _ c.if-block-ne-BLOCK.true

pub returns-then-count-gt-CAPACITY : goal.returns-then-count-gt-CAPACITY
returns-then-count-gt-CAPACITY c = valid_count _ (omega (arith, count (goal.at.returns-then-count-gt-CAPACITY c).After-from-count, c.if-count-gt-CAPACITY.true))

pub returns : goal.returns
returns c =
    let rest = c.split_at.ensures in
    let parts = c.split_at-2.ensures in
    valid_tests _ c.if-block-ne-BLOCK.false c.if-count-gt-CAPACITY.false (count (goal.at.returns c).After-from-count) rest.back parts.front parts.back
    c.number_at-2.ensures c.sum_of.ensures c.sum_of-2.ensures refl c.are_zero.ensures c.whole_lines.ensures
