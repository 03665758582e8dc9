-- `archive::block::read_block` meets its contract.
use Rattle.std.proofs.Common.{arith, sym, ◌∙◌}
use Rattle.archive.proofs.BlockParts.{valid_parts, read_valid, read_refused, used_lem}
use Rattle.archive.proofs.block.read_block.Goals as goal

pub returns-then-not-is_valid : goal.returns-then-not-is_valid
returns-then-not-is_valid c = read_refused _ c.if-not-is_valid.ensures

pub number_at-requires : goal.number_at-requires
number_at-requires c = omega (arith, (valid_parts c.args.block.now (sym c.if-not-is_valid.ensures)).size)

pub returns : goal.returns
returns c =
    let count = c.from-count.ensures ∙ c.number_at.ensures ∙ sym (used_lem c.args.block.now) in
    read_valid _ c.if-not-is_valid.ensures count c.split_at.ensures.back c.split_at-2.ensures.front

pub split_at-requires : goal.split_at-requires
split_at-requires c = omega (arith, (valid_parts c.args.block.now (sym c.if-not-is_valid.ensures)).size)

pub split_at-requires-2 : goal.split_at-requires-2
split_at-requires-2 c =
    let fits = valid_parts c.args.block.now (sym c.if-not-is_valid.ensures) in
    omega (arith, fits.size, fits.count, c.from-count.ensures, c.number_at.ensures, used_lem c.args.block.now, c.split_at.ensures.back_len)
