-- `block_list::block_line::read_block` meets its contract.
use Rattle.std.proofs.Common.{◌∙◌, ◌+◌, Option, ℕ, drop, ap, ap₂}
use Rattle.std.proofs.lemmas.List.{take_rest}
use Rattle.block_list.specs.Reading.{block_of, parted, read_number, read_block}
use Rattle.block_list.proofs.block_line.read_block.Goals as goal

pub returns-in_err-space : goal.returns-in_err-space
unfolding read_block
returns-in_err-space c = c.from_residual.ensures ∙ ap (parted c.args.line.now) c.in_err-space.ensures

pub returns-in_err-strength : goal.returns-in_err-strength
unfolding read_block
returns-in_err-strength c =
    c.from_residual-in_err-strength.ensures
    ∙ ap (λ (strength : Option ℕ). block_of strength (read_number (drop (c.in_ok-space.space + 1) c.args.line.now))) c.in_err-strength.ensures
    ∙ ap (parted c.args.line.now) c.in_ok-space.ensures

pub returns-in_err-price : goal.returns-in_err-price
unfolding read_block
returns-in_err-price c =
    c.from_residual-in_err-price.ensures
    ∙ ap₂ block_of c.in_ok-strength.ensures (c.in_err-price.ensures ∙ ap read_number (take_rest c.args.line.now (c.in_ok-space.space + 1)))
    ∙ ap (parted c.args.line.now) c.in_ok-space.ensures

pub returns : goal.returns
unfolding read_block
returns c =
    ap₂ block_of c.in_ok-strength.ensures (c.in_ok-price.ensures ∙ ap read_number (take_rest c.args.line.now (c.in_ok-space.space + 1)))
    ∙ ap (parted c.args.line.now) c.in_ok-space.ensures
