-- `block_list::choose` meets its contract: the first line, and the blocks of the lines behind its end.
use Rattle.std.proofs.Common.{◌∙◌, ℕ, List, take, sym, ap, ap₂, arith}
use lib.Seq.{length-take-le}
use Rattle.text.specs.LineEnd.{lines_of}
use Rattle.block_list.specs.Reading.{read_blocks}
use Rattle.block_list.specs.Choice.{choice_listed}
use Rattle.block_list.proofs.Choosing.{choice_too_long, choice_parted, end_within, lines_behind, first_line}
use Rattle.block_list.proofs.choose.Goals as goal

pub overflow_add-end : goal.overflow_add-end
overflow_add-end c = omega (arith, end_within c.args.text.now c.line_end-end.result c.line_end-end.ensures)

pub slice_bounds-choose-end : goal.slice_bounds-choose-end
slice_bounds-choose-end c = search (end_within c.args.text.now c.line_end-end.result c.line_end-end.ensures, length-take-le)

pub returns-in-Some : goal.returns-in-Some
returns-in-Some c =
    let text = c.args.text.now in
    let blocks = sym c.in-Some.ensures.1 ∙ ap (λ (l : List ℕ). read_blocks (lines_of l)) (lines_behind text _ c.line_end-end.ensures _ c.min-behind.ensures) in
    c.choose.ensures ∙ ap₂ choice_listed (first_line text _ c.line_end-end.ensures) blocks ∙ sym (choice_parted text)

pub returns-in-None : goal.returns-in-None
returns-in-None c =
    let text = c.args.text.now in
    let blocks = lines_behind text _ c.line_end-end.ensures _ c.min-behind.ensures in
    c.from.ensures
    ∙ sym (choice_too_long (take c.line_end-end.result text) _ c.in-None.ensures)
    ∙ ap₂ (λ (line l : List ℕ). choice_listed line (read_blocks (lines_of l))) (first_line text _ c.line_end-end.ensures) blocks
    ∙ sym (choice_parted text)
