-- `selection::is_bad_list` meets its contract: the length first, then the blocks.
use Rattle.std.proofs.Common.{◌∙◌, sym, ap}
use mathlib.Core.Bool.{Bool, not, ◌||◌}
use Rattle.std.specs.List.{list_all}
use Rattle.selection.specs.Blocks.{in_range, bad_list}
use Rattle.selection.proofs.is_bad_list.Goals as goal

pub returns-then-blocks : goal.returns-then-blocks
unfolding bad_list
returns-then-blocks c = c.if-blocks.true ∙ ap (λ (b : Bool). b || not (list_all in_range c.args.blocks.now)) (sym c.if-blocks.true)

pub returns-else-blocks : goal.returns-else-blocks
unfolding bad_list
returns-else-blocks c = ap not c.every_in_range.ensures ∙ ap (λ (b : Bool). b || not (list_all in_range c.args.blocks.now)) (sym c.if-blocks.false)
