-- `Block::in_range` meets its contract: both tests are those of the ranges.
use Rattle.std.proofs.Common.{◌∙◌, ap₂}
use mathlib.Core.Bool.{Bool, ◌&&◌}
use Rattle.basis.proofs.Range.{contains_within}
use Rattle.selection.proofs.Blocks.{in_range_chain}
use Rattle.selection.proofs.Block.in_range.Goals as goal

pub returns : goal.returns
returns c =
    ap₂ (λ (strength price : Bool). strength && price)
    (c.contains.ensures.value ∙ contains_within c.new.result 1 5000 c.args.self.strength c.new.ensures.start c.new.ensures.end c.new.ensures.exhausted)
    (c.contains-2.ensures.value ∙ contains_within c.new-2.result 1 1000000 c.args.self.price c.new-2.ensures.start c.new-2.ensures.end c.new-2.ensures.exhausted)
    ∙ in_range_chain c.args.self
