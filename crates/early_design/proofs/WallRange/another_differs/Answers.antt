-- `WallRange::another_differs` meets its contract: the derived comparison goes through the numbers in their order.
use mathlib.Core.Bool.{and-true}
use Rattle.early_design.specs.Check.{another_differs}
use Rattle.early_design.proofs.WallRange.another_differs.Goals as goal

pub returns : goal.returns
unfolding another_differs
returns c = rw (and-true _) c.ne.ensures
