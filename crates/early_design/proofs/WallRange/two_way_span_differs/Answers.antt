-- `WallRange::two_way_span_differs` meets its contract: test by test.
use mathlib.Core.Path.{refl}
use Rattle.early_design.specs.Check.{two_way_span_differs}
use Rattle.early_design.proofs.WallRange.two_way_span_differs.Goals as goal

pub returns : goal.returns
unfolding two_way_span_differs
returns c = refl
