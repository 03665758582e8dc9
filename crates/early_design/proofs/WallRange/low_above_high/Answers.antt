-- `WallRange::low_above_high` meets its contract: test by test.
use mathlib.Core.Path.{refl}
use Rattle.early_design.specs.Check.{low_above_high}
use Rattle.early_design.proofs.WallRange.low_above_high.Goals as goal

pub returns : goal.returns
unfolding low_above_high
returns c = refl
