-- `ComparableRange::best` meets its contract: each number of the record is the definition's.
use mathlib.Core.Path.{refl}
use Rattle.early_design.proofs.ComparableRange.best.Goals as goal

pub returns : goal.returns
returns c = refl
