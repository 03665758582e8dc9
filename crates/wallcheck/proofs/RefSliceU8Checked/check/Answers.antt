-- The check of a line meets its contract: the result without the count.
use mathlib.Core.Path.{ap}
use Rattle.wallcheck.specs.declared.CountedResult.{CountedResult}
use Rattle.wallcheck.specs.Entry.{counted_result}
use Rattle.wallcheck.proofs.RefSliceU8Checked.check.Goals as goal

pub returns : goal.returns
unfolding counted_result
returns c = ap (λ (counted : CountedResult). counted.result) c.check_counting.ensures
