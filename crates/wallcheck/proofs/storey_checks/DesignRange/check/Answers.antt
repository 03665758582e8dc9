-- `DesignRange::check` meets its contract: the two numbers of the answer.
use mathlib.Core.Path.{◌∙◌, ap}
use Rattle.early_design.specs.Check.{range_result}
use Rattle.wallcheck.proofs.storey_checks.DesignRange.check.Goals as goal

pub returns : goal.returns
returns g c = c.from.ensures ∙ ap range_result c.answer.ensures
