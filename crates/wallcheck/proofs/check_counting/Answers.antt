-- `wallcheck::check_counting` meets its contract: the reading's cases.
use mathlib.Core.Path.{◌∙◌, ap, sym}
use Rattle.line.specs.Reading.{reading_result}
use Rattle.walls.specs.Check.{check}
use Rattle.wallcheck.proofs.Entry.{counted_result_lem}
use Rattle.wallcheck.proofs.check_counting.Goals as goal

pub returns-in-Some : goal.returns-in-Some
returns-in-Some c = counted_result_lem _ _ _ c.read-reading.ensures (c.check.ensures ∙ sym (ap (reading_result check) c.in-Some.is))

pub returns-in-None : goal.returns-in-None
returns-in-None c = counted_result_lem _ _ _ c.read-reading.ensures (c.from.ensures ∙ sym (ap (reading_result check) c.in-None.is))
