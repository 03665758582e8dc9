-- `wallcheck::check_line_taken` meets its contract: the result and the count in one.
use Rattle.wallcheck.proofs.check_line_taken.Goals as goal

pub returns : goal.returns
returns c = c.check_counting-result.ensures
