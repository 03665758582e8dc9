-- `archive::last_end` meets its contract.
use Rattle.archive.proofs.Lines.{last_end_none, last_end_some}
use Rattle.archive.proofs.last_end.Goals as goal

pub returns-in-Some : goal.returns-in-Some
returns-in-Some c = last_end_some _ _ c.in-Some.ensures

pub returns-in-None : goal.returns-in-None
returns-in-None c = last_end_none _ c.in-None.ensures
