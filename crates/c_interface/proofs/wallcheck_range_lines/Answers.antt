-- `wallcheck_range_lines` meets its contract: the answer for what it is handed.
use Rattle.c_interface.proofs.wallcheck_range_lines.Goals as goal

pub returns : goal.returns
returns c = c.check.ensures
