-- `wallcheck_choose` meets its contract: the choice for what it is handed.
use Rattle.c_interface.proofs.wallcheck_choose.Goals as goal

pub returns : goal.returns
returns c = c.choose.ensures
