-- `archive::write_blocks` meets its contract.
use Rattle.archive.proofs.Storing.{stored_good, stored_beyond, stored_never}
use Rattle.archive.proofs.write_blocks.Goals as goal

pub returns : goal.returns
returns c = stored_good _ _ c.in-Ok.ensures c.if-out-count.false c.pack.ensures

pub returns-in_default : goal.returns-in_default
returns-in_default c = stored_never _ _ c.in_default.ensures

pub returns-then-out-count : goal.returns-then-out-count
returns-then-out-count c = stored_beyond _ _ c.in-Ok.ensures c.if-out-count.true
