-- `buffer::copy` meets its contract.
use Rattle.std.proofs.Common.{sym}
use Rattle.buffer.proofs.Overwrite.{overwrite_lent, overwrite_beyond}
use Rattle.buffer.proofs.copy.Goals as goal

pub returns-in-Some : goal.returns-in-Some
returns-in-Some c =
    let here = c.in-Some.ensures in
    overwrite_lent _ _ _ _ _ here.0 here.1 here.2 c.copy_from_slice.ensures.after

pub returns-in_default : goal.returns-in_default
returns-in_default c = sym (overwrite_beyond _ _ _ c.in_default.ensures)
