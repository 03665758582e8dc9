-- `archive::block::whole_lines` meets its contract.
use Rattle.std.proofs.Common.{arith}
use Rattle.archive.proofs.BlockParts.{whole_none, whole_last}
use Rattle.archive.proofs.block.whole_lines.Goals as goal

pub returns-in-Some : goal.returns-in-Some
returns-in-Some c = whole_last _ _ c.in-Some.ensures.value

pub returns-in-None : goal.returns-in-None
returns-in-None c = whole_none _ (omega (arith, c.in-None.ensures.item))
