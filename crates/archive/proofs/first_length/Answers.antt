-- `archive::first_length` meets its contract.
use Rattle.std.proofs.Common.{◌∙◌}
use Rattle.archive.proofs.Lines.{front_is}
use Rattle.archive.proofs.first_length.Goals as goal

pub returns : goal.returns
returns c = c.last_end.ensures ∙ front_is c.args.text.now c.min.ensures
