-- `report::put` meets its contract.
use Rattle.std.proofs.Common.{refl}
use Rattle.report.proofs.Written.{text_fits_in, text_beyond}
use Rattle.report.proofs.put.Goals as goal

pub returns : goal.returns
returns c = text_fits_in c.args.text.now c.args.out.now c.if-out-text.false c.copy.ensures refl

pub returns-then-out-text : goal.returns-then-out-text
returns-then-out-text c = text_beyond c.args.text.now c.args.out.now c.if-out-text.true
