-- `selection::choose` meets its contract: what `choice_or_refusal` gives is the choice, a refusal with its zeros.
use Rattle.std.proofs.Common.{◌∙◌, ap}
use Rattle.selection.proofs.Refusals.{given, given_choice}
use Rattle.selection.proofs.choose.Goals as goal

pub returns-in-Ok : goal.returns-in-Ok
returns-in-Ok c = ap given c.in-Ok.ensures ∙ given_choice c.args.wall c.args.blocks.now

pub returns-in-Err : goal.returns-in-Err
returns-in-Err c = c.from.ensures ∙ ap given c.in-Err.ensures ∙ given_choice c.args.wall c.args.blocks.now
