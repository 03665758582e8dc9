-- `report::write` meets its contract: the text is the five numbers, put before one another from the last to the first.
use Rattle.std.proofs.Common.{◌≡◌, ◌∙◌, FitsSigned, w64, ap, rules}
use mir.Facts.{to_z-of_z}
use Rattle.report.specs.Text.{result_text}
use Rattle.report.specs.Written.{text_written}
use Rattle.report.proofs.Text.{text_in_order}
use Rattle.report.proofs.write.Goals as goal

pub returns : goal.returns
returns c =
    let fits : FitsSigned w64 c.args.outcome.spare = search rules in
    let whole : c.as_bytes.result.now ≡ result_text c.args.outcome = cc (text_in_order c.args.outcome, to_z-of_z fits) in
    c.put.ensures ∙ ap (λ text. text_written text c.args.out.now) whole
