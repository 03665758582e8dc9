-- `report::write_numbers` meets its contract: the three numbers, put before one another from the last to the first.
use Rattle.std.proofs.Common.{◌≡◌, ◌∙◌, sym, ap}
use Rattle.report.specs.Text.{numbers_text}
use Rattle.report.specs.Written.{text_written}
use Rattle.report.proofs.Text.{numbers_in_order}
use Rattle.report.proofs.write_numbers.Goals as goal

pub returns : goal.returns
returns c =
    let whole : c.as_bytes.result.now ≡ numbers_text c.args.first c.args.second c.args.third =
    rw (c.as_bytes.ensures, c.prepend-3.ensures.text, c.prepend-2.ensures.text, c.prepend.ensures.text, c.new-tail.ensures)
    (sym (numbers_in_order c.args.first c.args.second c.args.third)) in
    c.put.ensures ∙ ap (λ text. text_written text c.args.out.now) whole
