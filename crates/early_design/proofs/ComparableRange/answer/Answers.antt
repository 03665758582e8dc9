-- `ComparableRange::answer` meets its contract: of the records between, the worst and the best decide.
use Rattle.early_design.proofs.Check.{not_refused}
use Rattle.early_design.specs.declared.RangeAnswer.TheVariants.{AllAccepted, NoneAccepted, SomeAccepted}
use Rattle.early_design.proofs.Claims.{answer_by, answers_all, answers_none, answers_some}
use Rattle.early_design.proofs.ComparableRange.answer.Goals as goal

pub returns-then-check-eq0 : goal.returns-then-check-eq0
returns-then-check-eq0 c =
    let low = c.args.self.range.low in
    let high = c.args.self.range.high in
    let none = not_refused low high c.args.self.low_in_range c.args.self.high_in_range c.args.self.low_and_high in
    let accepted = rw (c.check.ensures, c.worst.ensures) at c.if-check-eq0.true in
    answer_by low high AllAccepted (answers_all low high none accepted)

pub returns-then-check-eq0-2 : goal.returns-then-check-eq0-2
returns-then-check-eq0-2 c =
    let low = c.args.self.range.low in
    let high = c.args.self.range.high in
    let none = not_refused low high c.args.self.low_in_range c.args.self.high_in_range c.args.self.low_and_high in
    let refused = rw (c.check.ensures, c.worst.ensures) at c.if-check-eq0.false in
    let accepted = rw (c.check-2.ensures, c.best.ensures) at c.if-check-eq0-2.true in
    answer_by low high SomeAccepted (answers_some low high none refused accepted)

pub returns : goal.returns
returns c =
    let low = c.args.self.range.low in
    let high = c.args.self.range.high in
    let none = not_refused low high c.args.self.low_in_range c.args.self.high_in_range c.args.self.low_and_high in
    let refused = rw (c.check-2.ensures, c.best.ensures) at c.if-check-eq0-2.false in
    answer_by low high NoneAccepted (answers_none low high none refused)
