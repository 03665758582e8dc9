-- `Input::answer` meets its contract: its calls give what the laws of `AnswerCall` ask for.
use Rattle.lines.proofs.AnswerCall.{taken_within, left_within, answered_is}
use Rattle.lines.proofs.Input.answer.Goals as goal

pub overflow_sub-held : goal.overflow_sub-held
overflow_sub-held c = taken_within c.args.self.now.buffer.now c.args.output.now c.args.self.now.held c.args.self.now.within c.answer_lines-counts.ensures.taken

pub copy_within-requires-clause-in_bounds : goal.copy_within-requires-clause-in_bounds
copy_within-requires-clause-in_bounds c =
    left_within c.args.self.now.buffer.now c.args.output.now c.args.self.now.held c.args.self.now.within c.answer_lines-counts.ensures.taken
    c.line_end.ensures c.kept-left.ensures

pub returns : goal.returns
returns c =
    let counts = c.answer_lines-counts.ensures in
    answered_is c.args.self.now.buffer.now c.args.output.now c.args.self.now.held c.args.self.now.within counts.taken
    c.line_end.ensures c.kept-left.ensures counts.written counts.text c.copy_within.ensures.after
