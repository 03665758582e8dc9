-- `text::line_end` meets its contract.
use Rattle.std.proofs.Common.{arith, ap, ◌+◌, ◌∙◌, ◌≡◌, drop}
use Rattle.std.proofs.lemmas.List.{take_rest}
use Rattle.text.specs.LineEnd.{line_length}
use Rattle.text.proofs.LineEnd.{end_behind, line_length_first}
use Rattle.text.proofs.line_end.Goals as goal

pub returns : goal.returns
returns c =
    let rest : c.in-Some.rest.now ≡ drop c.args.from c.args.block.now = c.in-Some.ensures.lookup.0.2 ∙ take_rest c.args.block.now c.args.from in
    ap (λ n. c.args.from + n) (c.unwrap_or.ensures ∙ line_length_first _ _ c.memchr.ensures ∙ ap line_length rest)

pub returns-in_default : goal.returns-in_default
returns-in_default c = end_behind _ _ (omega (arith, c.in_default.ensures.lookup))
