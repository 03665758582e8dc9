-- `lines::answer_lines` meets its contract: each turn answers the line that begins at `taken`, which byte 10 ends where the block does not.
use Prim.Native.Nat.{◌+◌, ◌-◌, ◌/◌}
use native.Mathlib.Omega.{arith}
use native.Mathlib.Nat.{sub-zero}
use lib.ListN.{length}
use mathlib.Core.Path.{sym, ◌∙◌}
use Rattle.text.proofs.LineEnd.{ended_within, unended_within}
use Rattle.lines.proofs.EndedLines.{ended_length_none, ended_length_zero}
use Rattle.lines.proofs.Answering.{answering_none, answering_done, answering_write, line_within}
use Rattle.lines.proofs.answer_lines.Goals as goal

pub loop-init : goal.loop-init
loop-init c = rw sub-zero (answering_none _ _)

pub loop-preserved : goal.loop-preserved
loop-preserved c =
    let some = ended_within _ _ c.loop.invariant.within (λ all. c.if-end-block.false (c.line_end-end.ensures ∙ all)) in
    answering_write _ c.loop.invariant (omega (arith, c.loop-test.true)) c.line_end-end.ensures some _ c.check-result.ensures c.write-written.ensures

pub slice_bounds-line-end : goal.slice_bounds-line-end
slice_bounds-line-end c =
    let some = ended_within _ _ c.loop.invariant.within (λ all. c.if-end-block.false (c.line_end-end.ensures ∙ all)) in
    omega (arith, line_within {rest = length c.args.output.now / 64 - (c.loop.counter + 1)} _ c.loop.invariant (omega (arith, c.loop-test.true)) c.line_end-end.ensures some)

pub returns-after-loop-clause-taken : goal.returns-after-loop-clause-taken
returns-after-loop-clause-taken c = (answering_done c.loop.invariant (ended_length_zero _ _ (omega (arith, c.loop-test.false)))).0

pub returns-after-loop-clause-written : goal.returns-after-loop-clause-written
returns-after-loop-clause-written c = (answering_done c.loop.invariant (ended_length_zero _ _ (omega (arith, c.loop-test.false)))).1.0

pub returns-after-loop-clause-text : goal.returns-after-loop-clause-text
returns-after-loop-clause-text c = (answering_done c.loop.invariant (ended_length_zero _ _ (omega (arith, c.loop-test.false)))).1.1

pub returns-then-end-block-clause-taken : goal.returns-then-end-block-clause-taken
returns-then-end-block-clause-taken c =
    (answering_done c.loop.invariant (ended_length_none _ _ (unended_within _ _ (sym c.line_end-end.ensures ∙ c.if-end-block.true)))).0

pub returns-then-end-block-clause-written : goal.returns-then-end-block-clause-written
returns-then-end-block-clause-written c =
    (answering_done c.loop.invariant (ended_length_none _ _ (unended_within _ _ (sym c.line_end-end.ensures ∙ c.if-end-block.true)))).1.0

pub returns-then-end-block-clause-text : goal.returns-then-end-block-clause-text
returns-then-end-block-clause-text c =
    (answering_done c.loop.invariant (ended_length_none _ _ (unended_within _ _ (sym c.line_end-end.ensures ∙ c.if-end-block.true)))).1.1
