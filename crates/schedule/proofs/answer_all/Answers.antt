-- `schedule::answer_all` is safe and ends: the text lies within the output, and fewer bytes are held.
use native.Mathlib.Omega.{arith}
use borrow.Author.Tests.{not-false}
use Rattle.lines.proofs.Bounds.{written_within, held_falls}
use Rattle.schedule.proofs.answer_all.Goals as goal

pub shared_ref_as_front-write : goal.shared_ref_as_front-write
shared_ref_as_front-write g c =
    omega (arith, written_within c.loop.input.buffer.now c.loop.input.held c.loop.output c.answer-progress.ensures, c.answer-progress.auto.output)

pub loop-smaller : goal.loop-smaller
loop-smaller g c =
    held_falls c.loop.input.buffer.now c.loop.input.held c.loop.output c.answer-progress.ensures (omega (arith, c.answer-progress.auto.output)) (not-false _ c.if-not-progress.false)
