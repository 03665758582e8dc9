-- `schedule::turn` is safe: the text of the last line fits the output.
use native.Mathlib.Omega.{arith}
use Rattle.lines.proofs.Bounds.{last_within}
use Rattle.schedule.proofs.turn.Goals as goal

pub shared_ref_as_front-write : goal.shared_ref_as_front-write
shared_ref_as_front-write g c = omega (arith, last_within _ _ c.answer_last-written.ensures, c.answer_last-written.auto.output)
