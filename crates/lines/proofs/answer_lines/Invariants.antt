-- The loop of `lines::answer_lines`, `Answering`: what is answered so far, and the room that is left.
use Prim.Native.Nat.{◌-◌}
use Rattle.lines.proofs.Answering.{Answering}
use Rattle.lines.proofs.answer_lines.Given as goal

abbrev pub invariant-loop : goal.invariant-loop
invariant-loop l = Answering l.fn.block l.fn.output l.output (l.end - l.counter) l.taken l.written
