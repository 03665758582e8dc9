-- The loop of `schedule::answer_all`: a turn after which an ended line is left has taken at least one, so fewer bytes are held.
use Rattle.schedule.proofs.answer_all.Given as goal

abbrev pub decreases-loop : goal.decreases-loop
decreases-loop g l = l.input.held
