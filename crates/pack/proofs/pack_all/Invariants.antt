-- The loop of `pack::pack_all`: a turn after which it goes on has taken something, so fewer bytes are held.
use Rattle.pack.proofs.pack_all.Given as goal

abbrev pub decreases-loop-input : goal.decreases-loop-input
decreases-loop-input g l = l.input.held
