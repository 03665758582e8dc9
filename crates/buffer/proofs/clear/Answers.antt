-- `buffer::clear` meets its contract.
use Rattle.std.proofs.Common.{ℕ, arith, ap, ◌+◌, ◌≡◌, ◌∙◌, length, replicate, length-take, length-drop, sym}
use lib.ListN.{length-replicate}
use Rattle.buffer.proofs.Overwrite.{overwrite_lent, overwrite_beyond}
use Rattle.buffer.proofs.clear.Goals as goal

pub returns-in-Some : goal.returns-in-Some
returns-in-Some c =
    let here = c.in-Some.ensures in
    let count : length (replicate {A = ℕ} c.args.count 0) ≡ c.args.count = length-replicate c.args.count 0 in
    let zeros = c.fill.ensures.after (λ y e. e) ∙ ap (λ n. replicate n 0) (simp (length-take, length-drop) (omega arith)) in
    overwrite_lent _ _ _ _ _ here.0 (here.1 ∙ ap (λ n. c.args.at + n) (sym count)) here.2 zeros

pub returns-in_default : goal.returns-in_default
returns-in_default c = sym (overwrite_beyond _ _ _ (rw length-replicate c.in_default.ensures))
