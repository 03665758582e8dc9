-- `selection::chosen` meets its contract: with each block the best and the count go on as proofs/BestSoFar says.
use Rattle.std.proofs.Common.{◌≡◌, ℕ, ◌+◌, ◌<◌, List, ◌++◌, [], ◌∷◌, take, get_or, length, refl, arith, add-one, length-take}
use Rattle.std.proofs.Math.Seq.{take-suc}
use Rattle.std.proofs.lemmas.List.{take_all}
use Rattle.selection.specs.declared.Block.{Block}
use Rattle.selection.specs.Choice.{checked_behind}
use Rattle.selection.proofs.BestSoFar.{counted_most, unchecked_turn, refused_turn, accepted_turn, chosen_so_far, none_so_far}
use Rattle.selection.proofs.chosen.Goals as goal
use Rattle.selection.proofs.chosen.Goals.{then-competes+then-accepts, then-competes+else-accepts, else-competes}

one_more : (blocks : List Block) (i : ℕ) (d : Block) → i < length blocks → take (i + 1) blocks ≡ take i blocks ++ get_or blocks i d ∷ []
one_more blocks i d within = rw add-one (take-suc blocks i d within)

pub loop-index-init : goal.loop-index-init
unfolding checked_behind
loop-index-init c = record { best_of = λ k other at. elim at [ ]; counted = refl }

pub overflow_add-checked : goal.overflow_add-checked
overflow_add-checked c = omega (arith, counted_most c.loop-index.invariant, length-take c.loop-index.index c.args.blocks.now, c.loop-index-test.true)

pub loop-index-preserved : goal.loop-index-preserved
loop-index-preserved c =
    elim c.if-competes.branch [
      | then-competes+then-accepts w ↦
          rw (one_more c.args.blocks.now c.loop-index.index (record { strength = 0; price = 0 }) c.loop-index-test.true, w.best-is, w.checked-is)
          (accepted_turn c.loop-index.invariant _ _ w.if-competes.ensures w.if-accepts.ensures (rw length-take (omega (arith, c.loop-index-test.true))))
      | then-competes+else-accepts w ↦
          rw (one_more c.args.blocks.now c.loop-index.index (record { strength = 0; price = 0 }) c.loop-index-test.true, w.best-is, w.checked-is)
          (refused_turn c.loop-index.invariant _ w.if-competes.ensures w.if-accepts.ensures)
      | else-competes w ↦
          rw (one_more c.args.blocks.now c.loop-index.index (record { strength = 0; price = 0 }) c.loop-index-test.true, w.best-is, w.checked-is)
          (unchecked_turn c.loop-index.invariant _ w.if-competes.ensures)
    ]

pub returns-in-Some : goal.returns-in-Some
returns-in-Some c = chosen_so_far (rw (take_all c.loop-index.index c.args.blocks.now c.loop-index-test.false, c.in-Some.is) at c.loop-index.invariant)

pub returns-in-None : goal.returns-in-None
returns-in-None c =
    rw c.from.ensures (none_so_far (rw (take_all c.loop-index.index c.args.blocks.now c.loop-index-test.false, c.in-None.is) at c.loop-index.invariant))
