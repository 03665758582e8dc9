-- `archive::pack` meets its contract: each turn writes the block that begins at `taken`.
use Rattle.std.proofs.Common.{arith, ap, drop, length-drop, length-take, ◌≡◌, ◌∙◌, sym}
use Rattle.std.proofs.lemmas.List.{take_rest}
use Rattle.archive.specs.Stream.{first_length}
use Rattle.archive.proofs.Counting.{first_most}
use Rattle.archive.proofs.Placed.{placed_lent, placed_done, placed_full}
use Rattle.archive.proofs.Settled.{packed_none, packed_unsettled, first_capacity}
use Rattle.archive.proofs.pack.Goals as goal
use Rattle.archive.proofs.pack.Goals.{After-first_length-length}

first : (c : After-first_length-length) → c.first_length-length.result ≡ first_length (drop c.loop-blocks.taken c.args.text.now)
first c = c.first_length-length.ensures ∙ ap first_length (take_rest c.args.text.now c.loop-blocks.taken)

pub returns-after-loop-blocks : goal.returns-after-loop-blocks
returns-after-loop-blocks c = placed_done c.loop-blocks.invariant (placed_full c.loop-blocks.invariant c.loop-blocks-test.false)

pub returns-then-not-settled : goal.returns-then-not-settled
returns-then-not-settled c =
    let open· = rw (take_rest c.args.text.now c.loop-blocks.taken) at c.if-not-settled.true in
    placed_done c.loop-blocks.invariant (packed_unsettled _ c.args.complete (drop c.loop-blocks.taken c.args.text.now) open·)

pub returns-then-length-eq0 : goal.returns-then-length-eq0
returns-then-length-eq0 c =
    placed_done c.loop-blocks.invariant (packed_none _ _ _ (sym (first (goal.at.returns-then-length-eq0 c).After-first_length-length) ∙ c.if-length-eq0.true))

pub loop-blocks-preserved : goal.loop-blocks-preserved
loop-blocks-preserved c =
    let whole = take_rest c.args.text.now c.loop-blocks.taken in
    placed_lent c.loop-blocks.invariant c.loop-blocks-test.true (rw whole at c.if-not-settled.false)
    (first (goal.at.loop-blocks-preserved c).After-first_length-length) c.if-length-eq0.false (rw whole at c.write_block.ensures)

pub slice_bounds-write_block-end : goal.slice_bounds-write_block-end
slice_bounds-write_block-end c =
    let is = first (goal.at.slice_bounds-write_block-end c).After-first_length-length in
    let rest = drop c.loop-blocks.taken c.args.text.now in
    rw (take_rest c.args.text.now c.loop-blocks.taken) (omega (arith, is, first_most rest, length-take c.first_length-length.result rest))

pub write_block-requires-clause-capacity : goal.write_block-requires-clause-capacity
write_block-requires-clause-capacity c =
    let is = first (goal.at.write_block-requires-clause-capacity c).After-first_length-length in
    let rest = drop c.loop-blocks.taken c.args.text.now in
    rw (take_rest c.args.text.now c.loop-blocks.taken) (omega (arith, is, first_capacity rest, length-take c.first_length-length.result rest))

pub overflow_add-taken : goal.overflow_add-taken
overflow_add-taken c =
    omega (
      arith,
      c.loop-blocks.invariant.within,
      first (goal.at.overflow_add-taken c).After-first_length-length,
      first_most (drop c.loop-blocks.taken c.args.text.now),
      length-drop c.loop-blocks.taken c.args.text.now,
    )
