-- `archive::count_blocks` meets its contract: each turn takes the block that begins at `taken`.
use Rattle.std.proofs.Common.{arith, ap, drop, ◌≡◌, ◌∙◌}
use Rattle.std.proofs.lemmas.List.{take_rest}
use Rattle.archive.specs.Stream.{first_length}
use Rattle.archive.proofs.Counting.{counted_none, counted_more, counted_all, counted_bad}
use Rattle.archive.proofs.count_blocks.Goals as goal
use Rattle.archive.proofs.count_blocks.Goals.{After-first_length-length}

first : (c : After-first_length-length) → c.first_length-length.result ≡ first_length (drop c.loop-taken.taken c.args.text.now)
first c = c.first_length-length.ensures ∙ ap first_length (take_rest c.args.text.now c.loop-taken.taken)

pub loop-taken-init : goal.loop-taken-init
loop-taken-init c = counted_none _

pub loop-taken-preserved : goal.loop-taken-preserved
loop-taken-preserved c =
    counted_more c.loop-taken.invariant c.loop-taken-test.true (first (goal.at.loop-taken-preserved c).After-first_length-length) c.if-length-eq0.false

pub overflow_add-taken : goal.overflow_add-taken
overflow_add-taken c =
    let next = counted_more c.loop-taken.invariant c.loop-taken-test.true (first (goal.at.overflow_add-taken c).After-first_length-length) c.if-length-eq0.false in
    omega (arith, next.within)

pub returns-then-length-eq0 : goal.returns-then-length-eq0
returns-then-length-eq0 c =
    counted_bad c.loop-taken.invariant c.loop-taken-test.true (first (goal.at.returns-then-length-eq0 c).After-first_length-length) c.if-length-eq0.true

pub returns : goal.returns
returns c = counted_all c.loop-taken.invariant c.loop-taken-test.false
