-- `line::read_numbers` meets its contract: each way through the code takes one byte, and proofs/Steps says that it keeps what holds at the heads of
-- the loops.
use native.Mathlib.Omega.{arith}
use Rattle.line.specs.Grammar.{count_of}
use Rattle.line.proofs.Steps.{opened, index, no_digit_before, number_missing, number_ended, digit_taken, digit_wrong, line_ended, all_read}
use Rattle.line.proofs.read_numbers.Goals as goal
use Rattle.line.proofs.read_numbers.Goals.{in-Some+then-byte-digits, in_default}

pub loop-k-init : goal.loop-k-init
unfolding count_of
loop-k-init c = opened _ _ _ _ c.count-count.ensures (omega arith)

pub loop-byte-preserved : goal.loop-byte-preserved
loop-byte-preserved c =
    digit_taken c.loop-k.invariant c.loop-k-test.true c.loop-byte.invariant c.in-Some.ensures c.if-byte-digits.false
    (rw c.is_ascii_digit.ensures.value at c.if-is_ascii_digit-digits.false)

pub loop-k-preserved : goal.loop-k-preserved
loop-k-preserved c =
    elim c.match-next.branch [
      | in-Some+then-byte-digits w ↦
          number_ended c.loop-k.invariant c.loop-k-test.true c.loop-byte.invariant w.in-Some.ensures w.if-byte-digits.true
      | in_default w ↦
          line_ended c.loop-k.invariant c.loop-k-test.true c.loop-byte.invariant w.in_default.ensures (omega arith)
    ]

pub offset_bounds-numbers-k : goal.offset_bounds-numbers-k
unfolding count_of
offset_bounds-numbers-k c = omega (arith, index c.loop-k.invariant c.loop-k-test.true)

pub bounds-numbers-k : goal.bounds-numbers-k
unfolding count_of
bounds-numbers-k c = index c.loop-k.invariant c.loop-k-test.true

pub returns-then-is_ascii_digit-digits : goal.returns-then-is_ascii_digit-digits
returns-then-is_ascii_digit-digits c =
    digit_wrong c.loop-k.invariant c.loop-k-test.true c.loop-byte.invariant c.in-Some.ensures c.if-byte-digits.false
    (rw c.is_ascii_digit.ensures.value at c.if-is_ascii_digit-digits.true)

pub returns-then-digits-eq0 : goal.returns-then-digits-eq0
returns-then-digits-eq0 c =
    elim c.match-next.branch [
      | in-Some+then-byte-digits w ↦ absurd (no_digit_before _ _ _ _ w.if-byte-digits.true c.if-digits-eq0.true)
      | in_default w ↦
          number_missing c.loop-k.invariant c.loop-k-test.true c.loop-byte.invariant w.in_default.ensures c.if-digits-eq0.true
    ]

pub returns-after-loop-k : goal.returns-after-loop-k
returns-after-loop-k c = all_read c.loop-k.invariant (omega arith) c.wall.ensures
