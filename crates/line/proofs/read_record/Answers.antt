-- `line::read_record` meets its contract: the line ends, the letter or the space is wrong, or the numbers follow.
use Rattle.line.proofs.Steps.{no_letter, letter_wrong, letter_taken, no_space, space_wrong, space_taken, continues_read}
use Rattle.line.proofs.read_record.Goals as goal

pub returns-in_err-kind : goal.returns-in_err-kind
returns-in_err-kind c = rw c.from_residual-in_err-kind.ensures (letter_wrong c.in_ok-next.ensures c.in_err-kind.ensures)

pub returns-then-branch-ne32 : goal.returns-then-branch-ne32
returns-then-branch-ne32 c =
    space_wrong (letter_taken c.in_ok-next.ensures c.in_ok-kind.kind c.in_ok-kind.ensures) c.in_ok-next-2.ensures c.if-branch-ne32.true

pub returns : goal.returns
returns c =
    continues_read
    (space_taken (letter_taken c.in_ok-next.ensures c.in_ok-kind.kind c.in_ok-kind.ensures) c.in_ok-next-2.ensures c.if-branch-ne32.false)
    c.read_numbers.ensures

pub returns-in_err-next : goal.returns-in_err-next
returns-in_err-next c = rw c.from_residual.ensures (no_letter c.in_err-next.ensures)

pub returns-in_err-next-2 : goal.returns-in_err-next-2
returns-in_err-next-2 c =
    rw c.from_residual-in_err-next-2.ensures
    (no_space (letter_taken c.in_ok-next.ensures c.in_ok-kind.kind c.in_ok-kind.ensures) c.in_err-next-2.ensures)
