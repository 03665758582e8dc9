-- At the head of each loop the answer to the bytes behind the letter and its space is what `run` makes of the bytes that are left, from the state in
-- hand, and of these as many are taken as `taken_from` says.
use Rattle.std.proofs.Common.{length}
use Rattle.line.specs.Cursor.{rest}
use Rattle.line.specs.Kind.{kind_letter}
use Rattle.line.proofs.Steps.{Between, Inside}
use Rattle.line.proofs.read_numbers.Given as goal

abbrev pub invariant-loop-k : goal.invariant-loop-k
invariant-loop-k l = Between (kind_letter l.kind) l.count l.fn.bytes l.numbers l.k l.bytes

abbrev pub invariant-loop-byte : goal.invariant-loop-byte
invariant-loop-byte l = Inside (kind_letter l.kind) l.fn.bytes l.numbers l.k l.digits l.value l.bytes

abbrev pub decreases-loop-byte : goal.decreases-loop-byte
decreases-loop-byte l = length (rest l.bytes)
