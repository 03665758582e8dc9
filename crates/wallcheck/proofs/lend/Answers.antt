-- `wallcheck::lend` meets its contract: the buffer is too short for any result, or gets the text.
use borrow.Author.Tests.{lt-ltb, le-ltb}
use mathlib.Core.Path.{ap}
use Rattle.report.specs.Written.{Written}
use Rattle.wallcheck.specs.Entry.{lent}
use Rattle.wallcheck.proofs.lend.Goals as goal

pub returns-then-out-lt-LEAST_BUFFER : goal.returns-then-out-lt-LEAST_BUFFER
unfolding lent
returns-then-out-lt-LEAST_BUFFER c = rw (c.from.ensures, lt-ltb _ 64 c.if-out-lt-LEAST_BUFFER.true)

pub returns : goal.returns
unfolding lent
returns c = rw (le-ltb _ 64 c.if-out-lt-LEAST_BUFFER.false, ap (λ (w : Written). w.buffer) c.write.ensures)
