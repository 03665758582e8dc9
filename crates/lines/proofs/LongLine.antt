-- A line over 200 bytes is refusal 1 without a test of its length: it is not of the form.
use Prim.Native.Nat.{ℕ}
use mathlib.Core.List.{List}
use mathlib.Core.Path.{◌≡◌, refl, sym, ap}
use lib.Dec.{ltb}
use lib.ListN.{length}
use borrow.Author.Tests.{ltb-true}
use Rattle.basis.proofs.Choice.{cond_cases}
use Rattle.walls.specs.Check.{check}
use Rattle.line.specs.Reading.{reading_result}
use Rattle.line.proofs.LongLine.{long_line_unread}
use Rattle.wallcheck.specs.Entry.{line_result}
use Rattle.lines.specs.Output.{schedule_result}
use Rattle.lines.specs.Claims.{LongLineMalformed}

pub long_line_malformed : LongLineMalformed
unfolding line_result
long_line_malformed line long = ap (reading_result check) (long_line_unread line long)

-- So the check of the whole line gives the program's result, with no test of its length.
pub schedule_result_lem : (line : List ℕ) → schedule_result line ≡ line_result line
unfolding schedule_result
schedule_result_lem line =
    cond_cases (λ result. result ≡ line_result line) (ltb 200 (length line)) (λ long. sym (long_line_malformed line (ltb-true 200 (length line) long))) (λ short. refl)
