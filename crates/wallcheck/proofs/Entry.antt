-- Laws of the entries: what is made of a reading; every result is bounded, so that its text fits 64 bytes.
use Rattle.std.proofs.Common.{Option, Some, None}
use Rattle.walls.specs.declared.Wall.{Wall}
use Prim.Native.Nat.{ℕ, ◌≤◌}
use mathlib.Core.List.{List}
use mathlib.Core.Path.{◌≡◌}
use native.Mathlib.Omega.{arith}
use lib.ListN.{length}
use Rattle.basis.specs.declared.CheckResult.{CheckResult}
use Rattle.basis.specs.Result.{Below}
use Rattle.basis.proofs.Result.{refused_below}
use Rattle.walls.specs.declared.Wall.TheVariants.{Storey}
use Rattle.walls.specs.Check.{check}
use Rattle.walls.proofs.Claims.{result_is_bounded}
use Rattle.line.specs.declared.CountedReading.{CountedReading}
use Rattle.line.specs.Reading.{read_line, reading_result, counted_reading}
use Rattle.worksheet.specs.declared.Row.{Row}
use Rattle.worksheet.specs.declared.cells.Cells.{Cells}
use Rattle.worksheet.specs.Row.{row_wall}
use Rattle.worksheet.specs.Cells.{cells_wall}
use Rattle.report.specs.Text.{result_text}
use Rattle.report.proofs.Text.{text_fits}
use Rattle.wallcheck.specs.declared.CountedResult.{CountedResult}
use Rattle.wallcheck.specs.Entry.{line_result, counted_result, row_result, cells_result}

-- The result of what a line was read as, with its count.
pub counted_result_lem : (line : List ℕ) (c : CountedReading) (r : CheckResult) → c ≡ counted_reading line → r ≡ reading_result check c.reading
    → ◌≡◌ {A = CountedResult} (record { result = r; taken = c.taken }) (counted_result line)
unfolding counted_reading counted_result line_result
counted_result_lem line c r read checked = rw (checked, read)

-- Every number of every result is below 10^9.

reading_below : (r : Option Wall) → Below 1000000000 (reading_result check r)
reading_below (Some w) = result_is_bounded w
reading_below None = refused_below 1000000000 1 (omega arith)

pub line_below : (line : List ℕ) → Below 1000000000 (line_result line)
unfolding line_result
line_below line = reading_below (read_line line)

pub row_below : (row : Row) → Below 1000000000 (row_result row)
row_below row = result_is_bounded (Storey (row_wall row))

pub cells_below : (cells : Cells) → Below 1000000000 (cells_result cells)
cells_below cells = result_is_bounded (Storey (cells_wall cells))

pub text_within_64 : (r : CheckResult) → Below 1000000000 r → length (result_text r) ≤ 64
text_within_64 r below =
    text_fits r (omega (arith, below.refusal_below)) (omega (arith, below.second_below)) (omega (arith, below.load_below))
    (omega (arith, below.resistance_below)) (omega (arith, below.spare_below))
