-- What the public entries answer, for every line, row and buffer.
use Rattle.std.specs.Prelude.{ℕ, cond, List, ltb, length}
use Rattle.basis.specs.declared.CheckResult.{CheckResult}
use Rattle.basis.specs.Result.{refused_with}
use Rattle.walls.specs.declared.Wall.TheVariants.{Storey}
use Rattle.walls.specs.Check.{check}
use Rattle.line.specs.Reading.{read_line, reading_result, taken}
use Rattle.worksheet.specs.declared.Row.{Row}
use Rattle.worksheet.specs.Row.{row_wall}
use Rattle.worksheet.specs.declared.cells.Cells.{Cells}
use Rattle.worksheet.specs.Cells.{cells_wall}
use Rattle.buffer.specs.Overwrite.{overwrite}
use Rattle.report.specs.Text.{result_text}
use Rattle.wallcheck.specs.declared.CountedResult.{CountedResult}

-- A line: refusal 1 where it is not of the form, else the result of its record.
unfoldable pub line_result : List ℕ → CheckResult
line_result line = reading_result check (read_line line)

-- Document 02, #104: the same result, "and also .. how many bytes it has taken".
unfoldable pub counted_result : List ℕ → CountedResult
counted_result line = record { result = line_result line; taken = taken line }

-- "Its result equals that of the line with the same numbers." A cell that is no whole number is in no range, hence refusal 2.
abbrev pub row_result : Row → CheckResult
row_result row = check (Storey (row_wall row))

-- The cells of a row, held and c among them: the result of the record with the same numbers. Held and c are as on a line, by their ranges.
abbrev pub cells_result : Cells → CheckResult
cells_result cells = check (Storey (cells_wall cells))

-- Which rules a result is computed by: 100 for document 01, then the number of the last request that has landed.
abbrev pub edition : ℕ
edition = 110

-- What is handed back and what a lent buffer holds then.
pub record Lent : Type 0 where
  pub result : CheckResult
  pub buffer : List ℕ

-- 20: "output buffer under 64 bytes", "20 before all others wherever a buffer is lent". "Refusal 20 writes nothing and is handed back with four zeros."
-- "A result, refused or not, is written to a lent buffer ..; bytes after that are untouched." `overwrite` would leave the buffer alone where a text does
-- not fit; that every text fits is claimed in Demands.
unfoldable pub lent : List ℕ → CheckResult → Lent
lent buffer result =
    cond (ltb (length buffer) 64)
    (record { result = refused_with 20; buffer = buffer })
    (record { result = result; buffer = overwrite buffer 0 (result_text result) })
