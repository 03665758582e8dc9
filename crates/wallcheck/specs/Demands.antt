-- Demands 1, 2 and 3 and document 02, #104 for the public entries: each is a claim about `line_result`, `counted_result`, `row_result`, `cells_result` and `lent`,
-- the definitions in their contracts.
use Rattle.std.specs.Prelude.{ℕ, ◌≤◌, ◌<◌, true, List, ◌++◌, ◌⊎◌, ◌↔◌, ◌≡◌, length, drop}
use Rattle.basis.specs.declared.CheckResult.{CheckResult}
use Rattle.basis.specs.Refusal.{NoneApplies}
use Rattle.basis.specs.Result.{refused_with, Accepted}
use Rattle.storey.specs.declared.StoreyWall.{StoreyWall}
use Rattle.storey.specs.Record.{numbers}
use Rattle.storey.specs.Comparison.{NoWorse}
use Rattle.cellar.specs.declared.CellarWall.{CellarWall}
use Rattle.cellar.specs.Comparison.{Between}
use Rattle.walls.specs.declared.Wall.{Wall}
use Rattle.walls.specs.declared.Wall.TheVariants.{Storey, Cellar}
use Rattle.walls.specs.Check.{numbers_of, parts, in_range, check}
use Rattle.walls.specs.Claims.{Numbers}
use Rattle.line.specs.Grammar.{NineDigits, line_of}
use Rattle.line.specs.Beginning.{UpToFirstWrong, AllWhereNone}
use Rattle.worksheet.specs.declared.Row.{Row}
use Rattle.worksheet.specs.declared.cells.Cells.{Cells}
use Rattle.worksheet.specs.Entry.{Entry, HaveNumbers}
use Rattle.worksheet.specs.Row.{entries}
use Rattle.worksheet.specs.Cells.{cell_entries}
use Rattle.report.specs.Text.{result_text}
use Rattle.report.specs.Reading.{read_result}
use Rattle.wallcheck.specs.Entry.{line_result, counted_result, row_result, cells_result, lent}

-- Demand 1: "Any line, worksheet row or output buffer of any content: .. a full result or the one refusal that document 01's order names."

-- 1: "not a line of this form", exactly then. A line of the form has the result of its record, whose refusals stand in document 01's order.
-- Both are said of any function from lines to results.
abbrev pub RefusesOtherLines : (List ℕ → CheckResult) → Type 0
RefusesOtherLines result =
    (line : List ℕ) → (result line ≡ refused_with 1) ↔ ((wall : Wall) → NineDigits (numbers_of wall) → line ≡ line_of wall → ⊥)

abbrev pub ChecksRecords : (List ℕ → CheckResult) → Type 0
ChecksRecords result = (wall : Wall) → NineDigits (numbers_of wall) → result (line_of wall) ≡ check wall

abbrev pub NotALine : Type 0
NotALine = RefusesOtherLines line_result

abbrev pub LineOfRecord : Type 0
LineOfRecord = ChecksRecords line_result

-- Document 02, #104: "No result differs from before." The two leave no choice: what answered lines by them before, with the same check of records, gave every
-- line the result that the entries give it, with the count or without.
abbrev pub NoResultDiffers : Type 0
NoResultDiffers =
    (before : List ℕ → CheckResult) → RefusesOtherLines before → ChecksRecords before →
    (line : List ℕ) → (line_result line ≡ before line) × ((counted_result line).result ≡ before line)

-- "how many bytes it has taken: up to and including the first wrong byte, or all where there is none"
abbrev pub LineTakenExactly : Type 0
LineTakenExactly = (line : List ℕ) → UpToFirstWrong line (counted_result line).taken ⊎ AllWhereNone line (counted_result line).taken

-- "Its result equals that of the line with the same numbers.": of what stands in the places of a record's numbers.
abbrev pub IsTheLine : List Entry → CheckResult → Type 0
IsTheLine es result = (wall : StoreyWall) → NineDigits (numbers wall) → HaveNumbers es wall → result ≡ line_result (line_of (Storey wall))

abbrev pub RowIsLine : Type 0
RowIsLine = (row : Row) → IsTheLine (entries row) (row_result row)

abbrev pub CellsAreLine : Type 0
CellsAreLine = (cells : Cells) → IsTheLine (cell_entries cells) (cells_result cells)

-- "A cell out of range, with a fraction, an infinity or a NaN is refusal 2": what has not the numbers of a record in range.
abbrev pub RefusedOtherwise : List Entry → CheckResult → Type 0
RefusedOtherwise es result = ((wall : StoreyWall) → in_range (Storey wall) ≡ true → HaveNumbers es wall → ⊥) → result ≡ refused_with 2

abbrev pub OtherRowsRefused : Type 0
OtherRowsRefused = (row : Row) → RefusedOtherwise (entries row) (row_result row)

abbrev pub OtherCellsRefused : Type 0
OtherCellsRefused = (cells : Cells) → RefusedOtherwise (cell_entries cells) (cells_result cells)

-- "Refusal 20 leaves the buffer unchanged"
abbrev pub ShortBuffer : Type 0
ShortBuffer = (buffer : List ℕ) (result : CheckResult) → length buffer < 64 → lent buffer result ≡ record { result = refused_with 20; buffer = buffer }

-- "any other is written there as document 01 says": the text fits, stands first, reads back, and the bytes behind it are the buffer's own.
pub record WrittenTo (buffer : List ℕ) (result : CheckResult) : Type 0 where
  pub handed : lent buffer result ≡ record { result = result; buffer = result_text result ++ drop (length (result_text result)) buffer }
  pub fits : length (result_text result) ≤ 64
  pub same_length : length (lent buffer result).buffer ≡ length buffer
  pub reads_back : read_result (lent buffer result).buffer ≡ result

abbrev pub LineWritten : Type 0
LineWritten = (buffer line : List ℕ) → 64 ≤ length buffer → WrittenTo buffer (line_result line)

abbrev pub RowWritten : Type 0
RowWritten = (buffer : List ℕ) (row : Row) → 64 ≤ length buffer → WrittenTo buffer (row_result row)

abbrev pub CellsWritten : Type 0
CellsWritten = (buffer : List ℕ) (cells : Cells) → 64 ≤ length buffer → WrittenTo buffer (cells_result cells)

-- Demand 2: "Buckling length, load, resistance, required cellar load and verdict are those of document 01."
-- For a record in range: within every limit the numbers of its line's result are document 01's, and the verdict is the comparison of those
-- reported; beyond a limit it is refused.
abbrev pub LineNumbers : Type 0
LineNumbers =
    (wall : Wall) → in_range wall ≡ true →
    (NoneApplies (parts wall).limits → Numbers wall (line_result (line_of wall)))
    × (Accepted (line_result (line_of wall)) → NoneApplies (parts wall).limits)

-- Demand 3, for the lines of the records.

abbrev pub StoreyLines : Type 0
StoreyLines =
    (first second : StoreyWall) → in_range (Storey first) ≡ true → in_range (Storey second) ≡ true → NoWorse first second →
    Accepted (line_result (line_of (Storey first))) →
    Accepted (line_result (line_of (Storey second)))
    × ((line_result (line_of (Storey first))).resistance ≤ (line_result (line_of (Storey second))).resistance)

-- An accepted line is in range, so nothing is asked of the two ends but that they are accepted.
abbrev pub CellarLines : Type 0
CellarLines =
    (low high wall : CellarWall) → NineDigits (numbers_of (Cellar low)) → NineDigits (numbers_of (Cellar high)) →
    Accepted (line_result (line_of (Cellar low))) → Accepted (line_result (line_of (Cellar high))) → Between low high wall →
    Accepted (line_result (line_of (Cellar wall)))
