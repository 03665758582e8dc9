-- The entries of document 02, #109, for every two lines and rows: what each answers, and what is claimed of it.
use Rattle.std.specs.Prelude.{ℕ, Bool, cond, true, false, List, ◌⊎◌, ◌↔◌, ◌≡◌, Result, Err, Option, Some, None}
use Rattle.basis.specs.Result.{Accepted}
use Rattle.storey.specs.declared.StoreyWall.{StoreyWall}
use Rattle.storey.specs.Record.{numbers}
use Rattle.storey.specs.Range.{in_range}
use Rattle.walls.specs.declared.Wall.TheVariants.{Storey}
use Rattle.early_design.specs.declared.RangeAnswer.{RangeAnswer}
use Rattle.early_design.specs.declared.RangeResult.{RangeResult}
use Rattle.early_design.specs.Between.{Between}
use Rattle.early_design.specs.Check.{check, range_result}
use Rattle.early_design.specs.Claims.{LowAndHigh, answers}
use Rattle.line.specs.Grammar.{NineDigits, line_of}
use Rattle.worksheet.specs.Entry.{Entry, HaveNumbers}
use Rattle.worksheet.specs.declared.Row.{Row}
use Rattle.worksheet.specs.Row.{entries, row_wall}
use Rattle.worksheet.specs.declared.cells.Cells.{Cells}
use Rattle.worksheet.specs.Cells.{cell_entries, cells_wall}
use Rattle.wallcheck.specs.Entry.{line_result}
use Rattle.wallcheck.specs.StoreyRecord.{read_storey, StoreyLine}

-- The answer for what was read. "A line that document 01 refuses as 1 or 2 is refused so here, low record first"; None is refusal 1, a `C` line too.
abbrev pub range_read : (low high : Option StoreyWall) → Result RangeAnswer ℕ
range_read None high = Err 1
range_read (Some low) None = Err (cond (in_range low) 1 2)
range_read (Some low) (Some high) = check low high

-- Two lines
abbrev pub range_lines : (low high : List ℕ) → RangeResult
range_lines low high = range_result (range_read (read_storey low) (read_storey high))

-- Two rows, and the cells of two rows, held and c among them
abbrev pub range_rows : (low high : Row) → RangeResult
range_rows low high = range_result (range_read (Some (row_wall low)) (Some (row_wall high)))

abbrev pub range_cells : (low high : Cells) → RangeResult
range_cells low high = range_result (range_read (Some (cells_wall low)) (Some (cells_wall high)))

-- A refusal, as two numbers.
abbrev pub refused : ℕ → RangeResult
refused n = range_result (Err n)

-- ---- what is claimed of them

-- Two lines of the form have the answer for their records.
abbrev pub RangeLinesOfRecords : Type 0
RangeLinesOfRecords =
    (low high : StoreyWall) → NineDigits (numbers low) → NineDigits (numbers high) →
    range_lines (line_of (Storey low)) (line_of (Storey high)) ≡ answers low high

-- An `S` line, in range or not.
abbrev pub LineInRange : List ℕ → (passed : Bool) → Type 0
LineInRange line passed = (wall : StoreyWall) × (StoreyLine line wall × (in_range wall ≡ passed))

abbrev pub NotStoreyLine : List ℕ → Type 0
NotStoreyLine line = (wall : StoreyWall) → StoreyLine line wall → ⊥

-- 1, exactly: the low line is not an `S` line of the form; or it is one, in range, and the high line is not.
abbrev pub RangeNotALine : Type 0
RangeNotALine =
    (low high : List ℕ) →
    (range_lines low high ≡ refused 1) ↔ (NotStoreyLine low ⊎ (LineInRange low true × NotStoreyLine high))

-- 2, exactly: the low line is an `S` line out of range, whatever the high line is; or the low one is in range, and the high line is an `S` line out of range.
abbrev pub RangeOutOfRange : Type 0
RangeOutOfRange =
    (low high : List ℕ) →
    (range_lines low high ≡ refused 2) ↔ (LineInRange low false ⊎ (LineInRange low true × LineInRange high false))

-- "Its result equals that of the line with the same numbers.": of what stands in the places of two records' numbers.
abbrev pub AreTheLines : (es es' : List Entry) → RangeResult → Type 0
AreTheLines es es' result =
    (low high : StoreyWall) → NineDigits (numbers low) → NineDigits (numbers high) → HaveNumbers es low → HaveNumbers es' high →
    result ≡ range_lines (line_of (Storey low)) (line_of (Storey high))

abbrev pub RangeRowsAreLines : Type 0
RangeRowsAreLines = (low high : Row) → AreTheLines (entries low) (entries high) (range_rows low high)

abbrev pub RangeCellsAreLines : Type 0
RangeCellsAreLines = (low high : Cells) → AreTheLines (cell_entries low) (cell_entries high) (range_cells low high)

-- "A cell out of range, with a fraction, an infinity or a NaN is refusal 2": where not both have the numbers of a record in range.
abbrev pub RefusedOtherwise : (es es' : List Entry) → RangeResult → Type 0
RefusedOtherwise es es' result =
    ((low high : StoreyWall) → in_range low ≡ true → in_range high ≡ true → HaveNumbers es low → HaveNumbers es' high → ⊥) → result ≡ refused 2

abbrev pub RangeOtherRowsRefused : Type 0
RangeOtherRowsRefused = (low high : Row) → RefusedOtherwise (entries low) (entries high) (range_rows low high)

abbrev pub RangeOtherCellsRefused : Type 0
RangeOtherCellsRefused = (low high : Cells) → RefusedOtherwise (cell_entries low) (cell_entries high) (range_cells low high)

-- "1 if every record between them is accepted, 2 if none is, 3 otherwise, each exactly then", for the lines of the records. Two lines of which one is out of range,
-- or to which 25 applies, have none of these answers.

abbrev pub LineAccepted : StoreyWall → Type 0
LineAccepted wall = Accepted (line_result (line_of (Storey wall)))

abbrev pub EveryLineAccepted : (low high : StoreyWall) → Type 0
EveryLineAccepted low high = (wall : StoreyWall) → Between low high wall → LineAccepted wall

abbrev pub NoLineAccepted : (low high : StoreyWall) → Type 0
NoLineAccepted low high = (wall : StoreyWall) → Between low high wall → LineAccepted wall → ⊥

abbrev pub OtherwiseOfLines : (low high : StoreyWall) → Type 0
OtherwiseOfLines low high = (EveryLineAccepted low high → ⊥) × (NoLineAccepted low high → ⊥)

-- The answer n for the lines of two records stands for a fact about all lines between.
abbrev pub AnswersExactly : ℕ → ((low high : StoreyWall) → Type 0) → Type 0
AnswersExactly n Fact =
    (low high : StoreyWall) → NineDigits (numbers low) → NineDigits (numbers high) →
    (range_lines (line_of (Storey low)) (line_of (Storey high)) ≡ record { refusal = 0; answer = n })
    ↔ ((in_range low ≡ true) × (in_range high ≡ true) × LowAndHigh low high × Fact low high)

abbrev pub RangeLinesAnswer1 : Type 0
RangeLinesAnswer1 = AnswersExactly 1 EveryLineAccepted

abbrev pub RangeLinesAnswer2 : Type 0
RangeLinesAnswer2 = AnswersExactly 2 NoLineAccepted

abbrev pub RangeLinesAnswer3 : Type 0
RangeLinesAnswer3 = AnswersExactly 3 OtherwiseOfLines
