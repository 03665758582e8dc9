-- The entries of document 02, #106, for every line, row and buffer: what each answers, and what is claimed of it.
use Rattle.std.specs.Prelude.{ℕ, ◌≤◌, Bool, List, length, Float, Some}
use Rattle.basis.specs.declared.CheckResult.{CheckResult}
use Rattle.basis.specs.Result.{Accepted}
use Rattle.storey.specs.declared.StoreyWall.{StoreyWall}
use Rattle.storey.specs.Record.{numbers}
use Rattle.walls.specs.declared.Wall.TheVariants.{Storey}
use Rattle.minimum_load.specs.Check as Check
use Rattle.minimum_load.specs.Comparison.{with_loads}
use Rattle.line.specs.Grammar.{NineDigits, line_of}
use Rattle.worksheet.specs.Cell.{cell_number}
use Rattle.worksheet.specs.declared.Row.{Row}
use Rattle.worksheet.specs.Row.{entries, row_wall}
use Rattle.worksheet.specs.declared.cells.Cells.{Cells}
use Rattle.worksheet.specs.Cells.{cell_entries, cells_wall}
use Rattle.wallcheck.specs.Demands.{WrittenTo}
use Rattle.wallcheck.specs.StoreyRecord.{read_storey, result_beside, RefusesAllButStoreyLines, ChecksStoreyRecords, IsTheLineBeside, RefusedOtherwiseBeside}

-- The result of a storey record with the design wind W, and the range test of both.
abbrev pub check : StoreyWall → (W : ℕ) → CheckResult
check wall W = Check.check (record { wall = wall; designwind = W })

abbrev pub in_range : StoreyWall → (W : ℕ) → Bool
in_range wall W = Check.in_range (record { wall = wall; designwind = W })

-- A line: refusal 1 where it is not an `S` line, else the result of its record.
abbrev pub minimum_load_line : List ℕ → (W : ℕ) → CheckResult
minimum_load_line line W = result_beside check (read_storey line) W

-- A row, and the cells of a row, held and c among them: W is a cell like the others.
abbrev pub minimum_load_row : Row → (W : Float) → CheckResult
minimum_load_row row W = result_beside check (Some (row_wall row)) (cell_number W)

abbrev pub minimum_load_cells : Cells → (W : Float) → CheckResult
minimum_load_cells cells W = result_beside check (Some (cells_wall cells)) (cell_number W)

-- ---- what is claimed of them

abbrev pub MinimumLoadNotALine : Type 0
MinimumLoadNotALine = RefusesAllButStoreyLines minimum_load_line

abbrev pub MinimumLoadLineOfRecord : Type 0
MinimumLoadLineOfRecord = ChecksStoreyRecords check minimum_load_line

abbrev pub MinimumLoadRowIsLine : Type 0
MinimumLoadRowIsLine = (row : Row) → IsTheLineBeside minimum_load_line (entries row) (minimum_load_row row)

abbrev pub MinimumLoadCellsAreLine : Type 0
MinimumLoadCellsAreLine = (cells : Cells) → IsTheLineBeside minimum_load_line (cell_entries cells) (minimum_load_cells cells)

abbrev pub MinimumLoadOtherRowsRefused : Type 0
MinimumLoadOtherRowsRefused = (row : Row) → RefusedOtherwiseBeside in_range (entries row) (minimum_load_row row)

abbrev pub MinimumLoadOtherCellsRefused : Type 0
MinimumLoadOtherCellsRefused = (cells : Cells) → RefusedOtherwiseBeside in_range (cell_entries cells) (minimum_load_cells cells)

-- What a lent buffer holds: the text of the result, which reads back; `ShortBuffer` of Demands is about any result.

abbrev pub MinimumLoadLineWritten : Type 0
MinimumLoadLineWritten = (buffer line : List ℕ) (W : ℕ) → 64 ≤ length buffer → WrittenTo buffer (minimum_load_line line W)

abbrev pub MinimumLoadRowWritten : Type 0
MinimumLoadRowWritten = (buffer : List ℕ) (row : Row) (W : Float) → 64 ≤ length buffer → WrittenTo buffer (minimum_load_row row W)

abbrev pub MinimumLoadCellsWritten : Type 0
MinimumLoadCellsWritten = (buffer : List ℕ) (cells : Cells) (W : Float) → 64 ≤ length buffer → WrittenTo buffer (minimum_load_cells cells W)

-- "of two records accepted with the same W that differ only in G and Q, neither falling, all loads between are accepted with it", for the lines of the records.
abbrev pub MinimumLoadLines : Type 0
MinimumLoadLines =
    (wall : StoreyWall) (W G Q G' Q' dead imposed : ℕ) → NineDigits (numbers (with_loads wall G Q)) → NineDigits (numbers (with_loads wall G' Q')) →
    Accepted (minimum_load_line (line_of (Storey (with_loads wall G Q))) W) →
    Accepted (minimum_load_line (line_of (Storey (with_loads wall G' Q'))) W) →
    G ≤ dead → dead ≤ G' → Q ≤ imposed → imposed ≤ Q' →
    Accepted (minimum_load_line (line_of (Storey (with_loads wall dead imposed))) W)
