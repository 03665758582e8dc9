-- Checks that take `S` records alone: what a line is read as; and of those with a number beside the record, what is claimed of the entries of every such check.
use Rattle.std.specs.Prelude.{ℕ, ◌<◌, true, Bool, List, ◌↔◌, ◌≡◌, Float, Option, Some, None}
use Rattle.basis.specs.declared.CheckResult.{CheckResult}
use Rattle.basis.specs.Result.{refused_with}
use Rattle.storey.specs.declared.StoreyWall.{StoreyWall}
use Rattle.storey.specs.Record.{numbers}
use Rattle.walls.specs.declared.Wall.{Wall}
use Rattle.walls.specs.declared.Wall.TheVariants.{Storey, Cellar}
use Rattle.line.specs.Grammar.{NineDigits, line_of}
use Rattle.line.specs.Reading.{read_line, reading_result}
use Rattle.worksheet.specs.Cell.{cell_bound, IsWhole}
use Rattle.worksheet.specs.Entry.{Entry, HaveNumbers}

-- Document 02, #106: "In this and every later check that takes `S` records alone, a `C` line is refusal 1."
abbrev pub storey_alone : Option Wall → Option StoreyWall
storey_alone (Some (Storey wall)) = Some wall
storey_alone (Some (Cellar wall)) = None
storey_alone None = None

-- The storey record of a line, or None, which is refusal 1.
unfoldable pub read_storey : List ℕ → Option StoreyWall
read_storey line = storey_alone (read_line line)

-- A line is the `S` line of a record.
abbrev pub StoreyLine : List ℕ → StoreyWall → Type 0
StoreyLine line wall = NineDigits (numbers wall) × (line ≡ line_of (Storey wall))

-- The result of what was read, by a check of the record and the number beside it.
abbrev pub result_beside : (StoreyWall → ℕ → CheckResult) → Option StoreyWall → ℕ → CheckResult
result_beside check read n = reading_result (λ wall. check wall n) read

-- ---- of the entry for a line

-- 1, exactly: "not a line of this form", or a `C` line. It is about the line, whatever the number beside it.
abbrev pub RefusesAllButStoreyLines : (List ℕ → ℕ → CheckResult) → Type 0
RefusesAllButStoreyLines entry =
    (line : List ℕ) (n : ℕ) →
    (entry line n ≡ refused_with 1) ↔ ((wall : StoreyWall) → NineDigits (numbers wall) → line ≡ line_of (Storey wall) → ⊥)

-- A line of the form has the result of its record.
abbrev pub ChecksStoreyRecords : (StoreyWall → ℕ → CheckResult) → (List ℕ → ℕ → CheckResult) → Type 0
ChecksStoreyRecords check entry = (wall : StoreyWall) (n : ℕ) → NineDigits (numbers wall) → entry (line_of (Storey wall)) n ≡ check wall n

-- ---- of the entry for a row, at what stands in the places of a record's numbers; the number beside it is a cell

-- "Its result equals that of the line with the same numbers."
abbrev pub IsTheLineBeside : (List ℕ → ℕ → CheckResult) → List Entry → (Float → CheckResult) → Type 0
IsTheLineBeside line_entry es entry =
    (wall : StoreyWall) (n : ℕ) (x : Float) → NineDigits (numbers wall) → n < cell_bound → HaveNumbers es wall → IsWhole x n →
    entry x ≡ line_entry (line_of (Storey wall)) n

-- "A cell out of range, with a fraction, an infinity or a NaN is refusal 2": where no record and number in range have the cells' numbers.
abbrev pub RefusedOtherwiseBeside : (StoreyWall → ℕ → Bool) → List Entry → (Float → CheckResult) → Type 0
RefusedOtherwiseBeside in_range es entry =
    (x : Float) → ((wall : StoreyWall) (n : ℕ) → in_range wall n ≡ true → HaveNumbers es wall → IsWhole x n → ⊥) → entry x ≡ refused_with 2
