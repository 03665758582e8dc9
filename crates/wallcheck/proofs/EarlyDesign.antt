-- The entries of document 02, #109: each claim by citing what was proved of the records, and of lines and rows.
use Rattle.std.proofs.Common.{Option, Some, None}
use Prim.Native.Nat.{ℕ, ◌<◌, ◌^◌}
use mathlib.Core.Bool.{Bool, true, false, true≢false, cond, not, ◌&&◌}
use mathlib.Core.List.{List}
use mathlib.Core.Logic.{◌⊎◌, inl, inr, ◌↔◌}
use mathlib.Core.Path.{◌≡◌, ◌∙◌, refl, sym, ap, ap₂}
use native.Mathlib.Omega.{arith}
use lib.Dec.{eqb}
use Rattle.std.specs.Prelude.{Result, Ok, Err}
use Rattle.std.proofs.lemmas.Option.{none-some}
use Rattle.basis.specs.Range.{AllBelow}
use Rattle.basis.specs.Refusal.{NoneApplies}
use Rattle.basis.specs.Result.{Accepted}
use Rattle.basis.specs.declared.CheckResult.{CheckResult}
use Rattle.basis.proofs.FirstRefusal.{first_or_cases}
use Rattle.basis.proofs.Range.{AllBelow-mono}
use Rattle.storey.specs.declared.StoreyWall.{StoreyWall}
use Rattle.storey.specs.Record.{numbers}
use Rattle.storey.specs.Range.{in_range}
use Rattle.storey.specs.Check as StoreyCheck
use Rattle.storey.proofs.Range.{numbers_small}
use Rattle.walls.specs.declared.Wall.TheVariants.{Storey}
use Rattle.early_design.specs.declared.RangeAnswer.{RangeAnswer}
use Rattle.early_design.specs.declared.RangeResult.{RangeResult}
use Rattle.early_design.specs.Between.{Between}
use Rattle.early_design.specs.Check.{refusals, check, range_result}
use Rattle.early_design.specs.Claims.{EveryAccepted, NotOneAccepted, Otherwise, Answers}
use Rattle.early_design.proofs.Check.{refused_as_2_exactly, not_refused_exactly}
use Rattle.early_design.proofs.WorstAndBest.{between_in_range}
use Rattle.early_design.proofs.Claims.{every_accepted_answers_1, not_one_accepted_answers_2, otherwise_answers_3}
use Rattle.worksheet.specs.Cell.{cell_bound}
use Rattle.worksheet.specs.Entry.{Entry, entries_wall, TurnIntoTheirRecord}
use Rattle.worksheet.specs.Row.{entries}
use Rattle.worksheet.specs.Cells.{cell_entries}
use Rattle.worksheet.proofs.Entries.{row_is_its_numbers, cells_are_their_numbers}
use Rattle.wallcheck.specs.StoreyRecord.{read_storey, StoreyLine}
use Rattle.wallcheck.specs.EarlyDesign.{
  range_read,
  range_lines,
  refused,
  LineInRange,
  NotStoreyLine,
  RangeOutOfRange,
  RangeLinesOfRecords,
  RangeNotALine,
  AreTheLines,
  RangeRowsAreLines,
  RangeCellsAreLines,
  RefusedOtherwise,
  RangeOtherRowsRefused,
  RangeOtherCellsRefused,
  LineAccepted,
  EveryLineAccepted,
  NoLineAccepted,
  OtherwiseOfLines,
  AnswersExactly,
  RangeLinesAnswer1,
  RangeLinesAnswer2,
  RangeLinesAnswer3,
}
use Rattle.wallcheck.proofs.Demands.{in_range_line}
use Rattle.wallcheck.proofs.StoreyRecord.{read_storey_complete, read_storey_sound, read_storey_none}

pub range_lines_of_records : RangeLinesOfRecords
range_lines_of_records low high nine nine' =
    ap₂ (λ (l h : Option StoreyWall). range_result (range_read l h)) (read_storey_complete low nine) (read_storey_complete high nine')

-- 1 and 2

abbrev refusal_number : Result RangeAnswer ℕ → ℕ
refusal_number given = (range_result given).refusal

-- What is handed back tells the refusal.
err_of : (given : Result RangeAnswer ℕ) (n : ℕ) → 0 < n → range_result given ≡ refused n → given ≡ Err n
err_of (Ok answered) n above is = absurd (let no· : ⊥ = omega (arith, above, ap (λ (r : RangeResult). r.refusal) is) in no·)
err_of (Err k) n above is = ap Err (ap (λ (r : RangeResult). r.refusal) is)

-- No refusal of two records has the number 1.
never_1 : (low high : StoreyWall) → check low high ≡ Err 1 → ⊥
never_1 low high one =
    true≢false
    (sym (first_or_cases Err (λ given. not (eqb (refusal_number given) 1) ≡ true) (λ n. not (eqb n 1)) (refusals low high) refl (λ n is. is) (λ none. refl))
    ∙ ap (λ (given : Result RangeAnswer ℕ). not (eqb (refusal_number given) 1)) one)

-- Behind a low record the high line may be missing.
high_missing_refused : (low : StoreyWall) (passed : Bool) → in_range low ≡ passed → range_read (Some low) None ≡ Err (cond passed 1 2)
high_missing_refused low passed is = ap (λ (b : Bool). Err (cond b 1 2)) is

low_refused : (low : StoreyWall) (high : Option StoreyWall) → in_range low ≡ false → range_read (Some low) high ≡ Err 2
low_refused low None failed = high_missing_refused low false failed
low_refused low (Some other) failed = (refused_as_2_exactly low other).1 (rw failed refl)

-- What a line is read as, and back.

is_read : (line : List ℕ) (wall : StoreyWall) → StoreyLine line wall → read_storey line ≡ Some wall
is_read line wall is = ap read_storey is.1 ∙ read_storey_complete wall is.0

none_is_read : (line : List ℕ) → NotStoreyLine line → read_storey line ≡ None
none_is_read line none = read_storey_none line (λ wall nine is. none wall (nine, is))

not_read : (line : List ℕ) → read_storey line ≡ None → NotStoreyLine line
not_read line read wall is = none-some wall (sym read ∙ is_read line wall is)

-- The answer for two lines, by what each is read as.
lines_read : (low high : List ℕ) (l h : Option StoreyWall) → read_storey low ≡ l → read_storey high ≡ h → range_lines low high ≡ range_result (range_read l h)
lines_read low high l h read read' = ap₂ (λ (l h : Option StoreyWall). range_result (range_read l h)) read read'

-- 1

missing_1 : (low high : List ℕ) (wall : StoreyWall) → StoreyLine low wall → NotStoreyLine high →
    (passed : Bool) → in_range wall ≡ passed → range_read (Some wall) None ≡ Err 1 → LineInRange low true × NotStoreyLine high
missing_1 low high wall is none true passed one = ((wall, (is, passed)), none)
missing_1 low high wall is none false failed one =
    absurd (let no· : ⊥ = omega (arith, ap refusal_number (sym one ∙ high_missing_refused wall false failed)) in no·)

from_1 : (low high : List ℕ) (l h : Option StoreyWall) → read_storey low ≡ l → read_storey high ≡ h →
    range_read l h ≡ Err 1 → NotStoreyLine low ⊎ (LineInRange low true × NotStoreyLine high)
from_1 low high None h read read' one = inl (not_read low read)
from_1 low high (Some wall) None read read' one =
    inr (missing_1 low high wall (read_storey_sound low wall read) (not_read high read') (in_range wall) refl one)
from_1 low high (Some wall) (Some other) read read' one = absurd (never_1 wall other one)

to_1 : (low high : List ℕ) → NotStoreyLine low ⊎ (LineInRange low true × NotStoreyLine high) → range_lines low high ≡ refused 1
to_1 low high (inl none) = lines_read low high None (read_storey high) (none_is_read low none) refl
to_1 low high (inr missing) =
    let wall = missing.0.0 in
    lines_read low high (Some wall) None (is_read low wall missing.0.1.0) (none_is_read high missing.1)
    ∙ ap range_result (high_missing_refused wall true missing.0.1.1)

pub range_not_a_line : RangeNotALine
range_not_a_line low high = (
  (λ one. from_1 low high (read_storey low) (read_storey high) refl refl (err_of (range_read (read_storey low) (read_storey high)) 1 (omega arith) one)),
  to_1 low high,
)

-- 2

missing_2 : (low : List ℕ) (wall : StoreyWall) → StoreyLine low wall → (passed : Bool) → in_range wall ≡ passed →
    range_read (Some wall) None ≡ Err 2 → LineInRange low false
missing_2 low wall is true passed two =
    absurd (let no· : ⊥ = omega (arith, ap refusal_number (sym two ∙ high_missing_refused wall true passed)) in no·)
missing_2 low wall is false failed two = (wall, (is, failed))

one_out_of_range : (low high : List ℕ) (wall other : StoreyWall) → StoreyLine low wall → StoreyLine high other →
    (b b' : Bool) → in_range wall ≡ b → in_range other ≡ b' → (b && b') ≡ false → LineInRange low false ⊎ (LineInRange low true × LineInRange high false)
one_out_of_range low high wall other is is' true true passed passed' failed = absurd (true≢false failed)
one_out_of_range low high wall other is is' true false passed passed' failed = inr ((wall, (is, passed)), (other, (is', passed')))
one_out_of_range low high wall other is is' false b' passed passed' failed = inl (wall, (is, passed))

from_2 : (low high : List ℕ) (l h : Option StoreyWall) → read_storey low ≡ l → read_storey high ≡ h →
    range_read l h ≡ Err 2 → LineInRange low false ⊎ (LineInRange low true × LineInRange high false)
from_2 low high None h read read' two = absurd (let no· : ⊥ = omega (arith, ap refusal_number two) in no·)
from_2 low high (Some wall) None read read' two = inl (missing_2 low wall (read_storey_sound low wall read) (in_range wall) refl two)
from_2 low high (Some wall) (Some other) read read' two =
    one_out_of_range low high wall other (read_storey_sound low wall read) (read_storey_sound high other read') (in_range wall) (in_range other) refl refl
    ((refused_as_2_exactly wall other).0 two)

to_2 : (low high : List ℕ) → LineInRange low false ⊎ (LineInRange low true × LineInRange high false) → range_lines low high ≡ refused 2
to_2 low high (inl out) =
    lines_read low high (Some out.0) (read_storey high) (is_read low out.0 out.1.0) refl ∙ ap range_result (low_refused out.0 (read_storey high) out.1.1)
to_2 low high (inr out) =
    let wall = out.0.0 in
    let other = out.1.0 in
    lines_read low high (Some wall) (Some other) (is_read low wall out.0.1.0) (is_read high other out.1.1.0)
    ∙ ap range_result ((refused_as_2_exactly wall other).1 (rw (out.0.1.1, out.1.1.1) refl))

pub range_out_of_range : RangeOutOfRange
range_out_of_range low high = (
  (λ two. from_2 low high (read_storey low) (read_storey high) refl refl (err_of (range_read (read_storey low) (read_storey high)) 2 (omega arith) two)),
  to_2 low high,
)

-- Rows: what turns into the records of their numbers, whether rows or cells.

module _ (es es' : List Entry) (own : TurnIntoTheirRecord es) (own' : TurnIntoTheirRecord es') where
  abbrev given : RangeResult
  given = range_result (range_read (Some (entries_wall es)) (Some (entries_wall es')))

  are_the_lines : AreTheLines es es' given
  are_the_lines low high nine nine' same same' =
      ap₂ (λ (l h : StoreyWall). range_result (check l h))
      ((own low (AllBelow-mono (10 ^ 9) cell_bound (numbers low) (omega arith) nine)).1 same)
      ((own' high (AllBelow-mono (10 ^ 9) cell_bound (numbers high) (omega arith) nine')).1 same')
      ∙ sym (range_lines_of_records low high nine nine')

  small : (w : StoreyWall) → in_range w ≡ true → AllBelow cell_bound (numbers w)
  small w passed = AllBelow-mono 100000000 cell_bound (numbers w) (omega arith) (numbers_small w passed)

  refused_otherwise : RefusedOtherwise es es' given
  refused_otherwise none = by_range (in_range (entries_wall es)) (in_range (entries_wall es')) refl refl
    where
      by_range : (b b' : Bool) → in_range (entries_wall es) ≡ b → in_range (entries_wall es') ≡ b' → given ≡ refused 2
      by_range true true passed passed' =
          let w = entries_wall es in
          let w' = entries_wall es' in
          absurd (none w w' passed passed' ((own w (small w passed)).0 refl) ((own' w' (small w' passed')).0 refl))
      by_range true false passed failed' = ap range_result ((refused_as_2_exactly (entries_wall es) (entries_wall es')).1 (rw (passed, failed') refl))
      by_range false b' failed is' = ap range_result ((refused_as_2_exactly (entries_wall es) (entries_wall es')).1 (rw failed refl))

pub range_rows_are_lines : RangeRowsAreLines
range_rows_are_lines low high = are_the_lines (entries low) (entries high) (row_is_its_numbers low) (row_is_its_numbers high)

pub range_cells_are_lines : RangeCellsAreLines
range_cells_are_lines low high = are_the_lines (cell_entries low) (cell_entries high) (cells_are_their_numbers low) (cells_are_their_numbers high)

pub range_other_rows_refused : RangeOtherRowsRefused
range_other_rows_refused low high = refused_otherwise (entries low) (entries high) (row_is_its_numbers low) (row_is_its_numbers high)

pub range_other_cells_refused : RangeOtherCellsRefused
range_other_cells_refused low high = refused_otherwise (cell_entries low) (cell_entries high) (cells_are_their_numbers low) (cells_are_their_numbers high)

-- 1, 2 and 3

-- A line between two records that are not refused has the result of its record.
line_accepted : (low high wall : StoreyWall) → NoneApplies (refusals low high) → Between low high wall →
    (LineAccepted wall → Accepted (StoreyCheck.check wall)) × (Accepted (StoreyCheck.check wall) → LineAccepted wall)
line_accepted low high wall none between =
    let is = ap (λ (r : CheckResult). r.refusal) (in_range_line (Storey wall) (between_in_range low high wall none between)) in
    ((λ accepted. sym is ∙ accepted), (λ accepted. is ∙ accepted))

every_line : (low high : StoreyWall) → NoneApplies (refusals low high) → EveryAccepted low high ↔ EveryLineAccepted low high
every_line low high none = (
  (λ every wall between. (line_accepted low high wall none between).1 (every wall between)),
  (λ every wall between. (line_accepted low high wall none between).0 (every wall between)),
)

no_line : (low high : StoreyWall) → NoneApplies (refusals low high) → NotOneAccepted low high ↔ NoLineAccepted low high
no_line low high none = (
  (λ not_one wall between accepted. not_one wall between ((line_accepted low high wall none between).0 accepted)),
  (λ not_one wall between accepted. not_one wall between ((line_accepted low high wall none between).1 accepted)),
)

-- What an answer stands for, of the records and of their lines.
answers_lines : (n : ℕ) (Fact LineFact : (low high : StoreyWall) → Type 0) →
    ((low high : StoreyWall) → Answers low high n ↔ (NoneApplies (refusals low high) × Fact low high)) →
    ((low high : StoreyWall) → NoneApplies (refusals low high) → Fact low high ↔ LineFact low high) → AnswersExactly n LineFact
answers_lines n Fact LineFact exactly same low high nine nine' =
    let lines = range_lines_of_records low high nine nine' in
    let pair = not_refused_exactly low high in (
      (λ is.
          let all = (exactly low high).0 (sym lines ∙ is) in
          let passed = pair.0 all.0 in
          (passed.0, passed.1, passed.2, (same low high all.0).0 all.1)),
      (λ all.
          let none = pair.1 (all.0, all.1, all.2) in
          lines ∙ (exactly low high).1 (none, (same low high none).1 all.3)),
    )

pub range_lines_answer_1 : RangeLinesAnswer1
range_lines_answer_1 = answers_lines 1 EveryAccepted EveryLineAccepted every_accepted_answers_1 every_line

pub range_lines_answer_2 : RangeLinesAnswer2
range_lines_answer_2 = answers_lines 2 NotOneAccepted NoLineAccepted not_one_accepted_answers_2 no_line

pub range_lines_answer_3 : RangeLinesAnswer3
range_lines_answer_3 =
    answers_lines 3 Otherwise OtherwiseOfLines otherwise_answers_3
    (λ low high none.
    let every = every_line low high none in
    let not_one = no_line low high none in (
      (λ both. ((λ lines. both.0 (every.1 lines)), (λ lines. both.1 (not_one.1 lines)))),
      (λ both. ((λ records. both.0 (every.0 records)), (λ records. both.1 (not_one.0 records)))),
    ))
