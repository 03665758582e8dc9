-- Demands 1, 2 and 3 and #104 for the public entries: each by citing what was proved below.
use Rattle.std.proofs.Common.{Option, Some, None}
use Prim.Native.Nat.{ℕ, ◌≤◌, ◌^◌}
use mathlib.Core.Bool.{Bool, true, false}
use mathlib.Core.List.{List, ◌++◌}
use mathlib.Core.Path.{◌≡◌, ◌∙◌, refl, sym, ap}
use native.Mathlib.Omega.{arith}
use native.Mathlib.Nat.{le_trans}
use borrow.Author.Tests.{lt-ltb, le-ltb}
use lib.ListN.{length, drop, length-append, length-drop}
use Rattle.basis.specs.declared.CheckResult.{CheckResult}
use Rattle.basis.specs.Result.{refused_with, Below}
use Rattle.basis.proofs.Check.{result_out_of_range}
use Rattle.basis.proofs.Range.{AllBelow-mono}
use Rattle.storey.specs.declared.StoreyWall.{StoreyWall}
use Rattle.storey.specs.Record.{numbers}
use Rattle.walls.specs.declared.Wall.{Wall}
use Rattle.walls.specs.declared.Wall.TheVariants.{Storey, Cellar}
use Rattle.walls.specs.Check.{numbers_of, parts, in_range, check}
use Rattle.walls.proofs.Claims.{numbers_reported, accepted_within_limits, never_refusal_1, numbers_are_small}
use Rattle.walls.proofs.Comparison.{storey_comparison, cellar_comparison}
use Rattle.line.specs.Grammar.{line_of}
use Rattle.line.specs.Reading.{read_line, reading_result}
use Rattle.line.proofs.Claims.{reading_sound, reading_complete, malformed_exactly}
use Rattle.line.proofs.Beginning.{taken_exactly}
use Rattle.worksheet.specs.Cell.{cell_bound}
use Rattle.worksheet.specs.Entry.{Entry, entries_wall, TurnIntoTheirRecord}
use Rattle.worksheet.specs.Row.{entries}
use Rattle.worksheet.specs.Cells.{cell_entries}
use Rattle.worksheet.proofs.Entries.{row_is_its_numbers, cells_are_their_numbers}
use Rattle.buffer.proofs.Overwrite.{overwrite_start}
use Rattle.report.specs.Text.{result_text}
use Rattle.report.specs.Reading.{read_result}
use Rattle.report.proofs.Reading.{text_reads_back}
use Rattle.wallcheck.specs.Entry.{line_result, counted_result, row_result, cells_result, Lent, lent}
use Rattle.wallcheck.specs.Demands.{
  NotALine,
  LineOfRecord,
  NoResultDiffers,
  LineTakenExactly,
  IsTheLine,
  RowIsLine,
  CellsAreLine,
  RefusedOtherwise,
  OtherRowsRefused,
  OtherCellsRefused,
  ShortBuffer,
  WrittenTo,
  LineWritten,
  RowWritten,
  CellsWritten,
  LineNumbers,
  StoreyLines,
  CellarLines,
}
use Rattle.wallcheck.proofs.Entry.{line_below, row_below, cells_below, text_within_64}

-- Demand 1

pub line_of_record : LineOfRecord
unfolding line_result
line_of_record wall nine = ap (reading_result check) (reading_complete wall nine)

only_malformed : (r : Option Wall) → reading_result check r ≡ refused_with 1 → r ≡ None
only_malformed (Some w) one = absurd (never_refusal_1 w (ap (λ (x : CheckResult). x.refusal) one))
only_malformed None one = refl

pub not_a_line : NotALine
unfolding line_result
not_a_line line = (
  (λ one. (malformed_exactly line).0 (only_malformed (read_line line) one)),
  (λ none. ap (reading_result check) ((malformed_exactly line).1 none)),
)

pub no_result_differs : NoResultDiffers
unfolding counted_result line_result
no_result_differs before others records line = let same = by_reading (read_line line) refl in (same, same)
  where
    by_reading : (r : Option Wall) → read_line line ≡ r → reading_result check r ≡ before line
    by_reading (Some w) e =
        let sound = reading_sound line w e in
        sym (records w sound.1) ∙ ap before (sym sound.0)
    by_reading None e = sym ((others line).1 ((malformed_exactly line).0 e))

pub line_taken_exactly : LineTakenExactly
unfolding counted_result
line_taken_exactly = taken_exactly

-- What turns into the record of its numbers, whether row or cells.
module _ (es : List Entry) (own : TurnIntoTheirRecord es) where
  is_the_line : IsTheLine es (check (Storey (entries_wall es)))
  is_the_line wall nine same =
      ap (λ (w : StoreyWall). check (Storey w)) ((own wall (AllBelow-mono (10 ^ 9) cell_bound (numbers wall) (omega arith) nine)).1 same)
      ∙ sym (line_of_record (Storey wall) nine)

  refused_otherwise : RefusedOtherwise es (check (Storey (entries_wall es)))
  refused_otherwise none = by_range (in_range (Storey (entries_wall es))) refl
    where
      by_range : (b : Bool) → in_range (Storey (entries_wall es)) ≡ b → check (Storey (entries_wall es)) ≡ refused_with 2
      by_range true passed =
          let w = entries_wall es in
          absurd (none w passed ((own w (AllBelow-mono 100000000 cell_bound (numbers w) (omega arith) (numbers_are_small (Storey w) passed))).0 refl))
      by_range false failed = result_out_of_range (parts (Storey (entries_wall es))) failed

pub row_is_line : RowIsLine
row_is_line row = is_the_line (entries row) (row_is_its_numbers row)

pub cells_are_line : CellsAreLine
cells_are_line cells = is_the_line (cell_entries cells) (cells_are_their_numbers cells)

pub other_rows_refused : OtherRowsRefused
other_rows_refused row = refused_otherwise (entries row) (row_is_its_numbers row)

pub other_cells_refused : OtherCellsRefused
other_cells_refused cells = refused_otherwise (cell_entries cells) (cells_are_their_numbers cells)

pub short_buffer : ShortBuffer
unfolding lent
short_buffer buffer result short = rw (lt-ltb (length buffer) 64 short)

lent_long : (buffer : List ℕ) (result : CheckResult) → length (result_text result) ≤ 64 → 64 ≤ length buffer →
    lent buffer result ≡ record { result = result; buffer = result_text result ++ drop (length (result_text result)) buffer }
unfolding lent
lent_long buffer result fits long = rw (le-ltb (length buffer) 64 long, overwrite_start buffer (result_text result) (le_trans fits long))

pub written_to : (buffer : List ℕ) (result : CheckResult) → Below 1000000000 result → 64 ≤ length buffer → WrittenTo buffer result
written_to buffer result below long =
    let text = result_text result in
    let behind = drop (length text) buffer in
    let fits = text_within_64 result below in
    let handed = lent_long buffer result fits long in
    let holds = ap (λ (l : Lent). l.buffer) handed in
    record {
      handed = handed;
      fits = fits;
      same_length = ap length holds ∙ length-append text behind ∙ (rw (length-drop (length text) buffer) (omega arith));
      reads_back = ap read_result holds ∙ text_reads_back result behind;
    }

pub line_written : LineWritten
line_written buffer line long = written_to buffer (line_result line) (line_below line) long

pub row_written : RowWritten
row_written buffer row long = written_to buffer (row_result row) (row_below row) long

pub cells_written : CellsWritten
cells_written buffer cells long = written_to buffer (cells_result cells) (cells_below cells) long

-- Demand 2

pub in_range_line : (wall : Wall) → in_range wall ≡ true → line_result (line_of wall) ≡ check wall
in_range_line wall passed = line_of_record wall (AllBelow-mono 100000000 (10 ^ 9) (numbers_of wall) (omega arith) (numbers_are_small wall passed))

pub line_numbers : LineNumbers
line_numbers wall passed = (
  (λ none. rw (in_range_line wall passed) (numbers_reported wall passed none)),
  (λ accepted. (accepted_within_limits wall (rw (in_range_line wall passed) at accepted)).1),
)

-- Demand 3

pub storey_lines : StoreyLines
storey_lines first second passed passed' pair accepted =
    let first_is = in_range_line (Storey first) passed in
    let second_is = in_range_line (Storey second) passed' in
    rw (first_is, second_is) (storey_comparison first second passed passed' pair (rw first_is at accepted))

pub cellar_lines : CellarLines
cellar_lines low high wall nine_low nine_high accepted_low accepted_high between =
    let low_accepted = rw (line_of_record (Cellar low) nine_low) at accepted_low in
    let high_accepted = rw (line_of_record (Cellar high) nine_high) at accepted_high in
    let accepted = cellar_comparison low high wall low_accepted high_accepted between in
    let passed = (accepted_within_limits (Cellar wall) accepted).0 in
    rw (in_range_line (Cellar wall) passed) accepted
