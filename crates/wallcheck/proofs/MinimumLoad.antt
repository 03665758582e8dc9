-- The entries of document 02, #106: each claim by citing what was proved of any check of storey walls, and of this one.
use Rattle.std.proofs.Common.{Option, Some}
use Prim.Native.Nat.{ℕ, ◌<◌, ◌^◌}
use mathlib.Core.Bool.{true, false}
use mathlib.Core.Path.{◌≡◌}
use native.Mathlib.Omega.{arith}
use Rattle.walls.specs.declared.Wall.TheVariants.{Storey}
use Rattle.basis.specs.Range.{AllBelow}
use Rattle.basis.proofs.Range.{AllBelow-mono}
use Rattle.basis.specs.Result.{refused_with, Below}
use Rattle.storey.specs.declared.StoreyWall.{StoreyWall}
use Rattle.storey.specs.Record.{numbers}
use Rattle.storey.proofs.Range.{numbers_small}
use Rattle.minimum_load.specs.declared.TopStoreyWall.{TopStoreyWall}
use Rattle.minimum_load.proofs.Check as Check
use Rattle.minimum_load.specs.Comparison.{with_loads, loaded}
use Rattle.minimum_load.proofs.Comparison.{between_accepted}
use Rattle.line.specs.Grammar.{line_of}
use Rattle.worksheet.specs.Cell.{cell_bound, cell_number}
use Rattle.worksheet.specs.Row.{entries, row_wall}
use Rattle.worksheet.specs.Cells.{cell_entries, cells_wall}
use Rattle.worksheet.proofs.Entries.{row_is_its_numbers, cells_are_their_numbers}
use Rattle.wallcheck.specs.StoreyRecord.{read_storey, result_beside}
use Rattle.wallcheck.specs.MinimumLoad.{
  check,
  in_range,
  minimum_load_line,
  minimum_load_row,
  minimum_load_cells,
  MinimumLoadNotALine,
  MinimumLoadLineOfRecord,
  MinimumLoadRowIsLine,
  MinimumLoadCellsAreLine,
  MinimumLoadOtherRowsRefused,
  MinimumLoadOtherCellsRefused,
  MinimumLoadLineWritten,
  MinimumLoadRowWritten,
  MinimumLoadCellsWritten,
  MinimumLoadLines,
}
use Rattle.wallcheck.proofs.Demands.{written_to}
use Rattle.wallcheck.proofs.StoreyRecord.{checks_storey_records, refuses_all_but_storey_lines, is_the_line_beside, refused_otherwise_beside, beside_below}

pub minimum_load_not_a_line : MinimumLoadNotALine
minimum_load_not_a_line = refuses_all_but_storey_lines check (λ wall W. Check.never_refusal_1 (record { wall = wall; designwind = W }))

pub minimum_load_line_of_record : MinimumLoadLineOfRecord
minimum_load_line_of_record = checks_storey_records check

pub minimum_load_row_is_line : MinimumLoadRowIsLine
minimum_load_row_is_line row = is_the_line_beside check (entries row) (row_is_its_numbers row)

pub minimum_load_cells_are_line : MinimumLoadCellsAreLine
minimum_load_cells_are_line cells = is_the_line_beside check (cell_entries cells) (cells_are_their_numbers cells)

-- Record and W in range are held by cells.
small : (wall : StoreyWall) (W : ℕ) → in_range wall W ≡ true → AllBelow 100000000 (numbers wall) × (W < cell_bound)
small wall W passed =
    let top : TopStoreyWall = record { wall = wall; designwind = W } in
    (numbers_small wall (Check.wall_passed top passed), omega (arith, Check.wind_most top passed))

refused : (wall : StoreyWall) (W : ℕ) → in_range wall W ≡ false → check wall W ≡ refused_with 2
refused wall W failed = Check.out_of_range (record { wall = wall; designwind = W }) failed

pub minimum_load_other_rows_refused : MinimumLoadOtherRowsRefused
minimum_load_other_rows_refused row = refused_otherwise_beside check (entries row) (row_is_its_numbers row) in_range small refused

pub minimum_load_other_cells_refused : MinimumLoadOtherCellsRefused
minimum_load_other_cells_refused cells = refused_otherwise_beside check (cell_entries cells) (cells_are_their_numbers cells) in_range small refused

below : (read : Option StoreyWall) (W : ℕ) → Below 1000000000 (result_beside check read W)
below = beside_below check 1000000000 (omega arith) (λ wall W. Check.result_is_bounded (record { wall = wall; designwind = W }))

pub minimum_load_line_written : MinimumLoadLineWritten
minimum_load_line_written buffer line W long = written_to buffer (minimum_load_line line W) (below (read_storey line) W) long

pub minimum_load_row_written : MinimumLoadRowWritten
minimum_load_row_written buffer row W long = written_to buffer (minimum_load_row row W) (below (Some (row_wall row)) (cell_number W)) long

pub minimum_load_cells_written : MinimumLoadCellsWritten
minimum_load_cells_written buffer cells W long = written_to buffer (minimum_load_cells cells W) (below (Some (cells_wall cells)) (cell_number W)) long

-- The line of a record in range has the record's result.
in_range_line : (wall : StoreyWall) (W : ℕ) → in_range wall W ≡ true → minimum_load_line (line_of (Storey wall)) W ≡ check wall W
in_range_line wall W passed = checks_storey_records check wall W (AllBelow-mono 100000000 (10 ^ 9) (numbers wall) (omega arith) (small wall W passed).0)

pub minimum_load_lines : MinimumLoadLines
minimum_load_lines wall W G Q G' Q' dead imposed nine_low nine_high accepted_low accepted_high dead_from dead_to imposed_from imposed_to =
    let low = rw (checks_storey_records check (with_loads wall G Q) W nine_low) at accepted_low in
    let high = rw (checks_storey_records check (with_loads wall G' Q') W nine_high) at accepted_high in
    let accepted = between_accepted wall W G Q G' Q' dead imposed low high dead_from dead_to imposed_from imposed_to in
    rw (in_range_line (with_loads wall dead imposed) W (Check.accepted_in_range (loaded wall W dead imposed) accepted)) accepted
