-- Laws of the checks that take `S` records alone: what a line is read as; and, over any such check with a number beside the record, its entries.
use Rattle.std.proofs.Common.{Option, Some, None, Float}
use Prim.Native.Nat.{ℕ, ◌<◌, ◌^◌}
use mathlib.Core.Bool.{Bool, true, false}
use mathlib.Core.List.{List}
use mathlib.Core.Path.{◌≡◌, ◌∙◌, refl, sym, ap, ap₂, subst}
use Rattle.std.proofs.lemmas.Option.{none-some, same_Some}
use native.Mathlib.Omega.{arith}
use Rattle.basis.specs.declared.CheckResult.{CheckResult}
use Rattle.basis.specs.Range.{AllBelow}
use Rattle.basis.specs.Result.{refused_with, Below}
use Rattle.basis.proofs.Range.{AllBelow-mono}
use Rattle.basis.proofs.Result.{refused_below}
use Rattle.storey.specs.declared.StoreyWall.{StoreyWall}
use Rattle.storey.specs.Record.{numbers}
use Rattle.walls.specs.declared.Wall.{Wall}
use Rattle.walls.specs.declared.Wall.TheVariants.{Storey, Cellar}
use Rattle.line.specs.Grammar.{NineDigits, line_of}
use Rattle.line.specs.Reading.{read_line}
use Rattle.line.proofs.Claims.{reading_sound, reading_complete}
use Rattle.worksheet.specs.Cell.{cell_bound, cell_number}
use Rattle.worksheet.specs.Entry.{Entry, entries_wall, TurnIntoTheirRecord}
use Rattle.worksheet.proofs.Number.{cell_is_its_value}
use Rattle.wallcheck.specs.StoreyRecord.{storey_alone, read_storey, StoreyLine, result_beside, RefusesAllButStoreyLines, ChecksStoreyRecords, IsTheLineBeside, RefusedOtherwiseBeside}

-- What a line is read as: the record of an `S` line of the form; None for any other line.

pub read_storey_complete : (wall : StoreyWall) → NineDigits (numbers wall) → read_storey (line_of (Storey wall)) ≡ Some wall
unfolding read_storey
read_storey_complete wall nine = ap storey_alone (reading_complete (Storey wall) nine)

pub read_storey_sound : (line : List ℕ) (wall : StoreyWall) → read_storey line ≡ Some wall → StoreyLine line wall
unfolding read_storey
read_storey_sound line wall = by_reading (read_line line) refl
  where
    by_reading : (r : Option Wall) → read_line line ≡ r → storey_alone r ≡ Some wall → StoreyLine line wall
    by_reading (Some (Storey found)) read is =
        let sound = reading_sound line (Storey found) read in
        subst (StoreyLine line) (same_Some found wall is) (sound.1, sound.0)
    by_reading (Some (Cellar found)) read is = absurd (none-some wall is)
    by_reading None read is = absurd (none-some wall is)

pub read_storey_none : (line : List ℕ) → ((wall : StoreyWall) → NineDigits (numbers wall) → line ≡ line_of (Storey wall) → ⊥) → read_storey line ≡ None
read_storey_none line none = by_reading (read_storey line) refl
  where
    by_reading : (r : Option StoreyWall) → read_storey line ≡ r → r ≡ None
    by_reading (Some wall) is = let sound = read_storey_sound line wall is in absurd (none wall sound.0 sound.1)
    by_reading None is = refl

module _ (check : StoreyWall → ℕ → CheckResult) where
  -- The entries of the check, for a line and at what stands in the places of a record's numbers.

  abbrev line_entry : List ℕ → ℕ → CheckResult
  line_entry line n = result_beside check (read_storey line) n

  abbrev cell_entry : List Entry → Float → CheckResult
  cell_entry es x = check (entries_wall es) (cell_number x)

  pub checks_storey_records : ChecksStoreyRecords check line_entry
  checks_storey_records wall n nine = ap (λ (r : Option StoreyWall). result_beside check r n) (read_storey_complete wall nine)

  pub refuses_all_but_storey_lines : ((wall : StoreyWall) (n : ℕ) → (check wall n).refusal ≡ 1 → ⊥) → RefusesAllButStoreyLines line_entry
  refuses_all_but_storey_lines never_1 line n = (
    (λ one wall nine same.
        never_1 wall n (ap (λ (r : CheckResult). r.refusal) (sym (checks_storey_records wall n nine) ∙ ap (λ (l : List ℕ). result_beside check (read_storey l) n) (sym same) ∙ one))),
    (λ none. ap (λ (r : Option StoreyWall). result_beside check r n) (read_storey_none line none)),
  )

  -- What turns into the record of its numbers, whether row or cells.
  module _ (es : List Entry) (own : TurnIntoTheirRecord es) where
    pub is_the_line_beside : IsTheLineBeside line_entry es (cell_entry es)
    is_the_line_beside wall n x nine small same whole =
        ap₂ check ((own wall (AllBelow-mono (10 ^ 9) cell_bound (numbers wall) (omega arith) nine)).1 same) ((cell_is_its_value x n small).1 whole)
        ∙ sym (checks_storey_records wall n nine)

    pub refused_otherwise_beside : (in_range : StoreyWall → ℕ → Bool) →
        ((wall : StoreyWall) (n : ℕ) → in_range wall n ≡ true → AllBelow 100000000 (numbers wall) × (n < cell_bound)) →
        ((wall : StoreyWall) (n : ℕ) → in_range wall n ≡ false → check wall n ≡ refused_with 2) → RefusedOtherwiseBeside in_range es (cell_entry es)
    refused_otherwise_beside in_range small refused x none = by_range (in_range (entries_wall es) (cell_number x)) refl
      where
        by_range : (b : Bool) → in_range (entries_wall es) (cell_number x) ≡ b → check (entries_wall es) (cell_number x) ≡ refused_with 2
        by_range true passed =
            let w = entries_wall es in
            let bounds = small w (cell_number x) passed in
            absurd (none w (cell_number x) passed ((own w (AllBelow-mono 100000000 cell_bound (numbers w) (omega arith) bounds.0)).0 refl) ((cell_is_its_value x (cell_number x) bounds.1).0 refl))
        by_range false failed = refused (entries_wall es) (cell_number x) failed

  -- Every number of every result is bounded, where those of the check are.
  pub beside_below : (bound : ℕ) → 1 < bound → ((wall : StoreyWall) (n : ℕ) → Below bound (check wall n)) →
      (read : Option StoreyWall) (n : ℕ) → Below bound (result_beside check read n)
  beside_below bound above below (Some wall) n = below wall n
  beside_below bound above below None n = refused_below bound 1 above
