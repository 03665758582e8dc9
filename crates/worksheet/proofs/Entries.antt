-- The claims about the record of a list of entries. Its numbers are those of the entries, place by place, so both follow from the claims about one cell. Assumes nothing.
use Rattle.std.proofs.Common.{◌≡◌, ℕ, ◌<◌, ◌↔◌, List, [], ◌∷◌, map, sym, refl, ap, ◌∙◌}
use mathlib.Core.List.{cons-eq-cons, nil≢cons, cons≢nil}
use Rattle.basis.specs.Range.{AllBelow}
use Rattle.storey.specs.Record.{numbers, storey_of}
use Rattle.worksheet.specs.Cell.{cell_bound}
use Rattle.worksheet.specs.Entry.{Entry, fixed, cell, entry_number, entries_wall, Each, EntryIs, TurnIntoTheirRecord, NoneIfNotWhole, OthersLeaveNone}
use Rattle.worksheet.specs.Row.{entries, RowIsItsNumbers, OtherCellsLeaveNone}
use Rattle.worksheet.specs.Cells.{cell_entries, CellsAreTheirNumbers, CellsLeaveNone}
use Rattle.worksheet.proofs.Number.{cell_is_its_value, other_cells_are_none}

entry_is : (e : Entry) (n : ℕ) → n < cell_bound → (entry_number e ≡ n) ↔ EntryIs e n
entry_is (fixed k) n small = (λ h. h, λ h. h)
entry_is (cell x) n small = cell_is_its_value x n small

each_is : (es : List Entry) (ns : List ℕ) → AllBelow cell_bound ns → (map entry_number es ≡ ns) ↔ Each EntryIs es ns
each_is [] [] small = (λ h. tt, λ h. refl)
each_is [] (n ∷ ns) small = (nil≢cons, λ h. absurd h)
each_is (e ∷ es) [] small = (cons≢nil, λ h. absurd h)
each_is (e ∷ es) (n ∷ ns) small =
    let first = entry_is e n small.0 in
    let others = each_is es ns small.1 in (
      λ h. let p = cons-eq-cons.0 h in (first.0 p.0, others.0 p.1),
      λ h. cons-eq-cons.1 (first.1 h.0, others.1 h.1),
    )

each_none : (es : List Entry) → Each NoneIfNotWhole es (map entry_number es)
each_none [] = tt
each_none (fixed k ∷ es) = (tt, each_none es)
each_none (cell x ∷ es) = (other_cells_are_none x, each_none es)

-- Entries in all places, so that the record has the number of each and no other.
module _ (es : List Entry) (all : numbers (entries_wall es) ≡ map entry_number es) where
  pub entries_are_numbers : TurnIntoTheirRecord es
  entries_are_numbers w small =
      let each = each_is es (numbers w) small in (λ h. each.0 (sym all ∙ ap numbers h), λ h. ap storey_of (each.1 h))

  pub others_leave_none : OthersLeaveNone es
  others_leave_none = rw all (each_none es)

pub row_is_its_numbers : RowIsItsNumbers
row_is_its_numbers r = entries_are_numbers (entries r) refl

pub other_cells_leave_none : OtherCellsLeaveNone
other_cells_leave_none r = others_leave_none (entries r) refl

pub cells_are_their_numbers : CellsAreTheirNumbers
cells_are_their_numbers x = entries_are_numbers (cell_entries x) refl

pub cells_leave_none : CellsLeaveNone
cells_leave_none x = others_leave_none (cell_entries x) refl
