-- "A record is the numbers of one line; a worksheet row counts as the line with the same numbers."
use Rattle.std.specs.Prelude.{◌≡◌, ℕ, ◌↔◌, List, [], ◌∷◌, map, Float}
use Rattle.basis.specs.Range.{AllBelow}
use Rattle.storey.specs.declared.StoreyWall.{StoreyWall}
use Rattle.storey.specs.Record.{numbers, storey_of}
use Rattle.worksheet.specs.Cell.{IsWhole, NoWhole, cell_bound, no_number, cell_number}

-- What stands in the place of a number of the record: a number that the holding fixes, or a cell.
pub data Entry : Type 0 where
  fixed : ℕ → Entry
  cell : Float → Entry

abbrev pub entry_number : Entry → ℕ
entry_number (fixed n) = n
entry_number (cell x) = cell_number x

-- The record whose numbers are those of the entries, in document 01's order.
abbrev pub entries_wall : List Entry → StoreyWall
entries_wall es = storey_of (map entry_number es)

-- ---- what is proved of it for a row and for cells, in proofs/Entries.antt

-- R holds between each entry and the number in its place.
abbrev pub Each : (Entry → ℕ → Type 0) → List Entry → List ℕ → Type 0
Each R [] [] = Unit
Each R [] (n ∷ ns) = ⊥
Each R (e ∷ es) [] = ⊥
Each R (e ∷ es) (n ∷ ns) = R e n × Each R es ns

abbrev pub EntryIs : Entry → ℕ → Type 0
EntryIs (fixed k) n = k ≡ n
EntryIs (cell x) n = IsWhole x n

-- The entries have the numbers of the record.
abbrev pub HaveNumbers : List Entry → StoreyWall → Type 0
HaveNumbers es w = Each EntryIs es (numbers w)

-- The entries turn into a record exactly if they have the record's numbers, where these are below the bound, as all that are in range are.
abbrev pub TurnIntoTheirRecord : List Entry → Type 0
TurnIntoTheirRecord es = (w : StoreyWall) → AllBelow cell_bound (numbers w) → (entries_wall es ≡ w) ↔ HaveNumbers es w

abbrev pub NoneIfNotWhole : Entry → ℕ → Type 0
NoneIfNotWhole (fixed k) n = Unit
NoneIfNotWhole (cell x) n = NoWhole x → n ≡ no_number

-- A cell that is no whole number leaves the number in its place that is in no range.
abbrev pub OthersLeaveNone : List Entry → Type 0
OthersLeaveNone es = Each NoneIfNotWhole es (numbers (entries_wall es))
