-- A worksheet row as a spreadsheet and C have it: a cell for each number of the record, held and c among them.
use Rattle.std.specs.Prelude.{List, [], ◌∷◌}
use Rattle.storey.specs.declared.StoreyWall.{StoreyWall}
use Rattle.worksheet.specs.declared.cells.Cells.{Cells}
use Rattle.worksheet.specs.Entry.{Entry, cell, entries_wall, TurnIntoTheirRecord, OthersLeaveNone}

-- The cells in document 01's order.
abbrev pub cell_entries : Cells → List Entry
cell_entries x =
    cell x.usage
    ∷ cell x.thickness
    ∷ cell x.height
    ∷ cell x.length
    ∷ cell x.held
    ∷ cell x.distance
    ∷ cell x.support
    ∷ cell x.span
    ∷ cell x.bearing
    ∷ cell x.strength
    ∷ cell x.bonded
    ∷ cell x.dead
    ∷ cell x.imposed
    ∷ cell x.floorload
    ∷ cell x.building
    ∷ cell x.storeys
    ∷ cell x.otherspan
    ∷ cell x.calciumsilicate
    ∷ cell x.wind
    ∷ []

-- The record whose numbers are those of the cells.
abbrev pub cells_wall : Cells → StoreyWall
cells_wall x = entries_wall (cell_entries x)

-- ---- what is proved of it, in proofs/Entries.antt

abbrev pub CellsAreTheirNumbers : Type 0
CellsAreTheirNumbers = (x : Cells) → TurnIntoTheirRecord (cell_entries x)

abbrev pub CellsLeaveNone : Type 0
CellsLeaveNone = (x : Cells) → OthersLeaveNone (cell_entries x)
