-- "A worksheet row is an `S` record whose quantities are f64 cells, all 14 numbers other than held and c."
-- "Its holding is given as two sides, three sides with the edge distance, or four sides with the spacing, the distance being a cell too."
-- Document 02: "the worksheet row gains the same cell" for M of #101, and "both as cells", mark and wind, of #102.
use Rattle.std.specs.Prelude.{ℕ, List, [], ◌∷◌}
use Rattle.storey.specs.declared.StoreyWall.{StoreyWall}
use Rattle.worksheet.specs.declared.Holding.{Holding}
use Rattle.worksheet.specs.declared.Holding.TheVariants.{TwoSides, ThreeSides, FourSides}
use Rattle.worksheet.specs.declared.Row.{Row}
use Rattle.worksheet.specs.Entry.{Entry, fixed, cell, entries_wall, TurnIntoTheirRecord, OthersLeaveNone}

-- held
abbrev pub held_sides : Holding → ℕ
held_sides TwoSides = 2
held_sides (ThreeSides edge) = 3
held_sides (FourSides spacing) = 4

-- c, "0 if held is 2"
abbrev pub distance_entry : Holding → Entry
distance_entry TwoSides = fixed 0
distance_entry (ThreeSides edge) = cell edge
distance_entry (FourSides spacing) = cell spacing

-- What a row has in the places of a record's numbers, in document 01's order.
abbrev pub entries : Row → List Entry
entries r =
    cell r.usage
    ∷ cell r.thickness
    ∷ cell r.height
    ∷ cell r.length
    ∷ fixed (held_sides r.holding)
    ∷ distance_entry r.holding
    ∷ cell r.support
    ∷ cell r.span
    ∷ cell r.bearing
    ∷ cell r.strength
    ∷ cell r.bonded
    ∷ cell r.dead
    ∷ cell r.imposed
    ∷ cell r.floorload
    ∷ cell r.building
    ∷ cell r.storeys
    ∷ cell r.otherspan
    ∷ cell r.calciumsilicate
    ∷ cell r.wind
    ∷ []

-- The record that a row turns into.
abbrev pub row_wall : Row → StoreyWall
row_wall r = entries_wall (entries r)

-- ---- what is proved of it, in proofs/Entries.antt

abbrev pub RowIsItsNumbers : Type 0
RowIsItsNumbers = (r : Row) → TurnIntoTheirRecord (entries r)

abbrev pub OtherCellsLeaveNone : Type 0
OtherCellsLeaveNone = (r : Row) → OthersLeaveNone (entries r)
