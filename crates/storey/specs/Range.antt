-- Document 01, "The two lines": "`S` and 16 numbers, with range". Document 02: M of #101, mark and wind of #102.
use Rattle.std.specs.Prelude.{Bool, cond, List, [], ◌∷◌, eqb}
use Rattle.basis.specs.Range.{Range, ◌from◌to◌, all_within}
use Rattle.storey.specs.declared.StoreyWall.{StoreyWall}

-- The numbers in document 01's order, each with its range.
abbrev pub ranges : StoreyWall → List Range
ranges w =
    w.usage from 1 to 4
    ∷ w.thickness from 1 to 1000
    ∷ w.height from 1 to 20000
    ∷ w.length from 1 to 20000
    ∷ w.held from 2 to 4
    -- "c, 0 if held is 2, else 1..30000"
    ∷ w.distance from cond (eqb w.held 2) 0 1 to cond (eqb w.held 2) 0 30000
    ∷ w.support from 1 to 4
    ∷ w.span from 1 to 20000
    -- "a bearing depth 1..t"
    ∷ w.bearing from 1 to w.thickness
    ∷ w.strength from 1 to 5000
    ∷ w.bonded from 0 to 1
    ∷ w.dead from 1 to 10000000
    ∷ w.imposed from 0 to 10000000
    ∷ w.floorload from 0 to 100000
    ∷ w.building from 1 to 200000
    ∷ w.storeys from 1 to 20
    -- #101: "M, the other span, 0 for a one-way slab, else 1..20000"
    ∷ w.otherspan from 0 to 20000
    -- #102: "mark 1 for calcium silicate in normal or thin-bed mortar, else 0, and characteristic wind 0..10000 N/m²"
    ∷ w.calciumsilicate from 0 to 1
    ∷ w.wind from 0 to 10000
    ∷ []

unfoldable pub in_range : StoreyWall → Bool
in_range w = all_within (ranges w)
