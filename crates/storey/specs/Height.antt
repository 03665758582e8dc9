-- The greatest clear height: document 01, "Heights", and document 02, #102, "Taller calcium silicate walls".
use Rattle.std.specs.Prelude.{ℕ, ◌*◌, ◌≤◌, Bool, false, cond, ◌&&◌, ◌||◌, leb, ltb, eqb}
use Rattle.storey.specs.declared.StoreyWall.{StoreyWall}

-- A greatest clear height, or none.
pub data HeightLimit : Type 0 where
  unlimited : HeightLimit
  at_most : ℕ → HeightLimit

abbrev pub above : HeightLimit → (h : ℕ) → Bool
above unlimited h = false
above (at_most n) h = ltb n h

-- The second limit is no lower than the first.
abbrev pub NoLower : (first second : HeightLimit) → Type 0
NoLower limit unlimited = Unit {0}
NoLower unlimited (at_most n) = ⊥
NoLower (at_most m) (at_most n) = m ≤ n

-- Document 01: "Heights: use 1 with t < 240: 2750; use 1 with t ≥ 240: no limit; other uses with t < 240: 2750; with t ≥ 240: 12t."
unfoldable pub general_height : (usage t : ℕ) → HeightLimit
general_height usage t =
    cond (eqb usage 1)
    (cond (ltb t 240) (at_most 2750) unlimited)
    (cond (ltb t 240) (at_most 2750) (at_most (12 * t)))

-- #102: "Uses 2 to 4, for F ≥ 350: 115 mm 2750, 150 mm 2750, 175 mm 3000, 200 and 240 mm 3600, 300 mm 12t. For F ≥ 500 and for F ≥ 1000 the only change is
-- 3300 at 175 mm. A thickness between two rows takes the thinner row. Entries marked 4 or 5 there aren't used. Use 1 with t < 240: 3600 for F ≥ 350.
-- Where no height is named here, .., document 01's stays." So the rows are asked from the thickest down.
unfoldable pub calcium_silicate_height : (usage t F : ℕ) → HeightLimit
calcium_silicate_height usage t F =
    cond (eqb usage 1)
    (cond (ltb t 240) (at_most 3600) (general_height usage t))
    (cond (leb 300 t) (at_most (12 * t))
    (cond (leb 240 t) (at_most 3600)
    (cond (leb 200 t) (at_most 3600)
    (cond (leb 175 t) (cond (leb 500 F) (at_most 3300) (at_most 3000))
    (cond (leb 150 t) (at_most 2750)
    (cond (leb 115 t) (at_most 2750)
    (general_height usage t)))))))

-- #102: "With the mark, a = t, and for uses other than 1 wind ≤ 1250, heights come from source document 002, Tafel 5/1", for F ≥ 350;
-- "as for F < 350, document 01's stays".
unfoldable pub calcium_silicate_applies : StoreyWall → Bool
calcium_silicate_applies w =
    eqb w.calciumsilicate 1
    && eqb w.bearing w.thickness
    && leb 350 w.strength
    && (eqb w.usage 1 || leb w.wind 1250)

-- The limit of a record: #102's heights where they apply, else document 01's.
unfoldable pub height_limit : StoreyWall → HeightLimit
height_limit w =
    cond (calcium_silicate_applies w) (calcium_silicate_height w.usage w.thickness w.strength) (general_height w.usage w.thickness)
