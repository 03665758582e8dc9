-- Document 01, the table of refusals, 3 to 12.
use Rattle.std.specs.Prelude.{ℕ, ◌*◌, Bool, not, ◌&&◌, ◌||◌, List, [], ◌∷◌, ◌++◌, leb, ltb, eqb}
use Rattle.storey.specs.declared.StoreyWall.{StoreyWall}
use Rattle.storey.specs.Height.{height_limit, above}
use Rattle.storey.specs.Span.{governing_span}
use Rattle.storey.specs.BucklingLength.{buckling_length}

-- 3: "t < 115"
unfoldable pub too_thin : StoreyWall → Bool
too_thin w = ltb w.thickness 115

-- 4: "w × t < 40000"
unfoldable pub area_too_small : StoreyWall → Bool
area_too_small w = ltb (w.length * w.thickness) 40000

-- 5: "(held 4, c ≤ 4500)" or "(held 3, c ≤ 2000)"
unfoldable pub closely_held : StoreyWall → Bool
closely_held w = (eqb w.held 4 && leb w.distance 4500) || (eqb w.held 3 && leb w.distance 2000)

-- 5: "use 2 and t < 150; or use 4 and n > 1; or use 3, t < 150 and either n > 2 or neither .. nor .."
unfoldable pub unfit_for_use : StoreyWall → Bool
unfit_for_use w =
    (eqb w.usage 2 && ltb w.thickness 150)
    || (eqb w.usage 4 && ltb 1 w.storeys)
    || (eqb w.usage 3 && ltb w.thickness 150 && (ltb 2 w.storeys || not (closely_held w)))

-- 6: "h above its limit"
unfoldable pub too_high : StoreyWall → Bool
too_high w = above (height_limit w) w.height

-- 7: "q > 5000, or q > 3000 with use not 1 and t < 175"
unfoldable pub floor_load_too_great : StoreyWall → Bool
floor_load_too_great w = ltb 5000 w.floorload || (ltb 3000 w.floorload && not (eqb w.usage 1) && ltb w.thickness 175)

-- 8: "H > 20000"
unfoldable pub building_too_high : StoreyWall → Bool
building_too_high w = ltb 20000 w.building

-- 9: "L > 6000, support not 4"; document 02, #101: "the shorter of L and M stands for L".
unfoldable pub span_too_long : StoreyWall → Bool
span_too_long w = ltb 6000 (governing_span w.span w.otherspan) && not (eqb w.support 4)

-- 10: "a ≤ 100, or 2a < t (for t = 365: 20a < 9t)"
unfoldable pub bearing_too_shallow : StoreyWall → Bool
bearing_too_shallow w =
    leb w.bearing 100
    || (eqb w.thickness 365 && ltb (20 * w.bearing) (9 * w.thickness))
    || (not (eqb w.thickness 365) && ltb (2 * w.bearing) w.thickness)

-- 11: "F < 180"
unfoldable pub too_weak : StoreyWall → Bool
too_weak w = ltb w.strength 180

-- 12: "E > 270t"
unfoldable pub too_slender : StoreyWall → Bool
too_slender w = ltb (270 * w.thickness) (buckling_length w)

-- "The first that applies is given": refusals 3 to 12 in order. Those up to 11 stand alone too, for a check that has no 12.
abbrev pub limits_up_to_11 : StoreyWall → List (ℕ × Bool)
limits_up_to_11 w =
    (3, too_thin w)
    ∷ (4, area_too_small w)
    ∷ (5, unfit_for_use w)
    ∷ (6, too_high w)
    ∷ (7, floor_load_too_great w)
    ∷ (8, building_too_high w)
    ∷ (9, span_too_long w)
    ∷ (10, bearing_too_shallow w)
    ∷ (11, too_weak w)
    ∷ []

abbrev pub slenderness_limit : StoreyWall → List (ℕ × Bool)
slenderness_limit w = (12, too_slender w) ∷ []

abbrev pub limits : StoreyWall → List (ℕ × Bool)
limits w = limits_up_to_11 w ++ slenderness_limit w
