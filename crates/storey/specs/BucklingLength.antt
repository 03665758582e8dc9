-- Document 01, "Storey wall": the factor r and the buckling length E.
use Rattle.std.specs.Prelude.{ℕ, ◌+◌, ◌*◌, Bool, cond, ◌&&◌, leb, eqb}
use Rattle.basis.specs.Fraction.{Fraction, ◌÷◌, whole, larger, ceil}
use Rattle.storey.specs.declared.StoreyWall.{StoreyWall}

-- "if the bearing suffices (t ≥ 240: a ≥ 175; t < 240: a = t)"
unfoldable pub bearing_suffices : (t a : ℕ) → Bool
bearing_suffices t a = cond (leb 240 t) (leb 175 a) (eqb a t)

-- "Factor r/20: .. r is 15 for t ≤ 175, 18 for t ≤ 250, else 20. If it doesn't, r is 20."
unfoldable pub factor : (t a : ℕ) → ℕ
factor t a = cond (bearing_suffices t a) (cond (leb t 175) 15 (cond (leb t 250) 18 20)) 20

-- "two sides: k/2"
unfoldable pub two_sides : (k : ℕ) → Fraction
two_sides k = k ÷ 2

-- "three sides, c ≤ 15t: the larger of 1800c²k/(3600c² + k²) and 3h"
unfoldable pub three_sides : (h c k : ℕ) → Fraction
three_sides h c k = larger ((1800 * (c * c) * k) ÷ (3600 * (c * c) + k * k)) (whole (3 * h))

-- "four sides, c ≤ 30t: if h ≤ c, 200c²k/(400c² + k²); if h > c, 5c"
unfoldable pub four_sides : (h c k : ℕ) → Fraction
four_sides h c k = cond (leb h c) ((200 * (c * c) * k) ÷ (400 * (c * c) + k * k)) (whole (5 * c))

-- "three or four sides with c beyond that: as two sides"
unfoldable pub length_of : (held t h c k : ℕ) → Fraction
length_of held t h c k =
    cond (eqb held 3 && leb c (15 * t)) (three_sides h c k) (cond (eqb held 4 && leb c (30 * t)) (four_sides h c k) (two_sides k))

-- The exact value, in tenths of a mm. "Let k = r × h."
unfoldable pub exact_length : StoreyWall → Fraction
exact_length w =
    length_of w.held w.thickness w.height w.distance (factor w.thickness w.bearing * w.height)

-- "E is the buckling length in tenths of a mm, the exact value below rounded up."
unfoldable pub buckling_length : StoreyWall → ℕ
buckling_length w = ceil (exact_length w)
