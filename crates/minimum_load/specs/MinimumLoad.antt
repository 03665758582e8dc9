-- Document 02, #106: "It needs G ≥ 9Wh²/(160(300a − h)), rounded up (source document 003, minimum load; ..)".
use Rattle.std.specs.Prelude.{ℕ, ◌-◌, ◌*◌}
use Rattle.basis.specs.Fraction.{Fraction, ◌÷◌, ceil}
use Rattle.minimum_load.specs.declared.TopStoreyWall.{TopStoreyWall}

-- "9Wh²/(160(300a − h))"
abbrev pub minimum_load_of : (W h a : ℕ) → Fraction
minimum_load_of W h a = (9 * W * (h * h)) ÷ (160 * (300 * a - h))

unfoldable pub exact_minimum_load : TopStoreyWall → Fraction
exact_minimum_load w = minimum_load_of w.designwind w.wall.height w.wall.bearing

-- "rounded up"
unfoldable pub minimum_load : TopStoreyWall → ℕ
minimum_load w = ceil (exact_minimum_load w)
