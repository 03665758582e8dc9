-- Document 01, the table of refusals: for a `C` record 14 to 17, then 11; 16 as document 02, #105, has it.
use Rattle.std.specs.Prelude.{ℕ, ◌*◌, Bool, List, [], ◌∷◌, ltb}
use Rattle.basis.specs.Fraction.{Fraction, ◌÷◌}
use Rattle.cellar.specs.declared.CellarWall.{CellarWall}

-- 14: "t < 200"
unfoldable pub too_thin : CellarWall → Bool
too_thin w = ltb w.thickness 200

-- 15: "h > 2600"
unfoldable pub too_high : CellarWall → Bool
too_high w = ltb 2600 w.height

-- Document 02, #105: "the national rule that e may reach 1.15h", an exact fraction.
abbrev pub greatest_fill : (h : ℕ) → Fraction
greatest_fill h = (115 * h) ÷ 100

-- 16, document 02, #105: "e > 1.15h, compared without rounding", by cross multiplication.
unfoldable pub fill_too_high : CellarWall → Bool
fill_too_high w = ltb (greatest_fill w.height).num (w.fill * (greatest_fill w.height).den)

-- 17: "p > 5000"
unfoldable pub ground_load_too_great : CellarWall → Bool
ground_load_too_great w = ltb 5000 w.groundload

-- 11: "F < 180"
unfoldable pub too_weak : CellarWall → Bool
too_weak w = ltb w.strength 180

-- "for `C` 1, 2, 14 to 17, 11, 18, 19"
abbrev pub limits : CellarWall → List (ℕ × Bool)
limits w =
    (14, too_thin w)
    ∷ (15, too_high w)
    ∷ (16, fill_too_high w)
    ∷ (17, ground_load_too_great w)
    ∷ (11, too_weak w)
    ∷ []
