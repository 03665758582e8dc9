-- Document 01, "Cellar wall": "Resistance is 17Ft/9, times 4/5 if bonded, rounded down."
use Rattle.std.specs.Prelude.{ℕ, ◌*◌, cond, eqb}
use Rattle.basis.specs.Fraction.{Fraction, ◌÷◌, whole, times, floor}
use Rattle.cellar.specs.declared.CellarWall.{CellarWall}

-- "times 4/5 if bonded"
unfoldable pub reduction : (bonded : ℕ) → Fraction
reduction bonded = cond (eqb bonded 1) (4 ÷ 5) (whole 1)

unfoldable pub exact_resistance : CellarWall → Fraction
exact_resistance w = times ((17 * w.strength * w.thickness) ÷ 9) (reduction w.bonded)

-- "rounded down"
unfoldable pub resistance : CellarWall → ℕ
resistance w = floor (exact_resistance w)
