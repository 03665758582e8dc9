-- Document 01, "Cellar wall": the need, the dead load that the wall requires against the fill.
use Rattle.std.specs.Prelude.{ℕ, ◌*◌, cond, leb}
use Rattle.basis.specs.Fraction.{Fraction, ◌÷◌, whole, times, over, minus, ceil}
use Rattle.cellar.specs.declared.CellarWall.{CellarWall}

-- "where B is 20 for c ≥ 2h, 40 for c ≤ h, else 60 − 20c/h"
unfoldable pub spacing_factor : (h c : ℕ) → Fraction
spacing_factor h c = cond (leb (2 * h) c) (whole 20) (cond (leb c h) (whole 40) (minus (whole 60) ((20 * c) ÷ h)))

-- "y × h × e²/(1000000 × B × t)", with B unrounded. Document 02, #105: "The need formula takes e as entered."
unfoldable pub exact_required_load : CellarWall → Fraction
exact_required_load w =
    over (whole (w.weight * w.height * (w.fill * w.fill)))
    (times (times (whole 1000000) (spacing_factor w.height w.spacing)) (whole w.thickness))

-- "Need is .. rounded up"
unfoldable pub required_load : CellarWall → ℕ
required_load w = ceil (exact_required_load w)
