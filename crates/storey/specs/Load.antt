-- Document 01, "Storey wall": "Load N is 1.35G + 1.5Q"; document 02, #103, for q ≤ 3000: the smaller of that and 1.4(G + Q). Rounded as #108 says.
use Rattle.std.specs.Prelude.{ℕ, ◌+◌, ◌*◌, cond, leb}
use Rattle.basis.specs.Fraction.{Fraction, ◌÷◌, smaller}
use Rattle.basis.specs.Load.{factored_load, rounded_load}
use Rattle.storey.specs.declared.StoreyWall.{StoreyWall}

-- Document 01: "1.35G + 1.5Q".
abbrev pub general_load : (G Q : ℕ) → Fraction
general_load G Q = factored_load 135 G 150 Q

-- Document 02, #103: "1.4(G + Q)".
abbrev pub simplified_load : (G Q : ℕ) → Fraction
simplified_load G Q = (140 * (G + Q)) ÷ 100

-- #103: "For q ≤ 3000 .. the smaller of that and 1.35G + 1.5Q ..; above 3000 the old formula holds."
unfoldable pub load_of : (G Q q : ℕ) → Fraction
load_of G Q q = cond (leb q 3000) (smaller (simplified_load G Q) (general_load G Q)) (general_load G Q)

unfoldable pub exact_load : StoreyWall → Fraction
exact_load w = load_of w.dead w.imposed w.floorload

-- #108: rounded "after the smaller is taken".
unfoldable pub load : StoreyWall → ℕ
load w = rounded_load (exact_load w)
