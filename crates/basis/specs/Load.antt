-- What the loads of both kinds of wall have in common: factors in hundredths, and one rounding.
use Rattle.std.specs.Prelude.{ℕ, ◌+◌, ◌*◌}
use Rattle.basis.specs.Fraction.{Fraction, ◌÷◌, ◌≺◌, whole, minus, nearest, NearestTo}

-- A dead load G and an imposed load Q with their load factors in hundredths: 135 and 150 stand for "1.35G + 1.5Q".
abbrev pub factored_load : (γG G γQ Q : ℕ) → Fraction
factored_load γG G γQ Q = (γG * G + γQ * Q) ÷ 100

-- Document 02, #108: "N is rounded to the nearest newton per metre, an exact half upwards", "both kinds of wall and .. both load formulas".
unfoldable pub rounded_load : Fraction → ℕ
rounded_load exact = nearest exact

-- What that promises of N.
abbrev pub LoadRounded : (N : ℕ) (exact : Fraction) → Type 0
LoadRounded N exact = NearestTo N exact

-- #108: the exact load "exceeds the reported resistance, if at all, by less than half a newton per metre". `minus` stops at 0: "if at all".
abbrev pub ExceedsByLessThanHalf : (exact : Fraction) (resistance : ℕ) → Type 0
ExceedsByLessThanHalf exact resistance = minus exact (whole resistance) ≺ (1 ÷ 2)
