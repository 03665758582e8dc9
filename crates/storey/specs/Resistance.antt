-- Document 01, "Storey wall": "Resistance in N/m is the smaller of these two, not below 0, times 4/5 .., then rounded down once".
-- The buckling length enters as a fraction, so that the same definition serves E and the unrounded length.
use Rattle.std.specs.Prelude.{ℕ, ◌*◌, ◌≤◌, cond, ◌||◌, ltb, eqb}
use Rattle.basis.specs.Fraction.{Fraction, ◌÷◌, whole, ◌≈◌, times, minus, smaller, floor}
use Rattle.storey.specs.declared.StoreyWall.{StoreyWall}
use Rattle.storey.specs.Span.{support_span}
use Rattle.storey.specs.BucklingLength.{buckling_length}

-- At mid-height: "17F(850000at − 11E²)/(3000000t)"; minus stops at 0, "not below 0".
unfoldable pub at_mid_height : (t a F : ℕ) (E : Fraction) → Fraction
at_mid_height t a F E =
    times ((17 * F) ÷ (3000000 * t)) (minus (whole (850000 * a * t)) (times (whole 11) (times E E)))

-- "m is the smaller of 5400 and 9600 − L for support 2, 1998 for support 3, 5400 for support 4". The span is a fraction: document 02, #101, puts
-- "0.85 times that shorter span, unrounded" in the place of L.
unfoldable pub support_factor : (support : ℕ) (L : Fraction) → Fraction
support_factor support L =
    cond (eqb support 2) (smaller (whole 5400) (minus (whole 9600) L)) (cond (eqb support 3) (whole 1998) (whole 5400))

-- At the support: "17 × F × a × m/18000"
unfoldable pub at_support : (a F : ℕ) (m : Fraction) → Fraction
at_support a F m = times ((17 * F * a) ÷ 18000) m

-- "the smaller of these two": the second is for supports 2 to 4.
unfoldable pub unreduced : (support t a F : ℕ) (m E : Fraction) → Fraction
unreduced support t a F m E = cond (eqb support 1) (at_mid_height t a F E) (smaller (at_mid_height t a F E) (at_support a F m))

-- "times 4/5 if w × t < 100000 or bonded is 1 (once, even if both hold)": 4 or 5 fifths.
unfoldable pub reduction_fifths : StoreyWall → ℕ
reduction_fifths w = cond (ltb (w.length * w.thickness) 100000 || eqb w.bonded 1) 4 5

abbrev pub reduction : StoreyWall → Fraction
reduction w = reduction_fifths w ÷ 5

-- m of a record: the span of #101 enters it.
abbrev pub support_factor_of : StoreyWall → Fraction
support_factor_of w = support_factor w.support (support_span w.span w.otherspan)

unfoldable pub exact_resistance : StoreyWall → (E : Fraction) → Fraction
exact_resistance w E =
    times (reduction w) (unreduced w.support w.thickness w.bearing w.strength (support_factor_of w) E)

-- "then rounded down once"
unfoldable pub resistance : StoreyWall → ℕ
resistance w = floor (exact_resistance w (whole (buckling_length w)))

-- m in twentieths, since 0.85 of a span is 17 twentieths of it.
pub record SupportFactor (m : ℕ) (f : Fraction) : Type 0 where
  pub value : (m ÷ 20) ≈ f
  pub most : m ≤ 108000
