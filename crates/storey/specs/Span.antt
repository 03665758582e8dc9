-- Document 02, #101, "Two-way floors": the span that stands for L, and what of it enters m.
use Rattle.std.specs.Prelude.{ℕ, ◌*◌, min, Bool, cond, ◌&&◌, leb, ltb}
use Rattle.basis.specs.Fraction.{Fraction, ◌÷◌, whole, times}

-- "With M above 0 the shorter of L and M stands for L in refusal 9 and in m."
unfoldable pub governing_span : (L M : ℕ) → ℕ
governing_span L M = cond (ltb 0 M) (min L M) L

-- The reduction: "If also M ≤ 2L and L ≤ 2M".
unfoldable pub span_reduced : (L M : ℕ) → Bool
span_reduced L M = ltb 0 M && leb M (2 * L) && leb L (2 * M)

-- ".. 0.85 times that shorter span, unrounded, enters m instead (source document 002, Gl. 5.8)."
unfoldable pub support_span : (L M : ℕ) → Fraction
support_span L M =
    cond (span_reduced L M) (times (85 ÷ 100) (whole (governing_span L M))) (whole (governing_span L M))
