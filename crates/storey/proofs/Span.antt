-- Laws of the spans: how they follow L where M is equal.
use Prim.Native.Nat.{ℕ, ◌≤◌, ◌<◌}
use mathlib.Core.Bool.{true, false, ◌&&◌}
use mathlib.Core.Logic.{⊎_elim}
use mathlib.Core.Path.{◌≡◌, refl}
use native.Mathlib.Omega.{arith}
use native.Mathlib.Nat.{mul-le-mul_right}
use borrow.Author.Tests.{ltb-true, ltb-false}
use lib.Dec.{ltb}
use Rattle.basis.specs.Fraction.{Fraction, ◌÷◌, whole, ◌≼◌, times}
use Rattle.basis.proofs.Choice.{cond_cases, cond_same, and_left, and_right, and_none}
use Rattle.basis.proofs.Fraction.{≼_refl, times_mono, times_den}
use Rattle.storey.specs.Span.{governing_span, span_reduced, support_span}
use Rattle.storey.specs.Comparison.{ComparableSpans}

module _ (L M : ℕ) where
  pub governing_other : (ltb 0 M && ltb M L) ≡ true → M ≡ governing_span L M
  unfolding governing_span
  governing_other both =
      rw (and_left (ltb 0 M) (ltb M L) both) (omega (arith, ltb-true M L (and_right (ltb 0 M) (ltb M L) both)))

  pub governing_span_lem : (ltb 0 M && ltb M L) ≡ false → L ≡ governing_span L M
  unfolding governing_span
  governing_span_lem neither =
      cond_cases (λ (s : ℕ). L ≡ s) (ltb 0 M)
      (λ two_way. omega (arith, ltb-false M L (and_none (ltb 0 M) (ltb M L) neither two_way)))
      (λ _. refl)

  pub governing_most : governing_span L M ≤ L
  unfolding governing_span
  governing_most = cond_cases (λ (s : ℕ). s ≤ L) (ltb 0 M) (λ _. omega arith) (λ _. omega arith)

-- The span that enters m.

module _ (L M : ℕ) where
  pub span_reduced_lem : span_reduced L M ≡ true → support_span L M ≡ times (85 ÷ 100) (whole (governing_span L M))
  unfolding support_span
  span_reduced_lem is = rw is refl

  -- Without another span it is L.
  pub span_one_way : M ≡ 0 → support_span L M ≡ whole L
  unfolding support_span span_reduced governing_span
  span_one_way none = rw none refl

  pub support_span_den : 0 < (support_span L M).den
  unfolding support_span
  support_span_den =
      cond_cases (λ (f : Fraction). 0 < f.den) (span_reduced L M)
      (λ _. times_den (85 ÷ 100) (whole (governing_span L M)) (omega arith) (omega arith))
      (λ _. omega arith)

-- A shorter L never has a longer governing span, and no longer span in m where the two records may be compared.

module _ (L' L M : ℕ) (shorter : L' ≤ L) where
  pub governing_falls : governing_span L' M ≤ governing_span L M
  unfolding governing_span
  governing_falls = cond_same (λ (s' s : ℕ). s' ≤ s) (ltb 0 M) (λ _. omega arith) (λ _. omega arith)

  pub support_span_falls : ComparableSpans L L' M → support_span L' M ≼ support_span L M
  support_span_falls =
      ⊎_elim
      (λ same. rw same (≼_refl (support_span L' M)))
      (⊎_elim
      (λ none. rw (span_one_way L M (omega (arith, none)), span_one_way L' M (omega (arith, none))) (mul-le-mul_right 1 shorter))
      (λ both. rw (span_reduced_lem L M both.0, span_reduced_lem L' M both.1)
      (times_mono (85 ÷ 100) (whole (governing_span L' M)) (85 ÷ 100) (whole (governing_span L M)) (≼_refl (85 ÷ 100))
      (mul-le-mul_right 1 governing_falls))))
