-- Signed numbers: their text by their sign. The machine holds the bits of a number and reads it back from them, `to_z w64 (of_z w64 z)`;
-- `to_z-of_z` removes that.
use Prim.Native.Nat.{ℕ}
use native.Mathlib.Omega.{arith}
use mathlib.Core.Bool.{true, false}
use mathlib.Core.List.{◌∷◌}
use mathlib.Core.Path.{◌≡◌, refl}
use lib.IntN.{ℤ, pos, negsuc, nat_abs}
use lib.Signed.{lt_z}
use mir.Syntax.{w64}
use mir.Val.{SFits, to_z, of_z}
use mir.Facts.{to_z-of_z}
use borrow.Author.Tests.{ltb-true}
use Rattle.text.specs.Decimal.{decimal}
use Rattle.report.specs.Text.{signed}

-- ── by the sign ──
below_cases : (P : ℤ → Type 0) → ((n : ℕ) → P (negsuc n)) → (z : ℤ) → lt_z z (pos 0) ≡ true → P z
below_cases P all (pos n) h = let none : ⊥ = omega (arith, ltb-true n 0 h) in absurd none
below_cases P all (negsuc n) h = all n

above_cases : (P : ℤ → Type 0) → ((n : ℕ) → P (pos n)) → (z : ℤ) → lt_z z (pos 0) ≡ false → P z
above_cases P all (pos n) h = all n
above_cases P all (negsuc n) h = let none : ◌≡◌ {A = ℕ} 0 1 = cc in absurd (omega arith)

-- ── as the machine reads it ──
module _ {z : ℤ} (fits : SFits w64 z) where
  pub signed_negative : lt_z (to_z w64 (of_z w64 z)) (pos 0) ≡ true → signed z ≡ 45 ∷ decimal (nat_abs z)
  unfolding signed
  signed_negative below = below_cases (λ x. signed x ≡ 45 ∷ decimal (nat_abs x)) (λ n. refl) z (rw (to_z-of_z fits) at below)

  pub signed_nonnegative : lt_z (to_z w64 (of_z w64 z)) (pos 0) ≡ false → signed z ≡ decimal (nat_abs z)
  unfolding signed
  signed_nonnegative above = above_cases (λ x. signed x ≡ decimal (nat_abs x)) (λ n. refl) z (rw (to_z-of_z fits) at above)
