-- Laws of a result's text.
use Prim.Native.Nat.{ℕ, suc, ◌+◌, ◌^◌, ◌≤◌, ◌<◌}
use native.Mathlib.Omega.{arith}
use mathlib.Core.List.{List, [], ◌∷◌, ◌++◌, append_assoc}
use mathlib.Core.Path.{◌≡◌}
use lib.IntN.{ℤ, pos, negsuc, nat_abs}
use lib.ListN.{length, length-append}
use Rattle.basis.specs.declared.CheckResult.{CheckResult}
use Rattle.text.specs.Decimal.{decimal}
use Rattle.report.specs.Text.{signed, result_text, numbers_text, TextFits, NumbersFit}
use Rattle.text.proofs.Decimal.{decimal_length_bound, decimal_length_u64}

-- ── its length ──
pub text_length :
    (r : CheckResult)
    → length (result_text r)
    ≡ length (decimal r.refusal) + length (decimal r.second) + length (decimal r.load) + length (decimal r.resistance) + length (signed r.spare) + 5
unfolding result_text
text_length r = simp length-append (omega arith)

signed_length : (k : ℕ) (z : ℤ) → nat_abs z < 10 ^ suc k → length (signed z) ≤ suc k + 1
unfolding signed
signed_length k (pos n) h = omega (arith, decimal_length_bound k n h)
signed_length k (negsuc n) h = omega (arith, decimal_length_bound k (suc n) h)

pub text_fits : TextFits
text_fits r refusal second load resistance spare =
    omega (
      arith,
      text_length r,
      decimal_length_bound 10 r.refusal refusal,
      decimal_length_bound 10 r.second second,
      decimal_length_bound 10 r.load load,
      decimal_length_bound 10 r.resistance resistance,
      signed_length 10 r.spare spare,
    )

pub numbers_fit : NumbersFit
unfolding numbers_text
numbers_fit first second third a b c =
    simp length-append (omega (arith, decimal_length_u64 first a, decimal_length_u64 second b, decimal_length_u64 third c))

-- ── its numbers, one behind the other ──
pub append_cons : (a : List ℕ) (byte : ℕ) (b rest : List ℕ) → a ++ byte ∷ b ++ rest ≡ a ++ byte ∷ (b ++ rest)
append_cons a byte b rest = append_assoc a (byte ∷ b) rest

pub numbers_in_order : (first second third : ℕ) → numbers_text first second third ≡ decimal first ++ 32 ∷ (decimal second ++ 32 ∷ (decimal third ++ 10 ∷ []))
unfolding numbers_text
numbers_in_order first second third = simp append_cons

abbrev pub in_order : CheckResult → List ℕ
in_order r =
    decimal r.refusal ++ 32 ∷ (decimal r.second ++ 32 ∷ (decimal r.load ++ 32 ∷ (decimal r.resistance ++ 32 ∷ (signed r.spare ++ 10 ∷ []))))

pub text_in_order : (r : CheckResult) → result_text r ≡ in_order r
unfolding result_text
text_in_order r = simp append_cons
