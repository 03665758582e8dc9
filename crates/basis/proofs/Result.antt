-- Laws of the result: the signed spare, and bounds.
use Prim.Native.Nat.{ℕ, zero, suc, ◌-◌, ◌≤◌, ◌<◌, zero-le}
use mathlib.Core.Logic.{◌↔◌}
use mathlib.Core.Path.{◌≡◌, refl, ap, subst, sym}
use native.Mathlib.Omega.{arith}
use native.Mathlib.Decide.{dec_le}
use native.Mathlib.Nat.{lt_of_not-le}
use borrow.Author.Tests.{lt-ltb, le-ltb}
use lib.Dec.{le→leb}
use lib.IntN.{ℤ, pos, negsuc, ◌-ℤ◌, nat_abs}
use lib.Signed.{◌≤ℤ◌}
use Rattle.basis.specs.Result.{refused_with, filled_with, Below, SpareSigned}

pub difference_covered : (R N : ℕ) → N ≤ R → pos R -ℤ pos N ≡ pos (R - N)
difference_covered R zero covered = ap pos (omega arith)
difference_covered R (suc n) covered = rw (le-ltb R (suc n) covered)

pub difference_short : (R N : ℕ) → R < N → pos R -ℤ pos N ≡ negsuc (N - suc R)
difference_short R zero short = absurd (let no· : ⊥ = omega arith in no·)
difference_short R (suc n) short = rw (lt-ltb R (suc n) short)

-- What holds of the difference in both cases holds of it.
pub difference_cases : (P : ℤ → Type 0) (R N : ℕ) → (N ≤ R → P (pos (R - N))) → (R < N → P (negsuc (N - suc R))) → P (pos R -ℤ pos N)
difference_cases P R N covered short = go (dec_le N R)
  where
    go : Dec (N ≤ R) → P (pos R -ℤ pos N)
    go (yes below) = subst P (sym (difference_covered R N below)) (covered below)
    go (no above) = subst P (sym (difference_short R N (lt_of_not-le above))) (short (lt_of_not-le above))

pub difference_below : (bound R N : ℕ) → R < bound → N < bound → nat_abs (pos R -ℤ pos N) < bound
difference_below bound R N left right =
    difference_cases (λ z. nat_abs z < bound) R N (λ covered. omega arith) (λ short. omega arith)

difference_sign : (R N : ℕ) → (pos 0 ≤ℤ (pos R -ℤ pos N)) ↔ (N ≤ R)
difference_sign R N =
    difference_cases (λ z. (pos 0 ≤ℤ z) ↔ (N ≤ R)) R N
    (λ covered. ((λ _. covered), (λ _. record { le = le→leb 0 (R - N) zero-le })))
    (λ short. ((λ not_negative. absurd not_negative.le), (λ covered. absurd (let no· : ⊥ = omega arith in no·))))

-- Each result that is filled, or refused with four zeros, has its spare as the signed difference.
pub filled_spare : (n second N R : ℕ) → SpareSigned (filled_with n second N R)
filled_spare n second N R = record { difference = refl; sign = difference_sign R N }

pub refused_spare : (n : ℕ) → SpareSigned (refused_with n)
refused_spare n = record { difference = refl; sign = difference_sign 0 0 }

pub filled_below : (bound n second N R : ℕ) → n < bound → second < bound → N < bound → R < bound → Below bound (filled_with n second N R)
filled_below bound n second N R hn hs hN hR =
    record { refusal_below = hn; second_below = hs; load_below = hN; resistance_below = hR; spare_below = difference_below bound R N hR hN }

pub refused_below : (bound n : ℕ) → n < bound → Below bound (refused_with n)
refused_below bound n hn =
    record { refusal_below = hn; second_below = omega arith; load_below = omega arith; resistance_below = omega arith; spare_below = omega arith }
