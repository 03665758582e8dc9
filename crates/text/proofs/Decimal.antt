-- Laws of `decimal`. That it has steps enough is used twice, in `decimal_more` and `by_digits`; all else goes by those two.
use Prim.Native.Nat.{ℕ, zero, suc, ◌+◌, ◌/◌, ◌%◌, ◌^◌, ◌≤◌, ◌<◌}
use native.Mathlib.Decide.{dec_lt}
use native.Mathlib.Nat.{pow-suc}
use native.Mathlib.Numerals.{add-one}
use native.Mathlib.Omega.{arith}
use mathlib.Core.List.{[], ◌∷◌, ◌++◌}
use mathlib.Core.Path.{◌≡◌, sym, ap, ◌∙◌}
use lib.ListN.{length, length-append}
use borrow.Author.Tests.{lt-ltb, le-ltb}
use Rattle.std.specs.Fmt.{decimal as printed}
use Rattle.std.proofs.lemmas.Fmt.{decimal_by_steps}
use Rattle.text.specs.Decimal.{decimal, decimal_within}

decimal_within_digit : (k n : ℕ) → n < 10 → decimal_within (suc k) n ≡ (48 + n) ∷ []
unfolding decimal_within
decimal_within_digit k n h = rw (lt-ltb n 10 h)

decimal_within_more : (k n : ℕ) → 10 ≤ n → decimal_within (suc k) n ≡ decimal_within k (n / 10) ++ (48 + n % 10) ∷ []
unfolding decimal_within
decimal_within_more k n h = rw (le-ltb n 10 h)

decimal_within_enough : (k m n : ℕ) → n < k → n < m → decimal_within k n ≡ decimal_within m n
decimal_within_enough zero m n h g = let z : ⊥ = omega arith in absurd z
decimal_within_enough (suc k) zero n h g = let z : ⊥ = omega arith in absurd z
decimal_within_enough (suc k) (suc m) n h g =
    elim (dec_lt n 10) [
      | yes one ↦ decimal_within_digit k n one ∙ sym (decimal_within_digit m n one)
      | no more ↦ rw (decimal_within_more k n (omega arith), decimal_within_more m n (omega arith), decimal_within_enough k m (n / 10) (omega arith) (omega arith))
    ]

pub decimal_digit : (n : ℕ) → n < 10 → decimal n ≡ (48 + n) ∷ []
unfolding decimal
decimal_digit n = decimal_within_digit n n

pub decimal_more : (n : ℕ) → 10 ≤ n → decimal n ≡ decimal (n / 10) ++ (48 + n % 10) ∷ []
unfolding decimal
decimal_more n h = decimal_within_more n n h ∙ ap (λ l. l ++ (48 + n % 10) ∷ []) (decimal_within_enough n (suc (n / 10)) (n / 10) (omega arith) (omega arith))

-- What holds of one digit, and of a number where it holds of its tenth part, holds of every number.
pub by_digits : (P : ℕ → Type 0) → ((n : ℕ) → n < 10 → P n) → ((n : ℕ) → 10 ≤ n → P (n / 10) → P n) → (n : ℕ) → P n
by_digits P one more n = go (suc n) n (omega arith)
  where
    go : (k n : ℕ) → n < k → P n
    go zero n h = let z : ⊥ = omega arith in absurd z
    go (suc k) n h =
        elim (dec_lt n 10) [
          | yes few ↦ one n few
          | no many ↦ more n (omega arith) (go k (n / 10) (omega arith))
        ]

-- ── how many digits ──
pub decimal_length_digit : (n : ℕ) → n < 10 → length (decimal n) ≡ 1
decimal_length_digit n h = ap length (decimal_digit n h)

pub decimal_length_more : (n : ℕ) → 10 ≤ n → length (decimal n) ≡ length (decimal (n / 10)) + 1
decimal_length_more n h = ap length (decimal_more n h) ∙ length-append (decimal (n / 10)) ((48 + n % 10) ∷ [])

pub decimal_length_bound : (k n : ℕ) → n < 10 ^ suc k → length (decimal n) ≤ suc k
decimal_length_bound zero n h = omega (arith, decimal_length_digit n h)
decimal_length_bound (suc k) n h =
    let below : n / 10 < 10 ^ suc k = omega (arith, pow-suc 10 (suc k)) in
    let rest = decimal_length_bound k (n / 10) below in
    elim (dec_lt n 10) [
      | yes one ↦ omega (arith, decimal_length_digit n one)
      | no more ↦ omega (arith, decimal_length_more n (omega arith))
    ]

pub decimal_length_u64 : (n : ℕ) → n < 2 ^ 64 → length (decimal n) ≤ 20
decimal_length_u64 n h = decimal_length_bound 19 n (omega arith)

-- A number of so many digits is below that power of ten.
pub decimal_below : (n : ℕ) → n < 10 ^ length (decimal n)
decimal_below =
    by_digits (λ n. n < 10 ^ length (decimal n))
    (λ n one. rw (decimal_length_digit n one) (omega arith))
    (λ n more tenth. rw (decimal_length_more n more, add-one) (omega (arith, tenth, pow-suc 10 (length (decimal (n / 10))))))

-- ── as the library prints it ──
pub decimal_printed : (n : ℕ) → n < 2 ^ 64 → printed n ≡ decimal n
decimal_printed = decimal_by_steps (λ n text. text ≡ decimal n) (λ n one. sym (decimal_digit n one)) (λ n tenth more e. rw (e, decimal_more n more))
