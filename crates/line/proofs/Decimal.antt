-- Laws of the digits of a number as they are read: one digit more, and their value.
use Prim.Native.Nat.{ℕ, ◌+◌, ◌*◌, ◌/◌, ◌%◌, ◌^◌, ◌≤◌, ◌<◌}
use mathlib.Core.Path.{◌≡◌, ◌∙◌}
use mathlib.Core.List.{[], ◌∷◌, ◌++◌}
use native.Mathlib.Omega.{arith}
use native.Mathlib.Nat.{pow-succ', pow-le-pow_right}
use native.Mathlib.Numerals.{add-one}
use Rattle.text.specs.Decimal.{decimal}
use Rattle.text.proofs.Decimal.{decimal_more}

-- A digit behind a number that is not 0 is the last digit of ten times the number and the digit.
pub decimal_snoc : (n x : ℕ) → 0 < n → x < 10 → decimal (10 * n + x) ≡ decimal n ++ (48 + x) ∷ []
decimal_snoc n x positive digit =
    let tenth : (10 * n + x) / 10 ≡ n = omega arith in
    let last : (10 * n + x) % 10 ≡ x = omega arith in
    decimal_more (10 * n + x) (omega arith) ∙ rw (tenth, last)

-- The value of d digits is below 10^d, and below 10^9 where d is at most 9.
pub value_grows : (d v x : ℕ) → v < 10 ^ d → x < 10 → 10 * v + x < 10 ^ (d + 1)
value_grows d v x small digit = rw add-one (omega (arith, pow-succ' 10 d))

pub value_nine : (d v : ℕ) → d ≤ 9 → v < 10 ^ d → v < 10 ^ 9
value_nine d v few small = omega (arith, pow-le-pow_right {n = 10} (omega arith) few)
