-- The number of a bit pattern, by its sign, exponent and digits, as the code takes it apart.
-- The smallest f64 is 2 ^ -1074, so a pattern stands for a count of these units, and is the whole number n exactly if the count is n * 2 ^ 1074.
-- Below 1 the count is too small for that. Above, the digits with the leading one are counted by 2 ^ (e - 1) units, e the exponent, so from e = 1023 to 1075
-- it is n exactly if the digits are n * 2 ^ (1075 - e); from 1076 on n is at least 2 ^ 53. The exponent 2047 is that of the infinities and NaNs. Assumes nothing.
use Rattle.std.proofs.Common.{◌≡◌, ℕ, zero, suc, ◌+◌, ◌-◌, ◌*◌, ◌/◌, ◌%◌, ◌^◌, ◌<◌, ◌≤◌, Bool, true, false, cond, eqb, leb, ◌↔◌, sym, refl, ap, ◌∙◌, subst, le_trans, le_of_eq, lt_of_lt_of_le, lt_of_not-le, le-add_right, mul-le-mul_right, mod-lt, mul_assoc, div-le_self, not-le_of_lt, le_of_mul-le-mul_right, arith, lit<, lit≤, pow_pos, pow_mono, pow-add, shl_lt, ne_eqb, le-leb}
use Rattle.std.proofs.lemmas.Bool.{eqb-true, eqb-false}
use Rattle.std.specs.Bool.{then_some}
use Rattle.std.specs.Option.{unwrap_or}
use native.Mathlib.Nat.{eq_of_mul-eq-mul_right}
use lib.Count.{count_trailing_zeros}
use lib.Ieee.{nan, inf, binary64, odd, of_fields, of_bits}
use lib.Ieee.Exact.{odd_sign}
use borrow.Author.Tests.{lt-leb}
use Rattle.worksheet.specs.Cell.{IsWhole, cell_bound, no_number, cell_number}
use Rattle.worksheet.proofs.Number.{Whole, unsigned, value_whole, cell_is_its_value, other_cells_are_none}
use Rattle.worksheet.proofs.Zeros.{zeros_multiple, no_multiple, few_zeros}

-- ---- the units of an exponent and the digits t; an exponent of 0 has no leading digit, and counts as 1

abbrev units : ℕ → ℕ → ℕ
units zero t = t * 2 ^ 0
units (suc j) t = (2 ^ 52 + t) * 2 ^ j

odd_whole : (s : Bool) (q k n : ℕ) → IsWhole (odd 53 s q k 1074) n ↔ Whole s (q * 2 ^ k) (2 ^ 1074) n
odd_whole s q k n = value_whole (odd 53 s q k 1074) s (q * 2 ^ k) (2 ^ 1074) n (pow_pos 1074) (odd_sign 53 s q k 1074)

units_sound : (s : Bool) (e t n : ℕ) → IsWhole (of_fields binary64 s e t) n → Whole s (units e t) (2 ^ 1074) n
unfolding of_fields
units_sound s zero t n w = (odd_whole s t 0 n).0 w
units_sound s (suc j) t n w = go (eqb (suc j) 2047) (eqb t 0) w
  where
    go : (top none : Bool) → IsWhole (cond top (cond none (inf s) nan) (odd 53 s (2 ^ 52 + t) j 1074)) n → Whole s (units (suc j) t) (2 ^ 1074) n
    go true true w = absurd w
    go true false w = absurd w
    go false none w = (odd_whole s (2 ^ 52 + t) j n).0 w

units_complete : (s : Bool) (e t n : ℕ) → e < 2047 → Whole s (units e t) (2 ^ 1074) n → IsWhole (of_fields binary64 s e t) n
unfolding of_fields
units_complete s zero t n low w = (odd_whole s t 0 n).1 w
units_complete s (suc j) t n low w =
    let below : suc j ≡ 2047 → ⊥ = λ h. omega arith in
    subst (λ (top : Bool). IsWhole (cond top (cond (eqb t 0) (inf s) nan) (odd 53 s (2 ^ 52 + t) j 1074)) n) (sym (ne_eqb (suc j) 2047 below))
    ((odd_whole s (2 ^ 52 + t) j n).1 w)

units_zero : (e t : ℕ) → units e t ≡ 0 → (e ≡ 0) × (t ≡ 0)
units_zero zero t h = omega arith
units_zero (suc j) t h = absurd (omega (arith, pow_pos j, mul-le-mul_right (2 ^ j) (le-add_right (2 ^ 52) t)))

with_leading : (t : ℕ) → t < 2 ^ 52 → 2 ^ 52 + t < 2 ^ 53
with_leading t h = omega arith

units_below : (e t : ℕ) → t < 2 ^ 52 → e ≤ 1022 → units e t < 2 ^ 1074
units_below zero t h k = let low : 52 + 0 ≤ 1074 = lit≤ tt in lt_of_lt_of_le (shl_lt 52 0 h) (pow_mono low)
units_below (suc j) t h k = let low : 53 + j ≤ 1074 = omega arith in lt_of_lt_of_le (shl_lt 53 j (with_leading t h)) (pow_mono low)

units_above : (e t : ℕ) → 1076 ≤ e → cell_bound * 2 ^ 1074 ≤ units e t
units_above zero t k = absurd (omega arith)
units_above (suc j) t k =
    let high : 1127 ≤ 52 + j = omega arith in
    le_trans (pow_mono high) (le_trans (le_of_eq (pow-add 2 52 j)) (mul-le-mul_right (2 ^ j) (le-add_right (2 ^ 52) t)))

-- ---- which whole number above 0 an exponent e and the digits t are

between : (e t n : ℕ) → 1022 < e → e < 1076 → (units e t ≡ n * 2 ^ 1074) ↔ (2 ^ 52 + t ≡ n * 2 ^ (1075 - e))
between zero t n low high = absurd (omega arith)
between (suc j) t n low high =
    let one = 2 ^ (1075 - suc j) in
    let rest : 1075 - suc j + j ≡ 1074 = omega arith in
    let same : n * one * 2 ^ j ≡ n * 2 ^ 1074 =
    mul_assoc n one (2 ^ j) ∙ ap (λ (k : ℕ). n * k) (sym (pow-add 2 (1075 - suc j) j) ∙ ap (λ (k : ℕ). 2 ^ k) rest) in (
      λ h. eq_of_mul-eq-mul_right (2 ^ j) (pow_pos j) (2 ^ 52 + t) (n * one) (h ∙ sym same),
      λ h. ap (λ (k : ℕ). k * 2 ^ j) h ∙ same,
    )

module _ (e t n : ℕ) (positive : 0 < n) (whole : units e t ≡ n * 2 ^ 1074) where
  at_least_one : t < 2 ^ 52 → 1022 < e
  at_least_one digits =
      lt_of_not-le (λ h. not-le_of_lt (units_below e t digits h) (le_trans (mul-le-mul_right (2 ^ 1074) positive) (le_of_eq (sym whole))))

  below_bound : n < cell_bound → e < 1076
  below_bound small = lt_of_not-le (λ h. not-le_of_lt small (le_of_mul-le-mul_right (le_trans (units_above e t h) (le_of_eq whole)) (pow_pos 1074)))

-- ---- the number of the pattern b

abbrev size : ℕ → ℕ
size b = b % 2 ^ 63

abbrev exponent : ℕ → ℕ
exponent b = size b / 2 ^ 52

abbrev digits : ℕ → ℕ
digits b = b % 2 ^ 52

abbrev significand : ℕ → ℕ
significand b = 2 ^ 52 + digits b

size_zero : (b : ℕ) → (exponent b ≡ 0) × (digits b ≡ 0) → size b ≡ 0
size_zero b h = omega arith

-- How many of the significand's digits stand behind the point: the exponent field of what is left of the bits of 2 ^ 53 - 1 without b, wrapped where b is the
-- larger.
abbrev places : ℕ → ℕ
places b = (1076 * 2 ^ 52 - 1 + (2 ^ 64 - b)) % 2 ^ 64 / 2 ^ 52

module _ (b : ℕ) (bits_fit : b < 2 ^ 64) where
  abbrev Reads : ℕ → Type 0
  Reads n = IsWhole (of_fields binary64 (leb (2 ^ 63) b) (exponent b) (digits b)) n

  none_read : ((n : ℕ) → n < cell_bound → Reads n → ⊥) → no_number ≡ cell_number (of_bits binary64 b)
  unfolding of_bits
  none_read none = sym (other_cells_are_none (of_bits binary64 b) none)

  whole_read : (n : ℕ) → n < cell_bound → Reads n → n ≡ cell_number (of_bits binary64 b)
  unfolding of_bits
  whole_read n small w = sym ((cell_is_its_value (of_bits binary64 b) n small).1 w)

  abbrev zeros : ℕ
  zeros = count_trailing_zeros 64 (significand b)

  some : 0 < significand b
  some = omega arith

  fits : significand b < 2 ^ 64
  fits = omega arith

  pub number_whole : places b ≤ zeros → significand b / 2 ^ places b ≡ cell_number (of_bits binary64 b)
  number_whole whole =
      let n = significand b / 2 ^ places b in
      let few = few_zeros (significand b) some fits 53 (omega arith) in
      let small : n < cell_bound = omega (arith, div-le_self (significand b) (2 ^ places b)) in
      let same : places b ≡ 1075 - exponent b = omega (arith, few) in
      let exact : significand b ≡ n * 2 ^ (1075 - exponent b) = zeros_multiple (significand b) some fits (places b) whole ∙ ap (λ (k : ℕ). n * 2 ^ k) same in
      let units_exact = (between (exponent b) (digits b) n (omega (arith, few)) (omega (arith, few))).1 exact in
      whole_read n small (rw (lt-leb (2 ^ 63) b (omega (arith, few))) (units_complete false (exponent b) (digits b) n (omega arith) (units_exact, unsigned)))

  number_zero : size b ≡ 0 → 0 ≡ cell_number (of_bits binary64 b)
  number_zero h =
      let fields : (exponent b ≡ 0) × (digits b ≡ 0) = omega arith in
      whole_read 0 (lit< tt) (rw (fields.0, fields.1) (units_complete (leb (2 ^ 63) b) 0 0 0 (lit< tt) (refl, λ t. refl)))

  number_none : zeros < places b → (size b ≡ 0 → ⊥) → no_number ≡ cell_number (of_bits binary64 b)
  number_none fewer not_zero =
      none_read
      (λ n small w.
      let whole = units_sound (leb (2 ^ 63) b) (exponent b) (digits b) n w in
      let not_none : n ≡ 0 → ⊥ = λ h. not_zero (size_zero b (units_zero (exponent b) (digits b) (whole.0 ∙ ap (λ (k : ℕ). k * 2 ^ 1074) h))) in
      let positive : 0 < n = omega arith in
      let without_sign : b < 2 ^ 63 = lt_of_not-le (λ signed. not_none (whole.1 (le-leb (2 ^ 63) b signed))) in
      let low = at_least_one (exponent b) (digits b) n positive whole.0 (mod-lt b (pow_pos 52)) in
      let high = below_bound (exponent b) (digits b) n positive whole.0 small in
      let same : 1075 - exponent b ≡ places b = omega arith in
      let exact : significand b ≡ n * 2 ^ places b = (between (exponent b) (digits b) n low high).0 whole.0 ∙ ap (λ (k : ℕ). n * 2 ^ k) same in
      no_multiple (significand b) some fits (places b) n fewer (omega (arith, exact)))

  pub number_other : zeros < places b → unwrap_or (then_some (eqb (size b) 0) 0) no_number ≡ cell_number (of_bits binary64 b)
  number_other fewer = by_size (eqb (size b) 0) refl
    where
      by_size : (zero : Bool) → eqb (size b) 0 ≡ zero → unwrap_or (then_some zero 0) no_number ≡ cell_number (of_bits binary64 b)
      by_size true e = number_zero (eqb-true (size b) 0 e)
      by_size false e = number_none fewer (eqb-false (size b) 0 e)
