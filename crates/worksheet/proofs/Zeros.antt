-- Where a number of 64 bits ends in p zeros it is a multiple of 2 ^ p, and in fewer it is none. Assumes nothing.
use Rattle.std.proofs.Common.{◌≡◌, ℕ, ◌+◌, ◌*◌, ◌/◌, ◌%◌, ◌^◌, ◌<◌, ◌≤◌, sym, ap, ◌∙◌, div-add-mod', mod-lt, lt_of_not-le, pow_pos, arith}
use Rattle.std.specs.Int.{w64, bit_at}
use Rattle.std.specs.Int.Count.{count_trailing_zeros}
use Rattle.std.proofs.lemmas.Nat.Bits.{bit_at-trailing_zeros, bit_at_cat_low, bit_at_above, bit_at-zero, same_from_bits_below}

module _ (n : ℕ) (some : 0 < n) (fits : n < 2 ^ 64) where
  abbrev zeros : ℕ
  zeros = count_trailing_zeros 64 n

  pub zeros_multiple : (p : ℕ) → p ≤ zeros → n ≡ n / 2 ^ p * 2 ^ p
  zeros_multiple p h =
      let apart = div-add-mod' n (2 ^ p) in
      let low_bit : (i : ℕ) → i < p → bit_at (n % 2 ^ p) i ≡ bit_at 0 i =
      λ i l. sym (bit_at_cat_low (n / 2 ^ p) p (n % 2 ^ p) i l)
      ∙ ap (λ (k : ℕ). bit_at k i) apart
      ∙ (bit_at-trailing_zeros w64 n some fits).2 i (omega arith)
      ∙ sym (bit_at-zero i) in
      omega (arith, apart, same_from_bits_below p (n % 2 ^ p) 0 (mod-lt n (pow_pos p)) (pow_pos p) low_bit)

  pub no_multiple : (p q : ℕ) → zeros < p → n ≡ q * 2 ^ p + 0 → ⊥
  no_multiple p q h e =
      let set = (bit_at-trailing_zeros w64 n some fits).1 in
      omega (arith, set, ap (λ (k : ℕ). bit_at k zeros) e, bit_at_cat_low q p 0 zeros h, bit_at-zero zeros)

  pub few_zeros : (k : ℕ) → n < 2 ^ k → zeros < k
  few_zeros k small = lt_of_not-le (λ h. omega (arith, (bit_at-trailing_zeros w64 n some fits).1, bit_at_above n k zeros small h))
