-- Proofs of the claims of specs/Check.antt, and the cases of a check, over any parts.
use Prim.Native.Nat.{ℕ}
use mathlib.Core.Bool.{Bool, true, false, not}
use mathlib.Core.List.{List, ◌∷◌}
use mathlib.Core.Path.{◌≡◌, ◌∙◌, ap}
use native.Mathlib.Omega.{arith}
use borrow.Author.Tests.{not-false, ltb-true, lt-ltb}
use lib.Dec.{ltb}
use Rattle.basis.specs.declared.CheckResult.{CheckResult}
use Rattle.basis.specs.Refusal.{first_or, first_of, NoneApplies}
use Rattle.basis.specs.Result.{refused_with, Below, SpareSigned}
use Rattle.basis.specs.Check.{Parts, reported, result_of, every_number, every_refusal, AcceptedExactly, ReportedNumbers, SpareIsSigned, ResultIsBounded}
use Rattle.basis.proofs.Choice.{and_left, and_right}
use Rattle.basis.proofs.FirstRefusal.{first_or_cases, first_or_none, first_or_some, none_first_of, every_any}
use Rattle.basis.proofs.Result.{filled_spare, refused_spare, filled_below, refused_below}

module _ (p : Parts) where
  -- 2 and the limits, which leave four zeros.
  abbrev front : List (ℕ × Bool)
  front = (2, not p.in_range) ∷ p.limits

  -- What holds of every refusal with four zeros, and of what is reported within the ranges and every limit, holds of the result.
  pub result_cases : (P : CheckResult → Type 0) (test : ℕ → Bool) → every_number test front ≡ true → ((n : ℕ) → test n ≡ true → P (refused_with n)) →
      (p.in_range ≡ true → NoneApplies p.limits → P (reported p)) → P (result_of p)
  unfolding result_of
  result_cases P test every refused within =
      first_or_cases refused_with P test front every refused (λ none. within (not-false p.in_range none.0) none.1)

  pub result_out_of_range : p.in_range ≡ false → result_of p ≡ refused_with 2
  unfolding result_of first_or
  result_out_of_range failed = rw failed

  pub result_limit : p.in_range ≡ true → (first_of p.limits ≡ 0 → ⊥) → result_of p ≡ refused_with (first_of p.limits)
  unfolding result_of first_or
  result_limit passed beyond = rw passed (first_or_some refused_with p.limits (reported p) beyond)

  -- A test that 0 and the number of every refusal pass holds of the number of the result.
  pub refusal_passes : (test : ℕ → Bool) → test 0 ≡ true → every_refusal test p ≡ true → test (result_of p).refusal ≡ true
  refusal_passes test accepted every =
      result_cases (λ r. test r.refusal ≡ true) test (and_left (every_number test front) (every_number test p.measures) every) (λ n is. is)
      (λ _ _. first_or_cases (λ n. n) (λ n. test n ≡ true) test p.measures (and_right (every_number test front) (every_number test p.measures) every)
      (λ n is. is) (λ _. accepted))

pub reported_numbers : ReportedNumbers
unfolding result_of
reported_numbers p passed none = first_or_none refused_with (front p) (ap not passed, none)

pub accepted_exactly : AcceptedExactly
accepted_exactly p positive =
    let test : ℕ → Bool = λ n. ltb 0 n in
    let first = and_left (every_number test (front p)) (every_number test p.measures) positive in
    let second = and_right (every_number test (front p)) (every_number test p.measures) positive in (
      result_cases p (λ r. r.refusal ≡ 0 → (p.in_range ≡ true) × NoneApplies p.limits × NoneApplies p.measures) test first
          (λ n above is. absurd (let no· : ⊥ = omega (arith, ltb-true 0 n above) in no·))
          (λ passed none accepted. (passed, none, none_first_of p.measures second accepted)),
      (λ all. ap (λ (r : CheckResult). r.refusal) (reported_numbers p all.0 all.1) ∙ first_or_none (λ n. n) p.measures all.2),
    )

pub spare_is_signed : SpareIsSigned
spare_is_signed p =
    result_cases p SpareSigned (λ _. true) (every_any (front p)) (λ n _. refused_spare n)
    (λ _ _. filled_spare (first_of p.measures) p.second p.load p.resistance)

pub result_is_bounded : ResultIsBounded
result_is_bounded p bound positive every within =
    let test : ℕ → Bool = λ n. ltb n bound in
    result_cases p (Below bound) test (and_left (every_number test (front p)) (every_number test p.measures) every)
    (λ n is. refused_below bound n (ltb-true n bound is))
    (λ passed none.
    let below = within passed none in
    filled_below bound (first_of p.measures) p.second p.load p.resistance
    (ltb-true (first_of p.measures) bound
    (first_or_cases (λ n. n) (λ n. ltb n bound ≡ true) test p.measures (and_right (every_number test (front p)) (every_number test p.measures) every)
    (λ n is. is) (λ _. lt-ltb 0 bound positive)))
    below.0 below.1 below.2)
