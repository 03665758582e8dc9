-- Document 01, "Results and refusals": the parts of a check, in the order in which they are asked, and the result of any such parts.
use Rattle.std.specs.Prelude.{ℕ, ◌<◌, Bool, true, not, ◌&&◌, List, [], ◌∷◌, ◌↔◌, ◌≡◌, ltb}
use Rattle.basis.specs.declared.CheckResult.{CheckResult}
use Rattle.basis.specs.Refusal.{first_or, first_of, NoneApplies}
use Rattle.basis.specs.Result.{refused_with, filled_with, Accepted, Below, SpareSigned}

pub record Parts : Type 0 where
  -- 2: "a number out of range", where this is false
  pub in_range : Bool
  -- the refusals that leave four zeros
  pub limits : List (ℕ × Bool)
  -- the refusals that fill all five numbers: they compare what is reported
  pub measures : List (ℕ × Bool)
  -- "E or for a cellar the need"; document 02, #106: "The second number of an accepted result is the need."
  pub second : ℕ
  -- N
  pub load : ℕ
  pub resistance : ℕ

-- Within the ranges and every limit: "Refusals 13, 18 and 19 fill all five", 21 of document 02 "as 19 does", and so does an accepted record.
abbrev pub reported : Parts → CheckResult
reported p = filled_with (first_of p.measures) p.second p.load p.resistance

-- The five numbers of every record: 2, then the limits, "every other refusal leaves four zeros"; then what is reported.
unfoldable pub result_of : Parts → CheckResult
result_of p = first_or refused_with ((2, not p.in_range) ∷ p.limits) (reported p)

-- ---- what is proved of any parts, in proofs/Check.antt

-- Every refusal of the parts has a number that passes a test.
abbrev pub every_number : (ℕ → Bool) → List (ℕ × Bool) → Bool
every_number test [] = true
every_number test (r ∷ rs) = test r.0 && every_number test rs

abbrev pub every_refusal : (ℕ → Bool) → Parts → Bool
every_refusal test p = every_number test ((2, not p.in_range) ∷ p.limits) && every_number test p.measures

-- Accepted exactly when no refusal applies, where no refusal has the number 0, which stands for accepted.
abbrev pub AcceptedExactly : Type 0
AcceptedExactly =
    (p : Parts) → every_refusal (λ n. ltb 0 n) p ≡ true →
    Accepted (result_of p) ↔ ((p.in_range ≡ true) × NoneApplies p.limits × NoneApplies p.measures)

-- Within the ranges and every limit, the numbers reported are the second, N and the resistance.
abbrev pub ReportedNumbers : Type 0
ReportedNumbers = (p : Parts) → p.in_range ≡ true → NoneApplies p.limits → result_of p ≡ reported p

-- "spare = resistance − N, signed", not negative exactly when the load is at most the resistance.
abbrev pub SpareIsSigned : Type 0
SpareIsSigned = (p : Parts) → SpareSigned (result_of p)

-- Every number of the result is below a bound that the refusals keep, and that the other numbers keep within the ranges and every limit.
abbrev pub ResultIsBounded : Type 0
ResultIsBounded =
    (p : Parts) (bound : ℕ) → 0 < bound → every_refusal (λ n. ltb n bound) p ≡ true →
    (p.in_range ≡ true → NoneApplies p.limits → (p.second < bound) × (p.load < bound) × (p.resistance < bound)) →
    Below bound (result_of p)
