-- "A result, refused or not, is written .. as its five numbers, one space between, a minus sign where negative, then byte 10".
use Rattle.std.specs.Prelude.{ℕ, suc, ◌^◌, ◌≤◌, ◌<◌, List, [], ◌∷◌, ◌++◌, ℤ, pos, negsuc, nat_abs, length}
use Rattle.basis.specs.declared.CheckResult.{CheckResult}
use Rattle.text.specs.Decimal.{decimal}

-- `negsuc n` is -(n + 1). Byte 45 is the minus sign.
unfoldable pub signed : ℤ → List ℕ
signed (pos n) = decimal n
signed (negsuc n) = 45 ∷ decimal (suc n)

-- Byte 32 is the space.
unfoldable pub result_text : CheckResult → List ℕ
result_text r =
    decimal r.refusal ++ 32 ∷ decimal r.second ++ 32 ∷ decimal r.load ++ 32 ∷ decimal r.resistance ++ 32 ∷ signed r.spare ++ 10 ∷ []

-- Three numbers, those of a choice (document 02, #110), in the same way.
unfoldable pub numbers_text : (first second third : ℕ) → List ℕ
numbers_text first second third = decimal first ++ 32 ∷ decimal second ++ 32 ∷ decimal third ++ 10 ∷ []

-- 64 bytes are enough for any three numbers of 64 bits: with the spaces and byte 10 these are at most 63.
abbrev pub NumbersFit : Type 0
NumbersFit =
    (first second third : ℕ) → first < 2 ^ 64 → second < 2 ^ 64 → third < 2 ^ 64 → length (numbers_text first second third) ≤ 64

-- A buffer of 64 bytes is enough for five numbers of at most 11 digits each: with the sign, the spaces and byte 10 these are at most 61.
abbrev pub TextFits : Type 0
TextFits =
    (r : CheckResult)
    → r.refusal < 10 ^ 11 → r.second < 10 ^ 11 → r.load < 10 ^ 11 → r.resistance < 10 ^ 11 → nat_abs r.spare < 10 ^ 11
    → length (result_text r) ≤ 64
