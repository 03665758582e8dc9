-- Ranges as document 01 writes them: "low..high", ends included. They are data, so that what a record in range has follows from its list by general laws.
use Rattle.std.specs.Prelude.{ℕ, ◌≤◌, ◌<◌, Bool, true, ◌&&◌, List, [], ◌∷◌, leb}

infix 70 ◌from◌to◌
pub record Range : Type 0 where
  pub number : ℕ
  pub low : ℕ
  pub high : ℕ

abbrev pub ◌from◌to◌ : (number low high : ℕ) → Range
n from low to high = record { number = n; low = low; high = high }

abbrev pub within : Range → Bool
within r = leb r.low r.number && leb r.number r.high

-- Every number is within its range.
unfoldable pub all_within : List Range → Bool
all_within [] = true
all_within (r ∷ rs) = within r && all_within rs

abbrev pub AllWithin : List Range → Type 0
AllWithin [] = Unit {0}
AllWithin (r ∷ rs) = (r.low ≤ r.number) × (r.number ≤ r.high) × AllWithin rs

-- Every number of a list is below a bound.
abbrev pub AllBelow : ℕ → List ℕ → Type 0
AllBelow bound [] = Unit {0}
AllBelow bound (n ∷ ns) = (n < bound) × AllBelow bound ns
