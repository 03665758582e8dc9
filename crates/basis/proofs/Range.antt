-- Laws of ranges: what a passed test says.
use Prim.Native.Nat.{ℕ, ◌≤◌}
use mathlib.Core.Bool.{Bool, true, false, ◌&&◌, and-true, and_assoc}
use mathlib.Core.List.{List, [], ◌∷◌, map}
use mathlib.Core.Path.{◌≡◌, ◌∙◌, refl, sym}
use native.Mathlib.Nat.{le_trans}
use native.Mathlib.Omega.{arith}
use borrow.Author.Tests.{leb-true, le-leb}
use lib.Dec.{leb}
use Rattle.std.proofs.lemmas.Bool.Decides.{nat_tests}
use Rattle.std.specs.declared.ops.RangeInclusive.{RangeInclusive}
use Rattle.std.specs.Range.{range_inclusive_start, range_inclusive_end, range_inclusive_exhausted, range_inclusive_contains}
use Rattle.std.specs.Ordering.{nat_cmp, partial_le}
use Rattle.std.specs.Prelude.{Some}
use Rattle.basis.proofs.Choice.{and_left, and_right, chain}
use Rattle.basis.specs.Range.{Range, ◌from◌to◌, within, all_within, AllWithin, AllBelow}

pub within_all : (rs : List Range) → all_within rs ≡ true → AllWithin rs
unfolding all_within
within_all [] passed = tt
within_all (r ∷ rs) passed =
    let both = and_left (within r) (all_within rs) passed in (
      leb-true r.low r.number (and_left (leb r.low r.number) (leb r.number r.high) both),
      leb-true r.number r.high (and_right (leb r.low r.number) (leb r.number r.high) both),
      within_all rs (and_right (within r) (all_within rs) passed),
    )

pub all_within_lem : (rs : List Range) → AllWithin rs → all_within rs ≡ true
unfolding all_within
all_within_lem [] all = refl
all_within_lem (r ∷ rs) all = rw (le-leb r.low r.number all.0, le-leb r.number r.high all.1) (all_within_lem rs all.2)

pub chain_within : (a : Bool) (rs : List Range) → chain a (map within rs) ≡ (a && all_within rs)
unfolding all_within
chain_within a [] = sym (and-true a)
chain_within a (r ∷ rs) = chain_within (a && within r) rs ∙ and_assoc a (within r) (all_within rs)

-- At numbers, what is not greater is less or equal.
le_tests : (a b : ℕ) → partial_le (λ x y. Some (nat_cmp x y)) a b ≡ leb a b
le_tests a b = grind (arith, nat_tests)

-- What `contains` of `low..=high` answers: whether a number is between the ends.
pub contains_within : (range : RangeInclusive ℕ) (low high number : ℕ) → range_inclusive_start range ≡ low → range_inclusive_end range ≡ high →
    range_inclusive_exhausted range ≡ false → range_inclusive_contains (λ x y. Some (nat_cmp x y)) range number ≡ within (number from low to high)
contains_within range low high number start end fresh = rw (start, end, fresh, le_tests low number, le_tests number high)

pub AllBelow-mono : (bound bound' : ℕ) (ns : List ℕ) → bound ≤ bound' → AllBelow bound ns → AllBelow bound' ns
AllBelow-mono bound bound' [] wider all = tt
AllBelow-mono bound bound' (n ∷ ns) wider all = (le_trans all.0 wider, AllBelow-mono bound bound' ns wider all.1)
