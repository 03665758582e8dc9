-- Laws of a number's digits: their value, and that no others are read.
use Rattle.std.proofs.Common.{Some, None}
use Prim.Native.Nat.{ℕ, ◌≤◌, ◌<◌}
use mathlib.Core.Bool.{Bool, true, false, cond, ◌&&◌}
use mathlib.Core.List.{List}
use mathlib.Core.Path.{◌≡◌, ◌∙◌, refl, sym, ap, ap₂}
use native.Mathlib.Omega.{arith}
use lib.Dec.{eqb, leb}
use lib.ListN.{length}
use borrow.Author.Tests.{le-leb, lt-leb, leb-true}
use Rattle.std.specs.Cmp.Lexicographic.{pointwise, same_text, other_text}
use Rattle.std.proofs.lemmas.List.Sums.{fold-append}
use Rattle.std.proofs.lemmas.Option.{cond_some}
use Rattle.basis.proofs.Choice.{and_left, and_right}
use Rattle.text.specs.Decimal.{decimal}
use Rattle.text.proofs.Decimal.{by_digits, decimal_digit, decimal_more, decimal_length_bound, decimal_below}
use Rattle.line.proofs.Decimal.{value_nine}
use Rattle.block_list.specs.Reading.{value_of, read_number}
use Rattle.block_list.specs.Claims.{NumberReadExactly}

-- The digits of a number have its value.
value_of_decimal : (n : ℕ) → value_of (decimal n) ≡ n
value_of_decimal =
    by_digits (λ n. value_of (decimal n) ≡ n)
    (λ n one. rw (decimal_digit n one) (omega arith))
    (λ n more tenth. rw (decimal_more n more, fold-append, tenth) (omega arith))

pub same_bytes : (xs ys : List ℕ) → xs ≡ ys → pointwise eqb xs ys ≡ true
same_bytes xs ys same = go (pointwise eqb xs ys) refl
  where
    go : (b : Bool) → pointwise eqb xs ys ≡ b → b ≡ true
    go true is = refl
    go false isnt = absurd (other_text xs ys (sym isnt) same)

-- What is read.

pub read_value : (digits : List ℕ) → length digits ≤ 9 → digits ≡ decimal (value_of digits) → read_number digits ≡ Some (value_of digits)
unfolding read_number
read_value digits few same =
    ap₂ (λ (short proper : Bool). cond (short && proper) (Some (value_of digits)) None) (le-leb (length digits) 9 few) (same_bytes digits (decimal (value_of digits)) same)

pub none_over_nine : (digits : List ℕ) → 9 < length digits → read_number digits ≡ None
unfolding read_number
none_over_nine digits many =
    ap (λ (short : Bool). cond (short && pointwise eqb digits (decimal (value_of digits))) (Some (value_of digits)) None) (lt-leb (length digits) 9 many)

pub none_where_other : (digits : List ℕ) → (digits ≡ decimal (value_of digits) → ⊥) → read_number digits ≡ None
unfolding read_number
none_where_other digits other = go (leb (length digits) 9) (pointwise eqb digits (decimal (value_of digits))) refl
  where
    go : (few same : Bool) → pointwise eqb digits (decimal (value_of digits)) ≡ same → cond (few && same) (Some (value_of digits)) None ≡ None
    go true true is = absurd (other (same_text digits (decimal (value_of digits)) (sym is)))
    go true false is = refl
    go false same is = refl

pub number_read_exactly : NumberReadExactly
unfolding read_number
number_read_exactly digits n = (
  (λ is.
      let passed = cond_some (leb (length digits) 9 && pointwise eqb digits (decimal (value_of digits))) (value_of digits) n is in
      let same = same_text digits (decimal (value_of digits)) (sym (and_right _ _ passed.0)) ∙ ap decimal passed.1 in
      let few = leb-true (length digits) 9 (and_left _ _ passed.0) in
      (value_nine (length digits) n few (rw (ap length same) (decimal_below n)), same)),
  (λ all.
      let value = ap value_of all.1 ∙ value_of_decimal n in
      read_value digits (omega (arith, ap length all.1, decimal_length_bound 8 n all.0)) (all.1 ∙ ap decimal (sym value)) ∙ ap (λ (m : ℕ). Some m) value),
)
