-- Laws of fractions: order, rounding, and how each operation follows the order.
-- Rounding up has two laws, at or above and least; rounding down has two, at or below and greatest. The others follow from these.
use Prim.Native.Nat.{ℕ, zero, suc, ◌+◌, ◌-◌, ◌*◌, ◌/◌, ◌%◌, ◌≤◌, ◌<◌, min, max}
use mathlib.Core.Path.{◌≡◌, ◌∙◌, sym, ap₂}
use native.Mathlib.Omega.{arith}
use native.Mathlib.Nat.{mul-le-mul, mul-le-mul_left, mul-le-mul_right, le_of_mul-le-mul_right, lt_of_mul-lt-mul_right, div-mul-le_self, lt-div-mul-add, le-div_iff_mul-le, div-lt_iff_lt-mul, le_antisymm, mul-pos, le_of_lt, mul_comm, mul-sub, div-add-mod', min-eq_left, min-eq_right, max-eq_left, max-eq_right}
use Rattle.std.proofs.lemmas.Grind.{div_ceil_times}
use borrow.Author.Tests.{leb-true, leb-false}
use lib.Dec.{leb}
use Rattle.basis.specs.Fraction.{Fraction, ◌÷◌, whole, ◌≼◌, ◌≺◌, ◌≈◌, times, minus, smaller, larger, floor, ceil, nearest, LeastAtOrAbove, LessThanOneBelow, NearestTo}
use Rattle.basis.proofs.Choice.{cond_cases}

-- Order

pub ≼_refl : (f : Fraction) → f ≼ f
≼_refl f = omega arith

pub ≼_trans : (f g h : Fraction) → 0 < g.den → f ≼ g → g ≼ h → f ≼ h
≼_trans f g h pos below above =
    le_of_mul-le-mul_right {k = g.den} (omega (arith, mul-le-mul_right h.den below, mul-le-mul_right f.den above)) pos

pub ≈-≼ : (f g : Fraction) → f ≈ g → f ≼ g
≈-≼ f g same = omega arith

pub ≈-≽ : (f g : Fraction) → f ≈ g → g ≼ f
≈-≽ f g same = omega arith

-- Rounding up

pub ceil_above : (f : Fraction) → 0 < f.den → f ≼ whole (ceil f)
unfolding ceil
ceil_above f pos = omega (arith, lt-div-mul-add {a = f.num + (f.den - 1)} pos)

pub ceil_least : (f : Fraction) (m : ℕ) → 0 < f.den → f ≼ whole m → ceil f ≤ m
unfolding ceil
ceil_least f m pos below =
    let short : f.num + (f.den - 1) < (m + 1) * f.den = omega arith in
    omega (arith, (div-lt_iff_lt-mul {x = f.num + (f.den - 1)} {y = m + 1} pos).1 short)

pub ceil_mono : (f g : Fraction) → 0 < f.den → 0 < g.den → f ≼ g → ceil f ≤ ceil g
ceil_mono f g pf pg below = ceil_least f (ceil g) pf (≼_trans f g (whole (ceil g)) pg below (ceil_above g pg))

-- The value alone decides what is rounded up.
pub ceil_equal : (f g : Fraction) → 0 < f.den → 0 < g.den → f ≈ g → ceil f ≡ ceil g
ceil_equal f g pf pg same = le_antisymm (ceil_mono f g pf pg (≈-≼ f g same)) (ceil_mono g f pg pf (≈-≽ f g same))

-- Less than 1 above the exact value.
pub ceil_close : (f : Fraction) → 0 < f.den → ceil f * f.den < f.num + f.den
unfolding ceil
ceil_close f pos = omega (arith, div-mul-le_self (f.num + (f.den - 1)) f.den)

pub ceil_whole : (n : ℕ) → ceil (whole n) ≡ n
ceil_whole n = le_antisymm (ceil_least (whole n) n (omega arith) (omega arith)) (omega (arith, ceil_above (whole n) (omega arith)))

pub ceil_rounds_up : (f : Fraction) → 0 < f.den → LeastAtOrAbove (ceil f) f
ceil_rounds_up f pos = record { at_or_above = ceil_above f pos; least = λ m above. ceil_least f m pos above }

-- Rounding down

pub floor_below : (f : Fraction) → whole (floor f) ≼ f
unfolding floor
floor_below f = omega (arith, div-mul-le_self f.num f.den)

-- Less than 1 below the exact value.
pub floor_close : (f : Fraction) → 0 < f.den → f ≺ whole (floor f + 1)
unfolding floor
floor_close f pos = omega (arith, lt-div-mul-add {a = f.num} pos)

pub floor_greatest : (f : Fraction) (m : ℕ) → 0 < f.den → whole m ≼ f → m ≤ floor f
unfolding floor
floor_greatest f m pos above = (le-div_iff_mul-le {x = m} pos).1 (omega arith)

pub floor_mono : (f g : Fraction) → 0 < f.den → 0 < g.den → f ≼ g → floor f ≤ floor g
floor_mono f g pf pg below = floor_greatest g (floor f) pg (≼_trans (whole (floor f)) f g pf (floor_below f) below)

pub floor_most : (f : Fraction) (m : ℕ) → 0 < f.den → f ≼ whole m → floor f ≤ m
floor_most f m pf below =
    let rounded = ≼_trans (whole (floor f)) f (whole m) pf (floor_below f) below in
    omega arith

pub floor_equal : (f g : Fraction) → 0 < f.den → 0 < g.den → f ≈ g → floor f ≡ floor g
floor_equal f g pf pg same = le_antisymm (floor_mono f g pf pg (≈-≼ f g same)) (floor_mono g f pg pf (≈-≽ f g same))

pub floor_rounds_down : (f : Fraction) → 0 < f.den → LessThanOneBelow (floor f) f
floor_rounds_down f pos = record { at_most = floor_below f; less_than_one_below = floor_close f pos }

-- Rounding to the nearest: down, of f and a half.

abbrev half_more : Fraction → Fraction
half_more f = (2 * f.num + f.den) ÷ (2 * f.den)

pub nearest_mono : (f g : Fraction) → 0 < f.den → 0 < g.den → f ≼ g → nearest f ≤ nearest g
unfolding nearest
nearest_mono f g pf pg below = floor_mono (half_more f) (half_more g) (omega arith) (omega arith) (omega (arith, mul-le-mul_left 4 below))

pub nearest_equal : (f g : Fraction) → 0 < f.den → 0 < g.den → f ≈ g → nearest f ≡ nearest g
nearest_equal f g pf pg same = le_antisymm (nearest_mono f g pf pg (≈-≼ f g same)) (nearest_mono g f pg pf (≈-≽ f g same))

pub nearest_whole : (n : ℕ) → nearest (whole n) ≡ n
unfolding nearest floor
nearest_whole n = omega arith

pub nearest_most : (f : Fraction) (m : ℕ) → 0 < f.den → f ≼ whole m → nearest f ≤ m
nearest_most f m pf below = omega (arith, nearest_mono f (whole m) pf (omega arith) below, nearest_whole m)

half_below : (n d m : ℕ) → n * (2 * d) ≤ 2 * m + d → (n * 2 - 1 * 1) * d ≤ m * (1 * 2)
half_below zero d m above = omega arith
half_below (suc n) d m above =
    let odd : suc n * 2 - 1 * 1 ≡ 2 * n + 1 = omega arith in
    rw odd (omega arith)

pub nearest_rounds : (f : Fraction) → 0 < f.den → NearestTo (nearest f) f
unfolding nearest minus
nearest_rounds f pos =
    let n : ℕ = floor (half_more f) in
    let low : n * (2 * f.den) ≤ 2 * f.num + f.den = omega (arith, floor_below (half_more f)) in
    let high : 2 * f.num + f.den < (n + 1) * (2 * f.den) = omega (arith, floor_close (half_more f) (omega arith)) in
    record {
      at_most_half_above = half_below n f.den f.num low;
      less_than_half_below = omega arith;
    }

-- The smaller and the larger

pub smaller_cases : (P : Fraction → Type 0) (f g : Fraction) → (f ≼ g → P f) → (g ≼ f → P g) → P (smaller f g)
unfolding smaller
smaller_cases P f g left right =
    cond_cases P (leb (f.num * g.den) (g.num * f.den)) (λ is. left (leb-true _ _ is)) (λ isnt. right (le_of_lt (leb-false _ _ isnt)))

pub larger_cases : (P : Fraction → Type 0) (f g : Fraction) → (g ≼ f → P f) → (f ≼ g → P g) → P (larger f g)
unfolding larger
larger_cases P f g left right =
    cond_cases P (leb (f.num * g.den) (g.num * f.den)) (λ is. right (leb-true _ _ is)) (λ isnt. left (le_of_lt (leb-false _ _ isnt)))

pub smaller_den : (f g : Fraction) → 0 < f.den → 0 < g.den → 0 < (smaller f g).den
smaller_den f g pf pg = smaller_cases (λ x. 0 < x.den) f g (λ _. pf) (λ _. pg)

pub larger_den : (f g : Fraction) → 0 < f.den → 0 < g.den → 0 < (larger f g).den
larger_den f g pf pg = larger_cases (λ x. 0 < x.den) f g (λ _. pf) (λ _. pg)

pub smaller_left : (f g : Fraction) → smaller f g ≼ f
smaller_left f g = smaller_cases (λ x. x ≼ f) f g (λ _. ≼_refl f) (λ below. below)

pub smaller_right : (f g : Fraction) → smaller f g ≼ g
smaller_right f g = smaller_cases (λ x. x ≼ g) f g (λ below. below) (λ _. ≼_refl g)

pub smaller_mono : (f g f' g' : Fraction) → 0 < f.den → 0 < g.den → f ≼ f' → g ≼ g' → smaller f g ≼ smaller f' g'
smaller_mono f g f' g' pf pg left right =
    smaller_cases (λ x. smaller f g ≼ x) f' g'
    (λ _. ≼_trans (smaller f g) f f' pf (smaller_left f g) left)
    (λ _. ≼_trans (smaller f g) g g' pg (smaller_right f g) right)

pub larger_left : (f g : Fraction) → f ≼ larger f g
larger_left f g = larger_cases (λ x. f ≼ x) f g (λ _. ≼_refl f) (λ below. below)

pub larger_right : (f g : Fraction) → g ≼ larger f g
larger_right f g = larger_cases (λ x. g ≼ x) f g (λ below. below) (λ _. ≼_refl g)

pub larger_mono : (f g f' g' : Fraction) → 0 < f'.den → 0 < g'.den → f ≼ f' → g ≼ g' → larger f g ≼ larger f' g'
larger_mono f g f' g' pf pg left right =
    larger_cases (λ x. x ≼ larger f' g') f g
    (λ _. ≼_trans f f' (larger f' g') pf left (larger_left f' g'))
    (λ _. ≼_trans g g' (larger f' g') pg right (larger_right f' g'))

-- Rounding and choosing may change places.

pub ceil_larger : (f g : Fraction) → 0 < f.den → 0 < g.den → ceil (larger f g) ≡ max (ceil f) (ceil g)
ceil_larger f g pf pg =
    larger_cases (λ x. ceil x ≡ max (ceil f) (ceil g)) f g
    (λ below. sym (max-eq_left (ceil_mono g f pg pf below)))
    (λ below. sym (max-eq_right (ceil_mono f g pf pg below)))

-- Products and differences

pub times_den : (f g : Fraction) → 0 < f.den → 0 < g.den → 0 < (times f g).den
unfolding times
times_den f g pf pg = mul-pos pf pg

pub times_mono : (f g f' g' : Fraction) → f ≼ f' → g ≼ g' → times f g ≼ times f' g'
unfolding times
times_mono f g f' g' left right = omega (arith, mul-le-mul left right)

pub floor_times_smaller : (s f g : Fraction) → 0 < s.den → 0 < f.den → 0 < g.den →
    floor (times s (smaller f g)) ≡ min (floor (times s f)) (floor (times s g))
floor_times_smaller s f g ps pf pg =
    smaller_cases (λ x. floor (times s x) ≡ min (floor (times s f)) (floor (times s g))) f g
    (λ below. sym (min-eq_left (floor_mono (times s f) (times s g) (times_den s f ps pf) (times_den s g ps pg) (times_mono s f s g (≼_refl s) below))))
    (λ below. sym (min-eq_right (floor_mono (times s g) (times s f) (times_den s g ps pg) (times_den s f ps pf) (times_mono s g s f (≼_refl s) below))))

pub times_same : (f g f' g' : Fraction) → f ≈ f' → g ≈ g' → times f g ≈ times f' g'
unfolding times
times_same f g f' g' left right = omega (arith, ap₂ ◌*◌ left right)

pub minus_den : (f g : Fraction) → 0 < f.den → 0 < g.den → 0 < (minus f g).den
unfolding minus
minus_den f g pf pg = mul-pos pf pg

sub_mul : (a b k : ℕ) → (a - b) * k ≡ a * k - b * k
sub_mul a b k = mul_comm (a - b) k ∙ mul-sub k a b ∙ ap₂ ◌-◌ (mul_comm k a) (mul_comm k b)

pub minus_mono : (f g f' g' : Fraction) → f ≼ f' → g' ≼ g → minus f g ≼ minus f' g'
unfolding minus
minus_mono f g f' g' left right =
    rw (sub_mul (f.num * g.den) (g.num * f.den) (f'.den * g'.den), sub_mul (f'.num * g'.den) (g'.num * f'.den) (f.den * g.den))
    (omega (arith, mul-le-mul_right (g.den * g'.den) left, mul-le-mul_right (f.den * f'.den) right))

pub minus_below : (f g : Fraction) → minus f g ≼ f
unfolding minus
minus_below f g = rw (sub_mul (f.num * g.den) (g.num * f.den) f.den) (omega arith)

-- Rounding up by quotient and remainder, as the code does it

module _ (n d : ℕ) (pos : 0 < d) where
  -- The library's quotient rounded up is the definition's.
  pub ceil_by_remainder : n / d + min 1 (n % d) ≡ ceil (n ÷ d)
  ceil_by_remainder =
      let less : n / d + min 1 (n % d) < ceil (n ÷ d) + 1 =
      lt_of_mul-lt-mul_right d {m = n / d + min 1 (n % d)} {n = ceil (n ÷ d) + 1} (omega (arith, ceil_above (n ÷ d) pos, div_ceil_times n d pos)) in
      le_antisymm (omega (arith, less)) (ceil_least (n ÷ d) (n / d + min 1 (n % d)) pos (omega (arith, div_ceil_times n d pos)))

  pub ceil_exact : n % d ≡ 0 → ceil (n ÷ d) ≡ n / d
  ceil_exact even =
      le_antisymm (ceil_least (n ÷ d) (n / d) pos (omega (arith, div-add-mod' n d)))
      (le_of_mul-le-mul_right {k = d} (omega (arith, ceil_above (n ÷ d) pos, div-mul-le_self n d)) pos)

  pub ceil_inexact : (n % d ≡ 0 → ⊥) → ceil (n ÷ d) ≡ n / d + 1
  ceil_inexact uneven =
      le_antisymm (ceil_least (n ÷ d) (n / d + 1) pos (omega (arith, lt-div-mul-add {a = n} pos)))
      (omega (arith, lt_of_mul-lt-mul_right d {m = n / d} {n = ceil (n ÷ d)} (omega (arith, ceil_above (n ÷ d) pos, div-add-mod' n d))))
