-- Exact fractions of whole numbers, and where they are rounded.
-- A formula stays a fraction until the one place where the documents say "rounded up", "rounded down" or "to the nearest".
use Rattle.std.specs.Prelude.{ℕ, ◌+◌, ◌-◌, ◌*◌, ◌/◌, ◌≤◌, ◌<◌, cond, ◌≡◌, leb}

infix 60 ◌÷◌
infix 40 ◌≼◌
infix 40 ◌≺◌
infix 40 ◌≈◌
-- A numerator over a denominator. Laws that need the denominator above 0 say so.
pub record Fraction : Type 0 where
  pub num : ℕ
  pub den : ℕ

abbrev pub ◌÷◌ : ℕ → ℕ → Fraction
n ÷ d = record { num = n; den = d }

abbrev pub whole : ℕ → Fraction
whole n = n ÷ 1

-- Order and equality of values, by cross multiplication.
abbrev pub ◌≼◌ : Fraction → Fraction → Type 0
f ≼ g = f.num * g.den ≤ g.num * f.den

abbrev pub ◌≺◌ : Fraction → Fraction → Type 0
f ≺ g = f.num * g.den < g.num * f.den

abbrev pub ◌≈◌ : Fraction → Fraction → Type 0
f ≈ g = f.num * g.den ≡ g.num * f.den

unfoldable pub times : Fraction → Fraction → Fraction
times f g = (f.num * g.num) ÷ (f.den * g.den)

unfoldable pub over : Fraction → Fraction → Fraction
over f g = (f.num * g.den) ÷ (f.den * g.num)

-- f - g, and 0 where g is the greater: "not below 0".
unfoldable pub minus : Fraction → Fraction → Fraction
minus f g = (f.num * g.den - g.num * f.den) ÷ (f.den * g.den)

unfoldable pub smaller : Fraction → Fraction → Fraction
smaller f g = cond (leb (f.num * g.den) (g.num * f.den)) f g

unfoldable pub larger : Fraction → Fraction → Fraction
larger f g = cond (leb (f.num * g.den) (g.num * f.den)) g f

-- "rounded down"
unfoldable pub floor : Fraction → ℕ
floor f = f.num / f.den

-- "rounded up"
unfoldable pub ceil : Fraction → ℕ
ceil f = (f.num + (f.den - 1)) / f.den

-- "to the nearest .., an exact half upwards"
unfoldable pub nearest : Fraction → ℕ
nearest f = floor ((2 * f.num + f.den) ÷ (2 * f.den))

-- What each rounding promises of a whole number.

-- The least whole number at or above f.
pub record LeastAtOrAbove (n : ℕ) (f : Fraction) : Type 0 where
  pub at_or_above : f ≼ whole n
  pub least : (m : ℕ) → f ≼ whole m → n ≤ m

-- At most f, and less than 1 below it.
pub record LessThanOneBelow (n : ℕ) (f : Fraction) : Type 0 where
  pub at_most : whole n ≼ f
  pub less_than_one_below : f ≺ whole (n + 1)

-- At most a half above f, and less than a half below it.
pub record NearestTo (n : ℕ) (f : Fraction) : Type 0 where
  pub at_most_half_above : minus (whole n) (1 ÷ 2) ≼ f
  pub less_than_half_below : f ≺ ((2 * n + 1) ÷ 2)
