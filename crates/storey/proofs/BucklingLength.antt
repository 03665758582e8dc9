-- Laws of the buckling length: that its products fit, and how it follows clear height and bearing depth.
use Prim.Native.Nat.{ℕ, ◌+◌, ◌*◌, ◌≤◌, ◌<◌, max}
use mathlib.Core.Bool.{Bool, true, false, cond, ◌&&◌}
use mathlib.Core.Path.{◌≡◌, ◌∙◌, refl, ap}
use native.Mathlib.Omega.{arith}
use native.Mathlib.Nat.{mul-le-mul, mul-pos}
use borrow.Author.Tests.{eqb-true, le-leb, lt-leb}
use lib.Dec.{leb, eqb}
use Rattle.basis.specs.Fraction.{Fraction, ◌÷◌, whole, ceil}
use Rattle.basis.proofs.Choice.{cond_cases, and_left}
use Rattle.basis.proofs.Fraction.{ceil_larger, ceil_whole, larger_den}
use Rattle.storey.specs.declared.StoreyWall.{StoreyWall}
use Rattle.storey.specs.Range.{in_range}
use Rattle.storey.specs.BucklingLength.{bearing_suffices, factor, two_sides, three_sides, four_sides, length_of, exact_length}
use Rattle.storey.proofs.Range.{in_ranges, distance_bounds}

-- The greatest product.
pub scaled_product_most : (n c k : ℕ) → n ≤ 1800 → c ≤ 30000 → k ≤ 400000 → n * (c * c) * k ≤ 648000000000000000
scaled_product_most n c k scale distance product = mul-le-mul (mul-le-mul scale (mul-le-mul distance distance)) product

-- The denominator on three and four sides is above 0.
pub sum_of_squares : (m c k : ℕ) → 0 < m → 1 ≤ c → 0 < m * (c * c) + k * k
sum_of_squares m c k positive least = omega (arith, mul-pos positive (mul-pos least least))

pub three_sides_rounded : (h c k : ℕ) → 1 ≤ c →
    ceil (three_sides h c k) ≡ max (ceil ((1800 * (c * c) * k) ÷ (3600 * (c * c) + k * k))) (3 * h)
unfolding three_sides
three_sides_rounded h c k least =
    ceil_larger ((1800 * (c * c) * k) ÷ (3600 * (c * c) + k * k)) (whole (3 * h)) (sum_of_squares 3600 c k (omega arith) least) (omega arith)
    ∙ ap (max (ceil ((1800 * (c * c) * k) ÷ (3600 * (c * c) + k * k)))) (ceil_whole (3 * h))

pub thickness_factor_most : (t : ℕ) → cond (leb t 175) 15 (cond (leb t 250) 18 20) ≤ 20
thickness_factor_most t =
    cond_cases (λ r. r ≤ 20) (leb t 175) (λ _. omega arith) (λ _. cond_cases (λ r. r ≤ 20) (leb t 250) (λ _. omega arith) (λ _. omega arith))

pub factor_most : (t a : ℕ) → factor t a ≤ 20
unfolding factor
factor_most t a = cond_cases (λ r. r ≤ 20) (bearing_suffices t a) (λ _. thickness_factor_most t) (λ _. omega arith)

module _ (w : StoreyWall) (passed : in_range w ≡ true) where
  pub product_most : factor w.thickness w.bearing * w.height ≤ 400000
  product_most = mul-le-mul {m₂ = 20000} (factor_most w.thickness w.bearing) (omega (arith, in_ranges w passed))

-- The length as the code chooses it.

module _ (w : StoreyWall) where
  abbrev product : ℕ
  product = factor w.thickness w.bearing * w.height

  pub length_two : 2 ≡ w.held → exact_length w ≡ two_sides product
  unfolding exact_length length_of
  length_two two = rw (← two) refl

  pub length_three : 3 ≡ w.held → w.distance ≤ 15 * w.thickness → exact_length w ≡ three_sides w.height w.distance product
  unfolding exact_length length_of
  length_three three near = rw (← three, le-leb w.distance (15 * w.thickness) near) refl

  pub length_three_far : 3 ≡ w.held → 15 * w.thickness < w.distance → exact_length w ≡ two_sides product
  unfolding exact_length length_of
  length_three_far three far = rw (← three, lt-leb w.distance (15 * w.thickness) far) refl

  pub length_four : 4 ≡ w.held → w.distance ≤ 30 * w.thickness → exact_length w ≡ four_sides w.height w.distance product
  unfolding exact_length length_of
  length_four four near = rw (← four, le-leb w.distance (30 * w.thickness) near) refl

  pub length_four_far : 4 ≡ w.held → 30 * w.thickness < w.distance → exact_length w ≡ two_sides product
  unfolding exact_length length_of
  length_four_far four far = rw (← four, lt-leb w.distance (30 * w.thickness) far) refl

pub ruleset lengths = (product_most, length_two, length_three, length_three_far, length_four, length_four_far)

-- A wall held on n sides, n not 2, is held on more than two sides.
pub held_further : (held n : ℕ) (near : Bool) → (eqb held n && near) ≡ true → eqb n 2 ≡ false → eqb held 2 ≡ false
held_further held n near both further = rw (eqb-true held n (and_left (eqb held n) near both)) further

-- The exact length of a record in range has a denominator above 0.
pub exact_length_den : (w : StoreyWall) → in_range w ≡ true → 0 < (exact_length w).den
unfolding exact_length length_of two_sides three_sides four_sides
exact_length_den w passed =
    let c = w.distance in
    let k = factor w.thickness w.bearing * w.height in
    cond_cases (λ (f : Fraction). 0 < f.den) (eqb w.held 3 && leb c (15 * w.thickness))
    (λ three. larger_den ((1800 * (c * c) * k) ÷ (3600 * (c * c) + k * k)) (whole (3 * w.height))
    (sum_of_squares 3600 c k (omega arith) (distance_bounds w passed (held_further w.held 3 (leb c (15 * w.thickness)) three refl)).0) (omega arith))
    (λ _. cond_cases (λ (f : Fraction). 0 < f.den) (eqb w.held 4 && leb c (30 * w.thickness))
    (λ four. cond_cases (λ (f : Fraction). 0 < f.den) (leb w.height c)
    (λ _. sum_of_squares 400 c k (omega arith) (distance_bounds w passed (held_further w.held 4 (leb c (30 * w.thickness)) four refl)).0)
    (λ _. omega arith))
    (λ _. omega arith))
