-- Laws of the resistance: its products fit, the code's quotients are the definition's, and its bound.
use Prim.Native.Nat.{ℕ, ◌*◌, ◌/◌, ◌≤◌, ◌<◌}
use mathlib.Core.Bool.{true}
use mathlib.Core.Path.{◌≡◌}
use native.Mathlib.Omega.{arith}
use native.Mathlib.Nat.{mul-le-mul, mul-one}
use borrow.Author.Tests.{eq-eqb, ne_eqb}
use lib.Dec.{eqb}
use Rattle.basis.specs.Fraction.{Fraction, ◌÷◌, whole, ◌≼◌, times, floor}
use Rattle.basis.proofs.Choice.{cond_cases}
use Rattle.basis.proofs.Fraction.{times_den, times_mono, floor_most}
use Rattle.cellar.specs.declared.CellarWall.{CellarWall}
use Rattle.cellar.specs.Range.{in_range}
use Rattle.cellar.specs.Resistance.{reduction, exact_resistance, resistance}
use Rattle.cellar.proofs.Range.{in_ranges}

pub strength_product_most : (w : CellarWall) → in_range w ≡ true → 17 * w.strength * w.thickness ≤ 85000000
strength_product_most w passed =
    let all = in_ranges w passed in
    mul-le-mul {n₂ = 85000} {m₂ = 1000} (omega arith) (omega arith)

-- The code's quotients

module _ (w : CellarWall) where
  pub resistance_bonded : w.bonded ≡ 1 → 17 * w.strength * w.thickness * 4 / 45 ≡ resistance w
  unfolding resistance exact_resistance reduction floor times
  resistance_bonded is = rw (eq-eqb _ _ is)

  pub resistance_whole : (w.bonded ≡ 1 → ⊥) → 17 * w.strength * w.thickness / 9 ≡ resistance w
  unfolding resistance exact_resistance reduction floor times
  resistance_whole isnt = rw (ne_eqb _ _ isnt, mul-one (17 * w.strength * w.thickness))

-- What the code's resistance rests on: its products and its quotients.
pub ruleset resistance_steps = (in_ranges, strength_product_most, resistance_bonded, resistance_whole)

-- Bound: at most 85000000/9

pub reduction_den : (bonded : ℕ) → 0 < (reduction bonded).den
unfolding reduction
reduction_den bonded = cond_cases (λ (f : Fraction). 0 < f.den) (eqb bonded 1) (λ _. omega arith) (λ _. omega arith)

reduction_most : (bonded : ℕ) → reduction bonded ≼ whole 1
unfolding reduction
reduction_most bonded = cond_cases (λ (f : Fraction). f ≼ whole 1) (eqb bonded 1) (λ _. omega arith) (λ _. omega arith)

pub resistance_den : (w : CellarWall) → 0 < (exact_resistance w).den
unfolding exact_resistance
resistance_den w = times_den ((17 * w.strength * w.thickness) ÷ 9) (reduction w.bonded) (omega arith) (reduction_den w.bonded)

exact_most : (w : CellarWall) → in_range w ≡ true → exact_resistance w ≼ whole 10000000
unfolding exact_resistance times
exact_most w passed =
    times_mono ((17 * w.strength * w.thickness) ÷ 9) (reduction w.bonded) (whole 10000000) (whole 1)
    (omega (arith, strength_product_most w passed)) (reduction_most w.bonded)

pub resistance_most : (w : CellarWall) → in_range w ≡ true → resistance w ≤ 10000000
unfolding resistance
resistance_most w passed = floor_most (exact_resistance w) 10000000 (resistance_den w) (exact_most w passed)
