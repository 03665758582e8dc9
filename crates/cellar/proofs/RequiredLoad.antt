-- Laws of the required load: its products fit, the code's quotients are the definition's, and its bound.
use Prim.Native.Nat.{ℕ, ◌-◌, ◌*◌, ◌≤◌, ◌<◌}
use mathlib.Core.Bool.{true}
use mathlib.Core.Path.{◌≡◌}
use native.Mathlib.Omega.{arith}
use native.Mathlib.Nat.{mul-le-mul, mul-le-mul_right, mul-pos, mul-one, one-mul}
use borrow.Author.Tests.{le-leb, lt-leb, leb-false, ltb-false}
use lib.Dec.{leb}
use Rattle.basis.specs.Fraction.{Fraction, ◌÷◌, whole, times, over, minus, ceil}
use Rattle.basis.proofs.Choice.{cond_cases}
use Rattle.basis.proofs.Fraction.{ceil_equal, ceil_least}
use Rattle.cellar.specs.declared.CellarWall.{CellarWall}
use Rattle.cellar.specs.Range.{in_range}
use Rattle.basis.specs.Refusal.{NoneApplies}
use Rattle.cellar.specs.Limits.{too_thin, too_high, limits}
use Rattle.cellar.proofs.Range.{in_ranges}
use Rattle.cellar.proofs.Limits.{fill_within}
use Rattle.cellar.specs.RequiredLoad.{spacing_factor, exact_required_load, required_load}

-- What a record within every limit has of the formula's numbers.
pub record Factors (w : CellarWall) : Type 0 where
  pub weight_most : w.weight ≤ 30000
  pub height_most : w.height ≤ 2600
  pub fill_most : w.fill ≤ 2990
  pub thickness_least : 200 ≤ w.thickness
  pub thickness_most : w.thickness ≤ 1000

pub factors : (w : CellarWall) → in_range w ≡ true → NoneApplies (limits w) → Factors w
unfolding too_thin too_high
factors w passed none =
    let all = in_ranges w passed in
    let thick = ltb-false w.thickness 200 none.0 in
    let high = ltb-false 2600 w.height none.1.0 in
    let filled = fill_within w none.1.1.0 in
    omega arith

-- Products

module _ (w : CellarWall) (f : Factors w) where
  pub weight_height_most : w.weight * w.height ≤ 78000000
  weight_height_most = mul-le-mul f.weight_most f.height_most

  pub fill_square_most : w.fill * w.fill ≤ 8940100
  fill_square_most = mul-le-mul f.fill_most f.fill_most

  pub pressure_most : w.weight * w.height * (w.fill * w.fill) ≤ 697327800000000
  pressure_most = mul-le-mul weight_height_most fill_square_most

  pub pressure_height_most : w.weight * w.height * (w.fill * w.fill) * w.height ≤ 1813052280000000000
  pressure_height_most = mul-le-mul pressure_most f.height_most

  pub between_divisor_most : (60 * w.height - 20 * w.spacing) * (1000000 * w.thickness) ≤ 156000000000000
  between_divisor_most =
      mul-le-mul {n₂ = 156000} {m₂ = 1000000000} (omega (arith, f.height_most)) (omega (arith, f.thickness_most))

-- The code's quotients

-- With B as n/d, the load over 1000000 B t is one quotient.
required_quotient : (P t n d : ℕ) → 0 < n * (1000000 * t) →
    ceil ((P * d) ÷ (n * (1000000 * t))) ≡ ceil (over (whole P) (times (times (whole 1000000) (n ÷ d)) (whole t)))
unfolding over times
required_quotient P t n d positive =
    ceil_equal ((P * d) ÷ (n * (1000000 * t))) (over (whole P) (times (times (whole 1000000) (n ÷ d)) (whole t))) positive (omega arith) (omega arith)

module _ (w : CellarWall) (thick : 1 ≤ w.thickness) where
  pub required_wide : 2 * w.height ≤ w.spacing →
      ceil ((w.weight * w.height * (w.fill * w.fill)) ÷ (20 * (1000000 * w.thickness))) ≡ required_load w
  unfolding required_load exact_required_load spacing_factor
  required_wide wide =
      rw (le-leb _ _ wide)
      (rw mul-one at (required_quotient (w.weight * w.height * (w.fill * w.fill)) w.thickness 20 1 (omega arith)))

  pub required_close : w.spacing < 2 * w.height → w.spacing ≤ w.height →
      ceil ((w.weight * w.height * (w.fill * w.fill)) ÷ (40 * (1000000 * w.thickness))) ≡ required_load w
  unfolding required_load exact_required_load spacing_factor
  required_close narrow close =
      rw (lt-leb _ _ narrow, le-leb _ _ close)
      (rw mul-one at (required_quotient (w.weight * w.height * (w.fill * w.fill)) w.thickness 40 1 (omega arith)))

  pub required_between : w.spacing < 2 * w.height → w.height < w.spacing →
      ceil ((w.weight * w.height * (w.fill * w.fill) * w.height) ÷ ((60 * w.height - 20 * w.spacing) * (1000000 * w.thickness)))
      ≡ required_load w
  unfolding required_load exact_required_load spacing_factor minus
  required_between narrow wide =
      rw (lt-leb _ _ narrow, lt-leb _ _ wide, mul-one (20 * w.spacing), one-mul w.height)
      (required_quotient (w.weight * w.height * (w.fill * w.fill)) w.thickness (60 * w.height - 20 * w.spacing) w.height
      (mul-pos {m = 60 * w.height - 20 * w.spacing} (omega arith) (omega arith)))

-- What the code's required load rests on: its products and its quotients.
pub ruleset required_load_steps = (factors, weight_height_most, fill_square_most, pressure_most, pressure_height_most, between_divisor_most, required_wide, required_close, required_between)

-- Bounds

-- B is at least 20.
spacing_factor_least : (h c : ℕ) → (0 < (spacing_factor h c).den) × (20 * (spacing_factor h c).den ≤ (spacing_factor h c).num)
unfolding spacing_factor minus
spacing_factor_least h c =
    cond_cases (λ (f : Fraction). (0 < f.den) × (20 * f.den ≤ f.num)) (leb (2 * h) c)
    (λ _. omega arith)
    (λ narrow.
    cond_cases (λ (f : Fraction). (0 < f.den) × (20 * f.den ≤ f.num)) (leb c h) (λ _. omega arith) (λ _. omega (arith, leb-false (2 * h) c narrow)))

-- So the exact required load of a record in range has a denominator above 0.
pub required_load_den : (w : CellarWall) → in_range w ≡ true → 0 < (exact_required_load w).den
unfolding exact_required_load over times
required_load_den w passed =
    let least = spacing_factor_least w.height w.spacing in
    let positive : 0 < (spacing_factor w.height w.spacing).num * w.thickness = mul-pos (omega arith) (omega (arith, in_ranges w passed)) in
    omega arith

-- y h e² is at most 697327800000000, B at least 20, and t at least 200.
pub required_load_most : (w : CellarWall) → in_range w ≡ true → NoneApplies (limits w) → required_load w ≤ 174332
unfolding required_load exact_required_load over times
required_load_most w passed none =
    let f = factors w passed none in
    let B = spacing_factor w.height w.spacing in
    let divisor : 20 * B.den * 200 ≤ B.num * w.thickness = mul-le-mul (spacing_factor_least w.height w.spacing).1 f.thickness_least in
    ceil_least (exact_required_load w) 174332 (required_load_den w passed) (omega (arith, mul-le-mul_right B.den (pressure_most w f)))
