-- Laws of the resistance: that its products fit, that the code's quotients are the definition's, and how it follows the record.
use Prim.Native.Nat.{ℕ, ◌-◌, ◌*◌, ◌/◌, ◌≤◌, ◌<◌, min}
use mathlib.Core.Bool.{true, ◌||◌}
use mathlib.Core.Path.{◌≡◌, refl, sym, ap}
use native.Mathlib.Omega.{arith}
use native.Mathlib.Nat.{mul-le-mul, mul-le-mul_right, le_of_mul-le-mul_right, mul-one, mul-sub}
use lib.Dec.{eqb, ltb}
use Rattle.basis.specs.Fraction.{Fraction, ◌÷◌, whole, ◌≼◌, ◌≈◌, times, minus, smaller, floor}
use borrow.Author.Tests.{ne_eqb}
use Rattle.basis.proofs.Choice.{cond_cases}
use Rattle.basis.proofs.Fraction.{
  ≼_refl,
  ≼_trans,
  times_mono,
  minus_below,
  smaller_left,
  floor_most,
  smaller_cases,
  smaller_den,
  times_den,
  times_same,
  floor_equal,
  floor_times_smaller,
  minus_den,
}
use Rattle.storey.specs.declared.StoreyWall.{StoreyWall}
use Rattle.storey.specs.declared.in_range.Support.{Support}
use Rattle.storey.specs.declared.in_range.Support.TheVariants.{Intermediate, UnderFloor, UnderRoof, CentringStrip}
use Rattle.storey.specs.Kinds.{support_number}
use Rattle.storey.specs.Range.{in_range}
use Rattle.storey.specs.BucklingLength.{buckling_length}
use Rattle.storey.specs.Span.{support_span}
use Rattle.storey.proofs.Range.{in_ranges}
use Rattle.storey.proofs.Span.{support_span_den}
use Rattle.storey.specs.Resistance.{at_mid_height, support_factor, at_support, reduction_fifths, reduction, support_factor_of, unreduced, exact_resistance, resistance, SupportFactor}

-- The greatest product at the support.
pub support_product_most : (fifths m a F : ℕ) → fifths ≤ 5 → m ≤ 108000 → a ≤ 1000 → F ≤ 5000 → fifths * (17 * F * a) * m ≤ 45900000000000
support_product_most fifths m a F fifth factor bearing strength =
    mul-le-mul {n₂ = 425000000} (mul-le-mul {n₂ = 5} fifth (mul-le-mul {n₂ = 85000} (omega arith) bearing)) factor

-- The code's quotients

-- At mid-height, in fifths: the product of two fractions over whole numbers is one quotient.
pub mid_height_quotient : (fifths t a F E : ℕ) →
    fifths * (17 * F) * (850000 * a * t - 11 * (E * E)) / (5 * (3000000 * t))
    ≡ floor (times (fifths ÷ 5) (at_mid_height t a F (whole E)))
unfolding floor times minus at_mid_height
mid_height_quotient fifths t a F E =
    rw (mul-one (850000 * a * t), mul-one (11 * (E * E)), mul-one (3000000 * t))
    (ap (λ (n : ℕ). n / (5 * (3000000 * t))) (omega arith))

-- What a span l, in twentieths, leaves of 9600 is the smaller of both exactly where l is at least 84000: 9600 − 4200 is 5400.
pub under_floor : (l m : ℕ) (L : Fraction) → 0 < L.den → (l ÷ 20) ≈ L → m ≡ min 108000 (192000 - l) →
    SupportFactor m (smaller (whole 5400) (minus (whole 9600) L))
unfolding minus
under_floor l m L positive same is =
    record {
      value =
          smaller_cases (λ f. (m ÷ 20) ≈ f) (whole 5400) (minus (whole 9600) L)
          (λ below.
          let short : l ≤ 84000 = le_of_mul-le-mul_right {k = L.den} (omega arith) positive in
          omega arith)
          (λ above.
          let long : 84000 ≤ l = le_of_mul-le-mul_right {k = L.den} (omega arith) positive in
          let left : m ≡ 192000 - l = omega arith in
          let product : L.den * m ≡ L.den * 192000 - L.den * l = rw left (mul-sub L.den 192000 l) in
          omega (arith, product));
      most = omega arith;
    }

-- For supports 1 and 4.
pub other_support : (s : Support) (L : Fraction) → (s ≡ UnderFloor → ⊥) → (s ≡ UnderRoof → ⊥) → SupportFactor 108000 (support_factor (support_number s) L)
unfolding support_factor
other_support Intermediate L floor roof = record { value = refl; most = omega arith }
other_support UnderFloor L floor roof = absurd (floor refl)
other_support UnderRoof L floor roof = absurd (roof refl)
other_support CentringStrip L floor roof = record { value = refl; most = omega arith }

pub support_factor_den : (support : ℕ) (L : Fraction) → 0 < L.den → 0 < (support_factor support L).den
unfolding support_factor
support_factor_den support L positive =
    cond_cases (λ (f : Fraction). 0 < f.den) (eqb support 2)
    (λ _. smaller_den (whole 5400) (minus (whole 9600) L) (omega arith) (minus_den (whole 9600) L (omega arith) positive))
    (λ _. cond_cases (λ (f : Fraction). 0 < f.den) (eqb support 3) (λ _. omega arith) (λ _. omega arith))

pub at_support_den : (a F : ℕ) (m : Fraction) → 0 < m.den → 0 < (at_support a F m).den
unfolding at_support
at_support_den a F m positive = times_den ((17 * F * a) ÷ 18000) m (omega arith) positive

pub mid_height_den : (t a F : ℕ) (E : Fraction) → 1 ≤ t → 0 < E.den → 0 < (at_mid_height t a F E).den
unfolding at_mid_height
mid_height_den t a F E least positive =
    times_den ((17 * F) ÷ (3000000 * t)) (minus (whole (850000 * a * t)) (times (whole 11) (times E E))) (omega arith)
    (minus_den (whole (850000 * a * t)) (times (whole 11) (times E E)) (omega arith) (times_den (whole 11) (times E E) (omega arith) (times_den E E positive positive)))

-- m of a record.
pub factor_den : (w : StoreyWall) → 0 < (support_factor_of w).den
factor_den w = support_factor_den w.support (support_span w.span w.otherspan) (support_span_den w.span w.otherspan)

-- At the support, in fifths, with m in twentieths.
pub support_quotient : (fifths m a F : ℕ) → fifths * (17 * F * a) * m / 1800000 ≡ floor (times (fifths ÷ 5) (at_support a F (m ÷ 20)))
unfolding floor times at_support
support_quotient fifths m a F = ap (λ (n : ℕ). n / 1800000) (omega arith)

-- The same with m as the fraction of the definition, which has the same value.
support_same : (fifths m a F : ℕ) (f : Fraction) → 0 < f.den → (m ÷ 20) ≈ f →
    floor (times (fifths ÷ 5) (at_support a F (m ÷ 20))) ≡ floor (times (fifths ÷ 5) (at_support a F f))
unfolding at_support
support_same fifths m a F f positive value =
    let part : Fraction = (17 * F * a) ÷ 18000 in
    floor_equal (times (fifths ÷ 5) (times part (m ÷ 20))) (times (fifths ÷ 5) (times part f))
    (times_den (fifths ÷ 5) (times part (m ÷ 20)) (omega arith) (times_den part (m ÷ 20) (omega arith) (omega arith)))
    (times_den (fifths ÷ 5) (times part f) (omega arith) (times_den part f (omega arith) positive))
    (times_same (fifths ÷ 5) (times part (m ÷ 20)) (fifths ÷ 5) (times part f) refl (times_same part (m ÷ 20) part f refl value))

-- Support 1 is the intermediate one.
pub intermediate_support : (s : Support) → support_number s ≡ 1 → s ≡ Intermediate
intermediate_support Intermediate is = refl
intermediate_support UnderFloor is = absurd (let no· : ⊥ = omega (arith, is) in no·)
intermediate_support UnderRoof is = absurd (let no· : ⊥ = omega (arith, is) in no·)
intermediate_support CentringStrip is = absurd (let no· : ⊥ = omega (arith, is) in no·)

-- The reported resistance from the two rounded parts of the code: the one at mid-height for support 1, else the smaller of both.
module _ (w : StoreyWall) where
  abbrev middle : Fraction
  middle = at_mid_height w.thickness w.bearing w.strength (whole (buckling_length w))

  abbrev end : Fraction
  end = at_support w.bearing w.strength (support_factor_of w)

  pub middle_alone : eqb w.support 1 ≡ true → floor (times (reduction w) middle) ≡ resistance w
  unfolding resistance exact_resistance unreduced
  middle_alone intermediate = rw intermediate refl

  pub resistance_middle : 1 ≡ w.support → floor (times (reduction w) middle) ≡ resistance w
  unfolding resistance exact_resistance unreduced
  resistance_middle alone = rw (← alone) refl

  pub resistance_smaller : 1 ≤ w.thickness → (w.support ≡ 1 → ⊥) → (m : ℕ) → (m ÷ 20) ≈ support_factor_of w →
      min (floor (times (reduction w) middle)) (floor (times (reduction w) (at_support w.bearing w.strength (m ÷ 20)))) ≡ resistance w
  unfolding resistance exact_resistance unreduced
  resistance_smaller least further m value =
      rw (ne_eqb w.support 1 further, support_same (reduction_fifths w) m w.bearing w.strength (support_factor_of w) (factor_den w) value)
      (sym (floor_times_smaller (reduction w) middle end (omega arith) (mid_height_den w.thickness w.bearing w.strength (whole (buckling_length w)) least (omega arith))
      (at_support_den w.bearing w.strength (support_factor_of w) (factor_den w))))

-- Bound: the strength and the bearing alone, without the slenderness.

mid_height_all : (t a F : ℕ) → a ≤ 1000 → F ≤ 5000 → times ((17 * F) ÷ (3000000 * t)) (whole (850000 * a * t)) ≼ whole 25000000
unfolding times
mid_height_all t a F bearing strength =
    let product : F * a ≤ 5000000 = mul-le-mul strength bearing in
    omega (arith, mul-le-mul_right t product)

mid_height_most : (t a F : ℕ) (E : Fraction) → 1 ≤ t → a ≤ 1000 → F ≤ 5000 → at_mid_height t a F E ≼ whole 25000000
unfolding at_mid_height
mid_height_most t a F E least bearing strength =
    let outer : Fraction = (17 * F) ÷ (3000000 * t) in
    let all : Fraction = whole (850000 * a * t) in
    let lost : Fraction = times (whole 11) (times E E) in
    ≼_trans (times outer (minus all lost)) (times outer all) (whole 25000000) (times_den outer all (omega arith) (omega arith))
    (times_mono outer (minus all lost) outer all (≼_refl outer) (minus_below all lost))
    (mid_height_all t a F bearing strength)

-- 4 or 5 fifths.
pub fifths_most : (w : StoreyWall) → reduction_fifths w ≤ 5
unfolding reduction_fifths
fifths_most w = cond_cases (λ (n : ℕ). n ≤ 5) (ltb (w.length * w.thickness) 100000 || eqb w.bonded 1) (λ _. omega arith) (λ _. omega arith)

pub ruleset resistances = (fifths_most, intermediate_support, resistance_middle, resistance_smaller)

module _ (support t a F : ℕ) (m E : Fraction) (least : 1 ≤ t) (positive_m : 0 < m.den) (positive : 0 < E.den) where
  pub unreduced_den : 0 < (unreduced support t a F m E).den
  unfolding unreduced
  unreduced_den =
      let pm = mid_height_den t a F E least positive in
      cond_cases (λ (f : Fraction). 0 < f.den) (eqb support 1)
      (λ _. pm)
      (λ _. smaller_den (at_mid_height t a F E) (at_support a F m) pm (at_support_den a F m positive_m))

  unreduced_most : a ≤ 1000 → F ≤ 5000 → unreduced support t a F m E ≼ whole 25000000
  unfolding unreduced
  unreduced_most bearing strength =
      let middle = at_mid_height t a F E in
      let end = at_support a F m in
      let most = mid_height_most t a F E least bearing strength in
      cond_cases (λ (f : Fraction). f ≼ whole 25000000) (eqb support 1)
      (λ _. most)
      (λ _. ≼_trans (smaller middle end) middle (whole 25000000) (mid_height_den t a F E least positive) (smaller_left middle end) most)

module _ (w : StoreyWall) (passed : in_range w ≡ true) where
  pub resistance_den : (E : Fraction) → 0 < E.den → 0 < (exact_resistance w E).den
  unfolding exact_resistance
  resistance_den E positive =
      times_den (reduction w) (unreduced w.support w.thickness w.bearing w.strength (support_factor_of w) E) (omega arith)
      (unreduced_den w.support w.thickness w.bearing w.strength (support_factor_of w) E (omega (arith, in_ranges w passed))
      (factor_den w) positive)

  exact_most : (E : Fraction) → 0 < E.den → exact_resistance w E ≼ whole 25000000
  unfolding exact_resistance times
  exact_most E positive =
      let all = in_ranges w passed in
      times_mono (reduction w) (unreduced w.support w.thickness w.bearing w.strength (support_factor_of w) E)
      (whole 1) (whole 25000000) (omega (arith, fifths_most w))
      (unreduced_most w.support w.thickness w.bearing w.strength (support_factor_of w) E (omega arith) (factor_den w) positive
      (omega arith) (omega arith))

  pub resistance_most : resistance w ≤ 25000000
  unfolding resistance
  resistance_most =
      let E = whole (buckling_length w) in
      floor_most (exact_resistance w E) 25000000 (resistance_den E (omega arith)) (exact_most E (omega arith))
