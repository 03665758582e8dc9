-- Laws that compare two storey records: how each quantity of document 01 follows clear height, bearing depth, strength, span and loads.
-- The laws are over plain numbers; the last section puts them together for two records, the second no worse than the first.
use Prim.Native.Nat.{ℕ, ◌+◌, ◌-◌, ◌*◌, ◌≤◌, ◌<◌}
use mathlib.Core.Bool.{Bool, true, false, true≢false, cond, not, ◌&&◌, ◌||◌}
use mathlib.Core.Path.{◌≡◌, ◌∙◌, refl, sym, ap, ap₂, subst}
use native.Mathlib.Omega.{arith}
use native.Mathlib.Decide.{dec_le}
use native.Mathlib.Nat.{mul-le-mul, mul-le-mul_left, mul-le-mul_right, add-sub_of_le, lt_of_not-le, le_refl, le_of_lt, le_trans}
use borrow.Author.Tests.{leb-true, leb-false, le-leb, eqb-true, eq-eqb}
use lib.Dec.{leb, ltb, eqb}
use Rattle.basis.specs.Fraction.{Fraction, ◌÷◌, whole, ◌≼◌, times, minus}
use Rattle.basis.specs.Refusal.{NoneApplies}
use Rattle.basis.proofs.Choice.{cond_pair, cond_same, and_left, Implies, implies_and, implies_or, above_grows, below_falls}
use Rattle.basis.proofs.Fraction.{≼_refl, larger_mono, times_mono, minus_mono, minus_den, smaller_mono, ceil_mono, floor_mono}
use Rattle.basis.proofs.FirstRefusal.{EachImplies, done, ◌then◌, none_kept}
use Rattle.storey.specs.declared.StoreyWall.{StoreyWall}
use Rattle.storey.specs.Range.{in_range}
use Rattle.storey.specs.BucklingLength.{bearing_suffices, factor, two_sides, three_sides, four_sides, length_of, exact_length, buckling_length}
use Rattle.storey.specs.Span.{governing_span, support_span}
use Rattle.storey.specs.Resistance.{at_mid_height, support_factor, support_factor_of, at_support, reduction_fifths, reduction, unreduced, exact_resistance, resistance}
use Rattle.storey.specs.Load.{load}
use Rattle.storey.specs.Height.{NoLower, general_height, calcium_silicate_applies, height_limit}
use Rattle.storey.specs.Limits.{
  limits,
  too_thin,
  area_too_small,
  closely_held,
  unfit_for_use,
  too_high,
  floor_load_too_great,
  building_too_high,
  span_too_long,
  bearing_too_shallow,
  too_weak,
  too_slender,
}
use Rattle.storey.specs.Comparison.{with_eight_of, NoWorse}
use Rattle.storey.proofs.Range.{in_ranges, distance_bounds}
use Rattle.storey.proofs.Height.{no_lower_refl, above_falls, calcium_silicate_no_lower, calcium_silicate_grows}
use Rattle.storey.proofs.Load.{load_grows}
use Rattle.storey.proofs.BucklingLength.{thickness_factor_most, factor_most, sum_of_squares, held_further, exact_length_den}
use Rattle.storey.proofs.Span.{support_span_den, governing_falls, support_span_falls}
use Rattle.storey.proofs.Resistance.{factor_den, mid_height_den, at_support_den, resistance_den}

-- Factor: a deeper bearing never raises r

suffices_kept : (t a a' : ℕ) → a ≤ a' → a' ≤ t → bearing_suffices t a ≡ true → bearing_suffices t a' ≡ true
unfolding bearing_suffices
suffices_kept t a a' deeper within suffices =
    cond_same (λ (x x' : Bool). x ≡ true → x' ≡ true) (leb 240 t)
    (λ _ deep. le-leb 175 a' (omega (arith, leb-true 175 a deep)))
    (λ _ full. eq-eqb a' t (omega (arith, eqb-true a t full)))
    suffices

pub factor_falls : (t a a' : ℕ) → a ≤ a' → a' ≤ t → factor t a' ≤ factor t a
unfolding factor
factor_falls t a a' deeper within =
    cond_pair (λ r' r. r' ≤ r) (bearing_suffices t a') (bearing_suffices t a)
    (λ _ _. le_refl _)
    (λ _ _. thickness_factor_most t)
    (λ fails suffices. absurd (true≢false (sym (suffices_kept t a a' deeper within suffices) ∙ fails)))
    (λ _ _. le_refl 20)

-- Buckling length: it never grows when the clear height falls and the bearing deepens

-- n k/(m + k²) grows with k as long as the product of the two k is at most m: with l = k + d both sides differ by n d (m - k l).
curved_step : (n m k d : ℕ) → k * (k + d) ≤ m → ((n * k) ÷ (m + k * k)) ≼ ((n * (k + d)) ÷ (m + (k + d) * (k + d)))
curved_step n m k d small = omega (arith, mul-le-mul_left n (mul-le-mul_right d small))

curved_grows : (n m k l : ℕ) → k ≤ l → k * l ≤ m → ((n * k) ÷ (m + k * k)) ≼ ((n * l) ÷ (m + l * l))
curved_grows n m k l less small =
    subst (λ (x : ℕ). k * x ≤ m → ((n * k) ÷ (m + k * k)) ≼ ((n * x) ÷ (m + x * x))) (add-sub_of_le less) (curved_step n m k (l - k)) small

square_sum : (x d : ℕ) → 2 * x * (x + d) ≤ x * x + (x + d) * (x + d)
square_sum x d = omega arith

two_products : (x y : ℕ) → 2 * x * y ≤ x * x + y * y
two_products x y = go (dec_le x y)
  where
    go : Dec (x ≤ y) → 2 * x * y ≤ x * x + y * y
    go (yes less) = subst (λ (z : ℕ). 2 * x * z ≤ x * x + z * z) (add-sub_of_le less) (square_sum x (y - x))
    go (no more) =
        let less = le_of_lt (lt_of_not-le more) in
        omega (arith, subst (λ (z : ℕ). 2 * y * z ≤ y * y + z * z) (add-sub_of_le less) (square_sum y (x - y)))

-- 200c²k/(400c² + k²) is at most 5c, since 40ck is at most 400c² + k².
curved_most : (c k : ℕ) → ((200 * (c * c) * k) ÷ (400 * (c * c) + k * k)) ≼ whole (5 * c)
curved_most c k = omega (arith, mul-le-mul_left (5 * c) (two_products (20 * c) k))

three_sides_grow : (h' h c k' k : ℕ) → 1 ≤ c → h' ≤ h → k' ≤ k → k ≤ 60 * c → three_sides h' c k' ≼ three_sides h c k
unfolding three_sides
three_sides_grow h' h c k' k least lower less near =
    larger_mono ((1800 * (c * c) * k') ÷ (3600 * (c * c) + k' * k')) (whole (3 * h')) ((1800 * (c * c) * k) ÷ (3600 * (c * c) + k * k)) (whole (3 * h))
    (sum_of_squares 3600 c k (omega arith) least) (omega arith)
    (curved_grows (1800 * (c * c)) (3600 * (c * c)) k' k less (omega (arith, mul-le-mul {n₂ = 60 * c} {m₂ = 60 * c} (le_trans less near) near)))
    (omega arith)

four_sides_grow : (h' h c k' k : ℕ) → h' ≤ h → k' ≤ k → k ≤ 20 * h → four_sides h' c k' ≼ four_sides h c k
unfolding four_sides
four_sides_grow h' h c k' k lower less product =
    cond_pair (λ (f g : Fraction). f ≼ g) (leb h' c) (leb h c)
    (λ _ wide.
    let near : k ≤ 20 * c = omega (arith, leb-true h c wide) in
    curved_grows (200 * (c * c)) (400 * (c * c)) k' k less (omega (arith, mul-le-mul {n₂ = 20 * c} {m₂ = 20 * c} (le_trans less near) near)))
    (λ _ _. curved_most c k')
    (λ narrow' wide. absurd (let no· : ⊥ = omega (arith, leb-false h' c narrow', leb-true h c wide) in no·))
    (λ _ _. ≼_refl (whole (5 * c)))

-- On three sides: up to h = 3c the length falls with the height; a higher wall is compared only with itself.
three_sides_or_same : (h' h c k' k : ℕ) → 1 ≤ c → h' ≤ h → k' ≤ k → k ≤ 20 * h →
    (3 * c < h → (h ≡ h') × (k ≡ k')) → three_sides h' c k' ≼ three_sides h c k
three_sides_or_same h' h c k' k least lower less product agree = go (dec_le h (3 * c))
  where
    go : Dec (h ≤ 3 * c) → three_sides h' c k' ≼ three_sides h c k
    go (yes near) = three_sides_grow h' h c k' k least lower less (omega arith)
    go (no far) =
        let same = agree (lt_of_not-le far) in
        rw (same.0, same.1) (≼_refl (three_sides h' c k'))

-- The exact length, for any holding.
pub length_falls : (held t h' h c k' k : ℕ) → (eqb held 2 ≡ false → 1 ≤ c) → h' ≤ h → k' ≤ k → k ≤ 20 * h →
    (held ≡ 3 → 3 * c < h → (h ≡ h') × (k ≡ k')) → length_of held t h' c k' ≼ length_of held t h c k
unfolding length_of two_sides
length_falls held t h' h c k' k least lower less product agree =
    cond_same (λ (f g : Fraction). f ≼ g) (eqb held 3 && leb c (15 * t))
    (λ three.
    three_sides_or_same h' h c k' k (least (held_further held 3 (leb c (15 * t)) three refl)) lower less product
    (agree (eqb-true held 3 (and_left (eqb held 3) (leb c (15 * t)) three))))
    (λ _. cond_same (λ (f g : Fraction). f ≼ g) (eqb held 4 && leb c (30 * t))
    (λ _. four_sides_grow h' h c k' k lower less product)
    (λ _. omega arith))

-- Resistance: it never falls when the bearing deepens, the strength rises, and the buckling length and the span fall

mid_height_grows : (t a a' F F' : ℕ) (E E' : Fraction) → a ≤ a' → F ≤ F' → E' ≼ E → at_mid_height t a F E ≼ at_mid_height t a' F' E'
unfolding at_mid_height
mid_height_grows t a a' F F' E E' deeper stronger shorter =
    times_mono ((17 * F) ÷ (3000000 * t)) (minus (whole (850000 * a * t)) (times (whole 11) (times E E)))
    ((17 * F') ÷ (3000000 * t)) (minus (whole (850000 * a' * t)) (times (whole 11) (times E' E')))
    (mul-le-mul_right (3000000 * t) (mul-le-mul_left 17 stronger))
    (minus_mono (whole (850000 * a * t)) (times (whole 11) (times E E)) (whole (850000 * a' * t)) (times (whole 11) (times E' E'))
    (mul-le-mul_right 1 (mul-le-mul_right t (mul-le-mul_left 850000 deeper)))
    (times_mono (whole 11) (times E' E') (whole 11) (times E E) (≼_refl (whole 11)) (times_mono E' E' E E shorter shorter)))

support_factor_grows : (support : ℕ) (L L' : Fraction) → 0 < L.den → L' ≼ L → support_factor support L ≼ support_factor support L'
unfolding support_factor
support_factor_grows support L L' positive shorter =
    cond_same (λ (f g : Fraction). f ≼ g) (eqb support 2)
    (λ _. smaller_mono (whole 5400) (minus (whole 9600) L) (whole 5400) (minus (whole 9600) L')
    (omega arith) (minus_den (whole 9600) L (omega arith) positive) (≼_refl (whole 5400))
    (minus_mono (whole 9600) L (whole 9600) L' (≼_refl (whole 9600)) shorter))
    (λ _. ≼_refl (cond (eqb support 3) (whole 1998) (whole 5400)))

support_grows : (a a' F F' : ℕ) (m m' : Fraction) → m ≼ m' → a ≤ a' → F ≤ F' → at_support a F m ≼ at_support a' F' m'
unfolding at_support
support_grows a a' F F' m m' greater deeper stronger =
    times_mono ((17 * F * a) ÷ 18000) m ((17 * F' * a') ÷ 18000) m' (mul-le-mul_right 18000 (mul-le-mul (mul-le-mul_left 17 stronger) deeper)) greater

unreduced_grows : (support t a a' F F' : ℕ) (m m' E E' : Fraction) → 1 ≤ t → 0 < m.den → 0 < E.den → m ≼ m' → a ≤ a' → F ≤ F' → E' ≼ E →
    unreduced support t a F m E ≼ unreduced support t a' F' m' E'
unfolding unreduced
unreduced_grows support t a a' F F' m m' E E' least positive_m positive greater deeper stronger less =
    let middle = mid_height_grows t a a' F F' E E' deeper stronger less in
    cond_same (λ (f g : Fraction). f ≼ g) (eqb support 1)
    (λ _. middle)
    (λ _. smaller_mono (at_mid_height t a F E) (at_support a F m) (at_mid_height t a' F' E') (at_support a' F' m')
    (mid_height_den t a F E least positive) (at_support_den a F m positive_m) middle (support_grows a a' F F' m m' greater deeper stronger))

-- Two records, the second no worse than the first

-- All else being equal, the second record is the first with eight of its numbers changed: what is proved of that holds of the second.
module _ (first second : StoreyWall) (pair : NoWorse first second) (passed : in_range first ≡ true) (passed' : in_range second ≡ true) where
  abbrev changed : StoreyWall
  changed = with_eight_of second first

  changed_in_range : in_range changed ≡ true
  changed_in_range = ap in_range pair.all_else ∙ passed'

  exact_length_falls : exact_length changed ≼ exact_length first
  unfolding exact_length
  exact_length_falls =
      let t = first.thickness in
      let within = in_ranges changed changed_in_range in
      length_falls first.held t second.height first.height first.distance
      (factor t second.bearing * second.height) (factor t first.bearing * first.height)
      (λ further. (distance_bounds first passed further).0)
      pair.height
      (mul-le-mul (factor_falls t first.bearing second.bearing pair.bearing (omega arith)) pair.height)
      (mul-le-mul_right first.height (factor_most t first.bearing))
      (λ three far.
      let same = pair.three_sides three far in
      (same.0, ap₂ (λ (a h : ℕ). factor t a * h) same.1 same.0))

  length_kept : buckling_length changed ≤ buckling_length first
  unfolding buckling_length
  length_kept =
      ceil_mono (exact_length changed) (exact_length first) (exact_length_den changed changed_in_range) (exact_length_den first passed) exact_length_falls

  factor_grows : support_factor_of first ≼ support_factor_of changed
  factor_grows =
      let M = first.otherspan in
      support_factor_grows first.support (support_span first.span M) (support_span second.span M) (support_span_den first.span M)
      (support_span_falls second.span first.span M pair.span pair.spans)

  changed_resistance_grows : resistance first ≤ resistance changed
  unfolding resistance exact_resistance reduction_fifths
  changed_resistance_grows =
      let E = whole (buckling_length first) in
      let E' = whole (buckling_length changed) in
      let m = support_factor_of first in
      let m' = support_factor_of changed in
      let shorter : E' ≼ E = mul-le-mul_right 1 length_kept in
      floor_mono (exact_resistance first E) (exact_resistance changed E')
      (resistance_den first passed E (omega arith)) (resistance_den changed changed_in_range E' (omega arith))
      (times_mono (reduction first) (unreduced first.support first.thickness first.bearing first.strength m E)
      (reduction first) (unreduced first.support first.thickness second.bearing second.strength m' E') (≼_refl (reduction first))
      (unreduced_grows first.support first.thickness first.bearing second.bearing first.strength second.strength m m' E E'
      (omega (arith, in_ranges first passed)) (factor_den first) (omega arith) factor_grows pair.bearing pair.strength shorter))

  -- Each limit that the first keeps, the second keeps.

  -- A bearing that was the whole thickness stays so, and greater strength keeps #102's heights.
  calcium_silicate_kept : Implies (calcium_silicate_applies first) (calcium_silicate_applies changed)
  unfolding calcium_silicate_applies
  calcium_silicate_kept =
      let t = first.thickness in
      let a = first.bearing in
      let a' = second.bearing in
      let F = first.strength in
      let F' = second.strength in
      let mark = eqb first.calciumsilicate 1 in
      let within_wind = eqb first.usage 1 || leb first.wind 1250 in
      let within = in_ranges changed changed_in_range in
      implies_and (mark && eqb a t && leb 350 F) within_wind (mark && eqb a' t && leb 350 F') within_wind
      (implies_and (mark && eqb a t) (leb 350 F) (mark && eqb a' t) (leb 350 F')
      (implies_and mark (eqb a t) mark (eqb a' t) (λ is. is)
      (λ full. eq-eqb a' t (omega (arith, eqb-true a t full, pair.bearing))))
      (λ strong. le-leb 350 F' (omega (arith, leb-true 350 F strong, pair.strength))))
      (λ is. is)

  limit_kept : NoLower (height_limit first) (height_limit changed)
  unfolding height_limit
  limit_kept =
      let usage = first.usage in
      let t = first.thickness in
      cond_pair NoLower (calcium_silicate_applies first) (calcium_silicate_applies changed)
      (λ _ _. calcium_silicate_grows usage t first.strength second.strength pair.strength)
      (λ is isnt. absurd (true≢false (sym (calcium_silicate_kept is) ∙ isnt)))
      (λ _ _. calcium_silicate_no_lower usage t second.strength)
      (λ _ _. no_lower_refl (general_height usage t))

  high_kept : Implies (too_high changed) (too_high first)
  unfolding too_high
  high_kept = above_falls (height_limit first) (height_limit changed) first.height second.height limit_kept pair.height

  floor_load_kept : Implies (floor_load_too_great changed) (floor_load_too_great first)
  unfolding floor_load_too_great
  floor_load_kept =
      let q = first.floorload in
      let q' = second.floorload in
      let outer = not (eqb first.usage 1) in
      let thin = ltb first.thickness 175 in
      implies_or (ltb 5000 q') (ltb 3000 q' && outer && thin) (ltb 5000 q) (ltb 3000 q && outer && thin)
      (above_grows 5000 q' q pair.floorload)
      (implies_and (ltb 3000 q' && outer) thin (ltb 3000 q && outer) thin
      (implies_and (ltb 3000 q') outer (ltb 3000 q) outer (above_grows 3000 q' q pair.floorload) (λ is. is)) (λ is. is))

  span_kept : Implies (span_too_long changed) (span_too_long first)
  unfolding span_too_long
  span_kept =
      let governing = governing_span first.span first.otherspan in
      let governing' = governing_span second.span first.otherspan in
      implies_and (ltb 6000 governing') (not (eqb first.support 4)) (ltb 6000 governing) (not (eqb first.support 4))
      (above_grows 6000 governing' governing (governing_falls second.span first.span first.otherspan pair.span)) (λ is. is)

  bearing_kept : Implies (bearing_too_shallow changed) (bearing_too_shallow first)
  unfolding bearing_too_shallow
  bearing_kept =
      let t = first.thickness in
      let a = first.bearing in
      let a' = second.bearing in
      let special = eqb t 365 in
      implies_or (leb a' 100 || (special && ltb (20 * a') (9 * t))) (not special && ltb (2 * a') t)
      (leb a 100 || (special && ltb (20 * a) (9 * t))) (not special && ltb (2 * a) t)
      (implies_or (leb a' 100) (special && ltb (20 * a') (9 * t)) (leb a 100) (special && ltb (20 * a) (9 * t))
      (λ shallow. le-leb a 100 (omega (arith, leb-true a' 100 shallow, pair.bearing)))
      (implies_and special (ltb (20 * a') (9 * t)) special (ltb (20 * a) (9 * t)) (λ is. is)
      (below_falls (9 * t) (20 * a') (20 * a) (mul-le-mul_left 20 pair.bearing))))
      (implies_and (not special) (ltb (2 * a') t) (not special) (ltb (2 * a) t) (λ is. is)
      (below_falls t (2 * a') (2 * a) (mul-le-mul_left 2 pair.bearing)))

  each_kept : EachImplies (limits first) (limits changed)
  unfolding too_thin area_too_small closely_held unfit_for_use building_too_high too_weak too_slender
  each_kept =
      (λ is. is)
      then (λ is. is)
      then (λ is. is)
      then high_kept
      then floor_load_kept
      then above_grows 20000 second.building first.building pair.building
      then span_kept
      then bearing_kept
      then below_falls 180 second.strength first.strength pair.strength
      then above_grows (270 * first.thickness) (buckling_length changed) (buckling_length first) length_kept
      then done

  -- The laws for the second record itself.

  pub resistance_grows : resistance first ≤ resistance second
  resistance_grows = subst (λ (w : StoreyWall). resistance first ≤ resistance w) pair.all_else changed_resistance_grows

  pub limits_kept : NoneApplies (limits first) → NoneApplies (limits second)
  limits_kept none = subst (λ (w : StoreyWall). NoneApplies (limits w)) pair.all_else (none_kept each_kept none)

  pub load_falls : load second ≤ load first
  load_falls = load_grows second first pair.dead pair.imposed pair.floorload
