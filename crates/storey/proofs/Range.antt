-- What a passed range test says of the record.
use Prim.Native.Nat.{ℕ, zero, suc, ◌≤◌, ◌<◌, ◌*◌}
use mathlib.Core.Bool.{Bool, true, false, cond, not, ◌&&◌, ◌||◌}
use mathlib.Core.List.{map}
use mathlib.Core.Path.{◌≡◌, refl}
use native.Mathlib.Omega.{arith}
use native.Mathlib.Nat.{mul-le-mul}
use borrow.Author.Tests.{lt-leb, eq-eqb, ne_eqb}
use lib.Dec.{eqb, leb, leb-zero}
use Rattle.basis.specs.Range.{within, AllWithin, AllBelow}
use Rattle.basis.proofs.Choice.{cond_cases, chain}
use Rattle.basis.proofs.Range.{within_all, chain_within}
use Rattle.storey.specs.declared.StoreyWall.{StoreyWall}
use Rattle.storey.specs.Record.{numbers}
use Rattle.storey.specs.Range.{ranges, in_range}

-- The test as the code writes it: from left to right, and the distance without a choice of its ends.

pub in_range_chain : (w : StoreyWall) → chain true (map within (ranges w)) ≡ in_range w
unfolding in_range
in_range_chain w = chain_within true (ranges w)

pub distance_chain : (two : Bool) (c : ℕ) →
    (leb (cond two 0 1) c && leb c (cond two 0 30000)) ≡ ((two && eqb c 0) || (not two && (leb 1 c && leb c 30000)))
distance_chain true zero = refl
distance_chain true (suc c) = rw (leb-zero, lt-leb (suc c) 0 (omega arith), ne_eqb (suc c) 0 (λ h. omega arith))
distance_chain false c = refl

module _ (w : StoreyWall) (passed : in_range w ≡ true) where
  -- Each number between the ends of its range.
  pub in_ranges : AllWithin (ranges w)
  unfolding in_range
  in_ranges = within_all (ranges w) passed

  -- Single bounds, for the search.

  pub thickness_least : 1 ≤ w.thickness
  thickness_least = omega (arith, in_ranges)

  pub thickness_most : w.thickness ≤ 1000
  thickness_most = omega (arith, in_ranges)

  pub height_most : w.height ≤ 20000
  height_most = omega (arith, in_ranges)

  pub span_most : w.span ≤ 20000
  span_most = omega (arith, in_ranges)

  pub other_span_most : w.otherspan ≤ 20000
  other_span_most = omega (arith, in_ranges)

  pub bearing_most : w.bearing ≤ w.thickness
  bearing_most = omega (arith, in_ranges)

  pub strength_most : w.strength ≤ 5000
  strength_most = omega (arith, in_ranges)

  pub dead_most : w.dead ≤ 10000000
  dead_most = omega (arith, in_ranges)

  pub imposed_most : w.imposed ≤ 10000000
  imposed_most = omega (arith, in_ranges)

  -- Held on more than two sides, the distance is 1..30000.
  pub distance_bounds : eqb w.held 2 ≡ false → (1 ≤ w.distance) × (w.distance ≤ 30000)
  distance_bounds further =
      let all = in_ranges in
      let low : cond (eqb w.held 2) 0 1 ≤ w.distance = omega arith in
      let high : w.distance ≤ cond (eqb w.held 2) 0 30000 = omega arith in
      (rw further at low, rw further at high)

  pub distance_least : 2 < w.held → 1 ≤ w.distance
  distance_least further = (distance_bounds (ne_eqb w.held 2 (λ h. omega (arith, h, further)))).0

  pub distance_most : 2 < w.held → w.distance ≤ 30000
  distance_most further = (distance_bounds (ne_eqb w.held 2 (λ h. omega (arith, h, further)))).1

  -- Held on two sides, the distance is 0.
  pub no_distance : w.held ≡ 2 → w.distance ≡ 0
  no_distance two =
      let all = in_ranges in
      let high : w.distance ≤ cond (eqb w.held 2) 0 30000 = omega arith in
      let none : w.distance ≤ 0 = rw (eq-eqb w.held 2 two) at high in
      omega arith

  pub area_most : w.length * w.thickness ≤ 20000000
  area_most = let all = in_ranges in mul-le-mul {n₂ = 20000} {m₂ = 1000} (omega arith) (omega arith)

  -- Every number of a record in range is below 10^8, so it has at most 8 digits and is held by an f64.
  pub numbers_small : AllBelow 100000000 (numbers w)
  numbers_small =
      let all = in_ranges in
      let distance : cond (eqb w.held 2) 0 30000 ≤ 30000 = cond_cases (λ (n : ℕ). n ≤ 30000) (eqb w.held 2) (λ _. omega arith) (λ _. omega arith) in
      omega arith

pub ruleset bounds = (thickness_least, thickness_most, height_most, distance_least, distance_most, span_most, other_span_most, bearing_most, strength_most, dead_most, imposed_most, area_most)
