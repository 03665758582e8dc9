-- Demand 3. The argument in plain words.
--
-- Storey. A record is accepted exactly when it is in range, within every limit, and its load is at most its resistance.
-- A deeper bearing never raises the factor r, and r times a lower clear height is no greater: so the exact buckling length never grows.
-- On two sides it is proportional to that product. On four sides it grows with it up to h = c and stays at most 5c beyond.
-- On three sides it grows with the product only up to h = 3c; beyond that a lower wall can have the longer length, hence the clause.
-- A shorter L never lengthens the governing span. Nor does it lengthen the span in m as long as both records take the same part of the governing
-- one; a shorter L can lose the reduction to 0.85 of it, hence the clause on L.
-- A shorter length, a deeper bearing, a greater strength and a shorter span in m each never lower the resistance.
-- Lighter loads never raise the load: each formula grows with G and Q, and where q falls to 3000 or below, the smaller of both takes the place of 1.35G + 1.5Q;
-- and rounding to the nearest never turns the order of two loads round.
-- Each limit compares one of these quantities, or the length, with a bound that both records share, but for the height limit, which can only rise:
-- a calcium silicate wall's is never below document 01's and never falls as the strength grows, and a bearing over the whole thickness stays so.
-- So whatever the first keeps, the second keeps.
--
-- Cellar. Resistance, required load and limits do not look at G and Q. The load grows with both, so the high end bounds it by the resistance;
-- the required load is reached by the low end's G, which is the least.
use mathlib.Core.Bool.{true}
use Prim.Native.Nat.{ℕ, ◌≤◌}
use mathlib.Core.Logic.{inl}
use mathlib.Core.Path.{◌≡◌, refl, ap}
use native.Mathlib.Nat.{le_refl, le_trans}
use native.Mathlib.Omega.{arith}
use Rattle.basis.specs.Refusal.{NoneApplies}
use Rattle.basis.specs.declared.CheckResult.{CheckResult}
use Rattle.basis.proofs.Check.{reported_numbers}
use Rattle.storey.specs.declared.StoreyWall.{StoreyWall}
use Rattle.storey.specs.Limits.{limits}
use Rattle.storey.specs.Range.{in_range}
use Rattle.storey.specs.Resistance.{resistance}
use Rattle.storey.specs.Record.{with_dead, with_imposed, with_floor_load, with_strength}
use Rattle.storey.specs.Comparison.{NoWorse}
use Rattle.storey.specs.Check.{parts, check}
use Rattle.storey.proofs.Claims as StoreyClaims
use Rattle.storey.proofs.Comparison as StoreyLaws
use Rattle.cellar.proofs.Claims as CellarClaims
use Rattle.cellar.proofs.Comparison as CellarLaws
use Rattle.walls.specs.Comparison.{StoreyComparison, CellarComparison}

-- The reported resistance of a record within the ranges and every limit.
reported : (w : StoreyWall) → in_range w ≡ true → NoneApplies (limits w) → (check w).resistance ≡ resistance w
reported w passed none = ap (λ (result : CheckResult). result.resistance) (reported_numbers (parts w) passed none)

-- A record that differs in its loads and its strength alone, no load greater and the strength no lower, is no worse;
no_worse_with : (w : StoreyWall) (G Q q F : ℕ) → G ≤ w.dead → Q ≤ w.imposed → q ≤ w.floorload → w.strength ≤ F →
    NoWorse w (with_strength (with_floor_load (with_imposed (with_dead w G) Q) q) F)
no_worse_with w G Q q F dead imposed floorload strength =
    record {
      dead = dead;
      imposed = imposed;
      floorload = floorload;
      span = omega arith;
      building = omega arith;
      height = omega arith;
      strength = strength;
      bearing = omega arith;
      all_else = refl;
      spans = inl refl;
      three_sides = λ _ _. (refl, refl);
    }

-- .. so is one that differs in its loads alone,
pub lighter_no_worse : (w : StoreyWall) (G Q q : ℕ) → G ≤ w.dead → Q ≤ w.imposed → q ≤ w.floorload →
    NoWorse w (with_floor_load (with_imposed (with_dead w G) Q) q)
lighter_no_worse w G Q q dead imposed floorload = no_worse_with w G Q q w.strength dead imposed floorload (le_refl w.strength)

-- .. and one that differs in its strength alone.
pub stronger_no_worse : (w : StoreyWall) (F : ℕ) → w.strength ≤ F → NoWorse w (with_strength w F)
stronger_no_worse w F strength = no_worse_with w w.dead w.imposed w.floorload F (le_refl w.dead) (le_refl w.imposed) (le_refl w.floorload) strength

pub storey_comparison : StoreyComparison
storey_comparison first second passed passed' pair accepted =
    let kept = (StoreyClaims.accepted_exactly first).0 accepted in
    let limits = StoreyLaws.limits_kept first second pair passed passed' kept.1 in
    let lighter = StoreyLaws.load_falls first second pair passed passed' in
    let stronger = StoreyLaws.resistance_grows first second pair passed passed' in (
      (StoreyClaims.accepted_exactly second).1 (passed', limits, le_trans lighter (le_trans kept.2 stronger)),
      rw (reported first passed kept.1, reported second passed' limits) stronger,
    )

pub cellar_comparison : CellarComparison
cellar_comparison low high wall accepted_low accepted_high between =
    let from = (CellarClaims.accepted_exactly low).0 accepted_low in
    let to = (CellarClaims.accepted_exactly high).0 accepted_high in
    let resistance = CellarLaws.resistance_same low high between.ends in
    let resistance' = CellarLaws.resistance_same low wall between.inside in
    let required = CellarLaws.required_load_same low wall between.inside in
    let heavier = CellarLaws.loads_between low high wall between in
    (CellarClaims.accepted_exactly wall).1 (
      CellarLaws.range_kept low wall between.inside high from.0 to.0 between.dead_from between.dead_to between.imposed_to,
      CellarLaws.limits_same low wall between.inside from.1,
      omega (arith, to.2),
      omega (arith, from.3, between.dead_from),
    )
