-- Laws of the cellar records between two: with other loads the limits, the resistance and the required load stay,
-- the load grows with G and Q, and a load between two in range is in range.
use Prim.Native.Nat.{◌≤◌}
use mathlib.Core.Bool.{true}
use mathlib.Core.Path.{◌≡◌, ◌∙◌, refl, subst, sym, ap}
use native.Mathlib.Omega.{arith}
use Rattle.basis.specs.Refusal.{NoneApplies}
use Rattle.basis.proofs.Range.{all_within_lem}
use Rattle.cellar.specs.declared.CellarWall.{CellarWall}
use Rattle.cellar.specs.Range.{ranges, in_range}
use Rattle.cellar.specs.RequiredLoad.{exact_required_load, required_load}
use Rattle.cellar.specs.Resistance.{exact_resistance, resistance}
use Rattle.cellar.specs.Load.{load}
use Rattle.cellar.specs.Limits.{limits}
use Rattle.cellar.specs.Comparison.{with_loads_of, SameButLoads, Between}
use Rattle.cellar.proofs.Range.{in_ranges}
use Rattle.cellar.proofs.Limits.{each_limit}
use Rattle.cellar.proofs.Load.{load_grows}

-- All else being equal, the other record is the one with the other's loads: what is proved of that holds of the other.
module _ (one other : CellarWall) (same : SameButLoads one other) where
  resistance_unchanged : resistance (with_loads_of other one) ≡ resistance one
  unfolding resistance exact_resistance
  resistance_unchanged = refl

  pub resistance_same : resistance other ≡ resistance one
  resistance_same = sym (ap resistance same) ∙ resistance_unchanged

  required_load_unchanged : required_load (with_loads_of other one) ≡ required_load one
  unfolding required_load exact_required_load
  required_load_unchanged = refl

  pub required_load_same : required_load other ≡ required_load one
  required_load_same = sym (ap required_load same) ∙ required_load_unchanged

  limits_unchanged : NoneApplies (limits one) → NoneApplies (limits (with_loads_of other one))
  unfolding each_limit
  limits_unchanged none = none

  pub limits_same : NoneApplies (limits one) → NoneApplies (limits other)
  limits_same none = subst (λ (w : CellarWall). NoneApplies (limits w)) same (limits_unchanged none)

  -- Loads from those of a record in range on, up to those of another.
  module _ (high : CellarWall) (passed : in_range one ≡ true) (passed_high : in_range high ≡ true) (dead_from : one.dead ≤ other.dead)
      (dead_to : other.dead ≤ high.dead) (imposed_to : other.imposed ≤ high.imposed) where
    range_unchanged : in_range (with_loads_of other one) ≡ true
    unfolding in_range
    range_unchanged =
        let all = in_ranges one passed in
        let all_high = in_ranges high passed_high in
        all_within_lem (ranges (with_loads_of other one)) (omega arith)

    pub range_kept : in_range other ≡ true
    range_kept = subst (λ (w : CellarWall). in_range w ≡ true) same range_unchanged

pub loads_between : (low high wall : CellarWall) → Between low high wall → load wall ≤ load high
loads_between low high wall between = load_grows wall high between.dead_to between.imposed_to
