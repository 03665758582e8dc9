-- Why two records decide. The argument in plain words: two records that are not refused agree but in the six numbers, so any two records between them do, with the
-- same h, a and c. L differs only where M is 0. So of two records between, the one with no greater G, Q, L, q and H and no lower F is no worse, and demand 3 holds of
-- them: where the worst is accepted so is every record between, and where one is accepted so is the best.
use Prim.Native.Nat.{ℕ, ◌≤◌}
use mathlib.Core.Bool.{true}
use mathlib.Core.List.{List, [], ◌∷◌}
use mathlib.Core.Logic.{◌⊎◌, inl, inr}
use mathlib.Core.Path.{◌≡◌, refl, subst}
use native.Mathlib.Omega.{arith}
use Rattle.basis.specs.Refusal.{NoneApplies}
use Rattle.basis.specs.Result.{Accepted}
use Rattle.basis.proofs.Range.{all_within_lem}
use Rattle.storey.specs.declared.StoreyWall.{StoreyWall}
use Rattle.storey.specs.Record.{numbers}
use Rattle.storey.specs.Range.{ranges, in_range}
use Rattle.storey.specs.Comparison.{ComparableSpans, with_eight_of, NoWorse}
use Rattle.storey.specs.Check as StoreyCheck
use Rattle.storey.proofs.Range.{in_ranges}
use Rattle.walls.proofs.Comparison.{storey_comparison}
use Rattle.early_design.specs.Between.{Between}
use Rattle.early_design.specs.Check.{with_six_of, refusals}
use Rattle.early_design.specs.WorstAndBest.{worst_of, best_of}
use Rattle.early_design.specs.Claims.{LowAndHigh, BetweenInRange, TwoRecordsDecide}
use Rattle.early_design.proofs.Between.{between_itself}
use Rattle.early_design.proofs.Check.{not_refused_exactly}

-- Equal lists, number by number.
abbrev AllSame : List ℕ → List ℕ → Type 0
AllSame [] [] = Unit {0}
AllSame [] (m ∷ ms) = ⊥
AllSame (n ∷ ns) [] = ⊥
AllSame (n ∷ ns) (m ∷ ms) = (n ≡ m) × AllSame ns ms

all_same_itself : (ns : List ℕ) → AllSame ns ns
all_same_itself [] = tt
all_same_itself (n ∷ ns) = (refl, all_same_itself ns)

-- What the second has that is no worse than the first, of the six.
record SixNoWorse (first second : StoreyWall) : Type 0 where
  pub dead : second.dead ≤ first.dead
  pub imposed : second.imposed ≤ first.imposed
  pub strength : first.strength ≤ second.strength
  pub span : second.span ≤ first.span
  pub floorload : second.floorload ≤ first.floorload
  pub building : second.building ≤ first.building

module _ (low high : StoreyWall) (none : NoneApplies (refusals low high)) where
  low_passed : in_range low ≡ true
  low_passed = ((not_refused_exactly low high).0 none).0

  high_passed : in_range high ≡ true
  high_passed = ((not_refused_exactly low high).0 none).1

  pair : LowAndHigh low high
  pair = ((not_refused_exactly low high).0 none).2

  others : AllSame (numbers (with_six_of high low)) (numbers high)
  others = subst (λ (w : StoreyWall). AllSame (numbers (with_six_of high low)) (numbers w)) pair.all_else (all_same_itself (numbers (with_six_of high low)))

  -- A record between has the low one's numbers but for the six.
  low_but_six : (wall : StoreyWall) → Between low high wall → with_six_of wall low ≡ wall
  low_but_six wall between = between_itself (with_six_of wall low) wall (omega (arith, others, between))

  between_passed : (wall : StoreyWall) → Between low high wall → in_range wall ≡ true
  unfolding in_range
  between_passed wall between =
      let from = in_ranges low low_passed in
      let to = in_ranges high high_passed in
      subst (λ (w : StoreyWall). in_range w ≡ true) (low_but_six wall between) (all_within_lem (ranges (with_six_of wall low)) (omega (arith, between)))

  comparable_spans : (first second : StoreyWall) → Between low high first → Between low high second → (low.otherspan ≡ 0) ⊎ (low.span ≡ high.span) →
      ComparableSpans first.span second.span first.otherspan
  comparable_spans first second between between' (inl one_way) = inr (inl (omega (arith, others, between, one_way)))
  comparable_spans first second between between' (inr same) = inl (omega (arith, between, between', same))

  no_worse : (first second : StoreyWall) → Between low high first → Between low high second → SixNoWorse first second → NoWorse first second
  no_worse first second between between' order =
      record {
        dead = order.dead;
        imposed = order.imposed;
        floorload = order.floorload;
        span = order.span;
        building = order.building;
        height = omega (arith, others, between, between');
        strength = order.strength;
        bearing = omega (arith, others, between, between');
        all_else = between_itself (with_eight_of second first) second (omega (arith, others, between, between'));
        spans = comparable_spans first second between between' pair.two_way;
        three_sides = λ _ _. (omega (arith, others, between, between'), omega (arith, others, between, between'));
      }

  -- Demand 3, for two records between.
  kept : (first second : StoreyWall) → Between low high first → Between low high second → SixNoWorse first second →
      Accepted (StoreyCheck.check first) → Accepted (StoreyCheck.check second)
  kept first second between between' order accepted =
      (storey_comparison first second (between_passed first between) (between_passed second between') (no_worse first second between between' order) accepted).0

  worst_between : Between low high (worst_of low high)
  worst_between = omega (arith, others, pair)

  best_between : Between low high (best_of low high)
  best_between = omega (arith, others, pair)

  worst_is_worst : (wall : StoreyWall) → Between low high wall → Accepted (StoreyCheck.check (worst_of low high)) → Accepted (StoreyCheck.check wall)
  worst_is_worst wall between = kept (worst_of low high) wall worst_between between (omega (arith, between))

  best_is_best : (wall : StoreyWall) → Between low high wall → Accepted (StoreyCheck.check wall) → Accepted (StoreyCheck.check (best_of low high))
  best_is_best wall between = kept wall (best_of low high) between best_between (omega (arith, between))

pub between_in_range : BetweenInRange
between_in_range low high wall none = between_passed low high none wall

pub two_records_decide : TwoRecordsDecide
two_records_decide low high none = (
  worst_between low high none,
  best_between low high none,
  (
    (λ every. every (worst_of low high) (worst_between low high none)),
    (λ accepted wall between. worst_is_worst low high none wall between accepted),
  ),
  (
    (λ not_one. not_one (best_of low high) (best_between low high none)),
    (λ refused wall between accepted. refused (best_is_best low high none wall between accepted)),
  ),
)
