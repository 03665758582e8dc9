-- Proofs of the claims on the choice and the count.
use Prim.Native.Nat.{ℕ, zero, suc, ◌≤◌, ◌<◌}
use mathlib.Core.Bool.{Bool, true, false, true≢false}
use mathlib.Core.List.{List, [], ◌∷◌}
use mathlib.Core.Path.{◌≡◌, ◌∙◌, refl, sym, ap, subst}
use native.Mathlib.Omega.{arith}
use native.Mathlib.Decide.{dec_lt}
use lib.ListN.{length}
use borrow.Author.Tests.{ltb-true, ltb-false, lt-ltb, le-ltb, eqb-true, eq-eqb}
use Rattle.std.proofs.Common.{Option, Some, None}
use Rattle.basis.specs.Refusal.{NoneApplies}
use Rattle.basis.proofs.FirstRefusal.{first_or_none}
use Rattle.walls.specs.declared.Wall.{Wall}
use Rattle.selection.specs.declared.Block.{Block}
use Rattle.selection.specs.declared.Choice.{Choice}
use Rattle.selection.specs.declared.Placed.{Placed}
use Rattle.selection.specs.Choice.{accepted, price_competes, better, is_checked, before_best, checked_count, chosen, refused, refusals, choice}
use Rattle.selection.specs.Claims.{Accepts, NoneAccepted, Cheapest, ChosenExactly, OnePlace, RefusedAs27Exactly, LengthCountedWith27, CheckedExactly, CountWithinList, AllCheckedWhereNoneAccepted}
use Rattle.selection.proofs.Refusals.{by_refusals}
use Rattle.selection.proofs.Places.{at_within, each_accepted, all_accepted}
use Rattle.selection.proofs.BestSoFar.{BestOf, BestAt, NonePasses, best_of_list, best_found, none_found, none_checked, checked_most, first_checked}

-- ---- a test and what it says

accepts : (wall : Wall) (block : Block) → accepted wall block ≡ true → Accepts wall block
unfolding accepted
accepts wall block is = eqb-true _ 0 is

is_accepted : (wall : Wall) (block : Block) → Accepts wall block → accepted wall block ≡ true
unfolding accepted
is_accepted wall block is = eq-eqb _ 0 is

refuses : (wall : Wall) (block : Block) → (Accepts wall block → ⊥) → accepted wall block ≡ false
refuses wall block none = go (accepted wall block) refl
  where
    go : (b : Bool) → accepted wall block ≡ b → b ≡ false
    go true is = absurd (none (accepts wall block is))
    go false isnt = refl

costs_less : (block other : Block) → better block other ≡ true → block.price < other.price
unfolding better price_competes
costs_less block other is = ltb-true block.price other.price is

costs_no_less : (block other : Block) → better block other ≡ false → other.price ≤ block.price
unfolding better price_competes
costs_no_less block other isnt = ltb-false block.price other.price isnt

-- ---- the cheapest block is the one that stands

cheapest : {wall : Wall} {blocks : List Block} {placed : Placed} → BestAt wall blocks placed → Cheapest wall blocks placed.place
cheapest {wall} {blocks} {placed} best_at =
    record {
      block = placed.block;
      at = best_at.at;
      accepted = accepts wall placed.block best_at.is_accepted;
      none_costs_less = λ k other at is. costs_no_less other placed.block (best_at.none_better k other at (is_accepted wall other is));
      none_earlier = λ k other at is before. costs_less placed.block other (best_at.better_than_earlier k other at (is_accepted wall other is) before);
    }

best_at : {wall : Wall} {blocks : List Block} {place : ℕ} (c : Cheapest wall blocks place) → BestAt wall blocks (record { place = place; block = c.block })
unfolding better price_competes
best_at {wall} {blocks} {place} c =
    record {
      at = c.at;
      is_accepted = is_accepted wall c.block c.accepted;
      none_better = λ k other at is. le-ltb other.price c.block.price (c.none_costs_less k other at (accepts wall other is));
      better_than_earlier = λ k other at is before. lt-ltb c.block.price other.price (c.none_earlier k other at (accepts wall other is) before);
    }

none_passes : (wall : Wall) (blocks : List Block) → NoneAccepted wall blocks → NonePasses wall blocks
none_passes wall blocks none k other at = refuses wall other (none k other at)

none_accepted : (wall : Wall) (blocks : List Block) → NonePasses wall blocks → NoneAccepted wall blocks
none_accepted wall blocks none k other at is = true≢false (sym (is_accepted wall other is) ∙ none k other at)

pub one_place : OnePlace
one_place wall blocks place place' c c' = go (dec_lt place place') (dec_lt place' place)
  where
    go : Dec (place < place') → Dec (place' < place) → place ≡ place'
    go (yes less) other =
        absurd (let no· : ⊥ = omega (arith, c'.none_earlier place c.block c.at c.accepted less, c.none_costs_less place' c'.block c'.at c'.accepted) in no·)
    go (no not_less) (yes greater) =
        absurd (let no· : ⊥ = omega (arith, c.none_earlier place' c'.block c'.at c'.accepted greater, c'.none_costs_less place c.block c.at c.accepted) in no·)
    go (no not_less) (no not_greater) = omega arith

-- ---- what is answered, where no refusal comes before it

answered : (wall : Wall) (blocks : List Block) → NoneApplies (refusals wall blocks) →
    choice wall blocks ≡ chosen (before_best wall blocks) (checked_count wall blocks) (length blocks)
answered wall blocks none = first_or_none refused (refusals wall blocks) none

chosen_at : {wall : Wall} {blocks : List Block} {place : ℕ} → Cheapest wall blocks place →
    chosen (before_best wall blocks) (checked_count wall blocks) (length blocks) ≡ record { refusal = 0; place = place; checked = checked_count wall blocks }
chosen_at {wall} {blocks} {place = zero} c = absurd (let no· : ⊥ = omega (arith, (at_within c.at).0) in no·)
chosen_at {wall} {blocks} {place = suc before} c =
    rw (best_found (best_at c) before refl) (ap (λ (k : ℕ). record { refusal = 0; place = k; checked = checked_count wall blocks }) (omega arith))

chosen_none : (wall : Wall) (blocks : List Block) → NonePasses wall blocks →
    chosen (before_best wall blocks) (checked_count wall blocks) (length blocks) ≡ record { refusal = 27; place = 0; checked = length blocks }
chosen_none wall blocks none = rw (none_found wall blocks none) refl

pub chosen_exactly : ChosenExactly
chosen_exactly wall blocks place checked = (
  by_refusals wall blocks (λ c. c ≡ record { refusal = 0; place = place; checked = checked } → NoneApplies (refusals wall blocks) × Cheapest wall blocks place × (checked ≡ checked_count wall blocks))
      (λ _ is. absurd (let no· : ⊥ = omega (arith, ap (λ (c : Choice). c.refusal) is) in no·))
      (λ _ _ is. absurd (let no· : ⊥ = omega (arith, ap (λ (c : Choice). c.refusal) is) in no·))
      (λ none is. let both = found (best_of_list wall blocks) is in (none, both.0, both.1)),
  (λ all. answered wall blocks all.0 ∙ chosen_at all.1 ∙ ap (λ (n : ℕ). record { refusal = 0; place = place; checked = n }) (sym all.2)),
)
  where
    found : (found : Option Placed) × BestOf wall blocks found →
        chosen (before_best wall blocks) (checked_count wall blocks) (length blocks) ≡ record { refusal = 0; place = place; checked = checked } →
        Cheapest wall blocks place × (checked ≡ checked_count wall blocks)
    found (None, none) is =
        absurd (let no· : ⊥ = omega (arith, ap (λ (c : Choice). c.refusal) (sym (chosen_none wall blocks none) ∙ is)) in no·)
    found (Some placed, best·) is =
        let same = sym (chosen_at (cheapest best·)) ∙ is in (
          subst (Cheapest wall blocks) (ap (λ (c : Choice). c.place) same) (cheapest best·),
          sym (ap (λ (c : Choice). c.checked) same),
        )

-- ---- 27

none_with_27 : (wall : Wall) (blocks : List Block) → (found : Option Placed) × BestOf wall blocks found →
    (chosen (before_best wall blocks) (checked_count wall blocks) (length blocks)).refusal ≡ 27 → NonePasses wall blocks
none_with_27 wall blocks (None, none) is = none
none_with_27 wall blocks (Some placed, best·) is =
    absurd (let no· : ⊥ = omega (arith, ap (λ (c : Choice). c.refusal) (sym (chosen_at (cheapest best·))) ∙ is) in no·)

none_passes_with_27 : (wall : Wall) (blocks : List Block) → (choice wall blocks).refusal ≡ 27 → NoneApplies (refusals wall blocks) × NonePasses wall blocks
none_passes_with_27 wall blocks =
    by_refusals wall blocks (λ c. c.refusal ≡ 27 → NoneApplies (refusals wall blocks) × NonePasses wall blocks)
    (λ _ is. absurd (let no· : ⊥ = omega (arith, is) in no·)) (λ _ _ is. absurd (let no· : ⊥ = omega (arith, is) in no·))
    (λ none is. (none, none_with_27 wall blocks (best_of_list wall blocks) is))

pub refused_as_27_exactly : RefusedAs27Exactly
refused_as_27_exactly wall blocks = (
  (λ is. let both = none_passes_with_27 wall blocks is in (both.0, none_accepted wall blocks both.1)),
  (λ all. ap (λ (c : Choice). c.refusal) (answered wall blocks all.0 ∙ chosen_none wall blocks (none_passes wall blocks all.1))),
)

pub length_counted_with_27 : LengthCountedWith27
length_counted_with_27 wall blocks is =
    let both = none_passes_with_27 wall blocks is in answered wall blocks both.0 ∙ chosen_none wall blocks both.1

-- ---- the count

pub checked_exactly : CheckedExactly
unfolding is_checked price_competes
checked_exactly wall before block = (
  (λ all k other at is. ltb-true block.price other.price (each_accepted wall (λ o. price_competes block.price o.price) all at (is_accepted wall other is))),
  (λ each. all_accepted wall (λ o. price_competes block.price o.price) before
      (λ k other at is. lt-ltb block.price other.price (each k other at (accepts wall other is)))),
)

pub all_checked_where_none_accepted : AllCheckedWhereNoneAccepted
all_checked_where_none_accepted wall blocks none = none_checked wall [] blocks (none_passes wall blocks none)

pub count_within_list : CountWithinList
count_within_list wall [] = ((λ some. absurd (let no· : ⊥ = omega (arith, some) in no·)), checked_most wall [] [])
count_within_list wall (b ∷ blocks) = ((λ _. first_checked wall b blocks), checked_most wall [] (b ∷ blocks))
