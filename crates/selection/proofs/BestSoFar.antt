-- Laws of the best block and of the count: how both go on with one block more.
use Prim.Native.Nat.{ℕ, zero, suc, ◌+◌, ◌≤◌, ◌<◌}
use mathlib.Core.Bool.{Bool, true, false, true≢false, cond, not, ◌&&◌}
use mathlib.Core.List.{List, [], ◌∷◌, ◌++◌, append_assoc, append-nil}
use mathlib.Core.Logic.{◌⊎◌, inl, inr}
use mathlib.Core.Path.{◌≡◌, ◌∙◌, refl, sym, ap, subst}
use native.Mathlib.Omega.{arith}
use lib.ListN.{length}
use borrow.Author.Tests.{ltb-true, ltb-false, lt-ltb, le-ltb}
use Rattle.std.specs.List.{list_all}
use Rattle.std.proofs.Common.{Option, Some, None, MatchOption}
use Rattle.walls.specs.declared.Wall.{Wall}
use Rattle.selection.specs.declared.Block.{Block}
use Rattle.selection.specs.declared.Choice.{Choice}
use Rattle.selection.specs.declared.Placed.{Placed}
use Rattle.selection.specs.Choice.{accepted, accepted_blocks, price_competes, better, is_best, before_best, is_checked, checked_behind, checked_count, chosen}
use Rattle.selection.specs.Claims.{At}
use Rattle.selection.proofs.Places.{at_front, at_end, at_cases, at_within, first_place, no_place, each_accepted, all_accepted}

-- ---- the order of the blocks

-- No block is better than itself; and where one is better than another, and a third is not better than that other, the first is better than the third.
better_itself : (b : Block) → better b b ≡ false
unfolding better price_competes
better_itself b = le-ltb b.price b.price (omega arith)

better_than_others : (b old other : Block) → better b old ≡ true → better other old ≡ false → better b other ≡ true
unfolding better price_competes
better_than_others b old other is isnt = lt-ltb b.price other.price (omega (arith, ltb-true b.price old.price is, ltb-false other.price old.price isnt))

not_better : (b other : Block) → better b other ≡ true → better other b ≡ false
unfolding better price_competes
not_better b other is = le-ltb other.price b.price (omega (arith, ltb-true b.price other.price is))

-- A price that competes with that of the best so far is better, and competes with that of each other accepted block.
competing_better : (b old : Block) → price_competes b.price old.price ≡ true → better b old ≡ true
unfolding better
competing_better b old is = is

not_competing : (b old : Block) → price_competes b.price old.price ≡ false → better b old ≡ false
unfolding better
not_competing b old isnt = isnt

competes_with_others : (b old other : Block) → price_competes b.price old.price ≡ true → better other old ≡ false → price_competes b.price other.price ≡ true
unfolding better price_competes
competes_with_others b old other is isnt = lt-ltb b.price other.price (omega (arith, ltb-true b.price old.price is, ltb-false other.price old.price isnt))

-- ---- the best of some blocks

-- The block stands at the place, is accepted, no accepted block is better, and it is better than each accepted block before it.
pub record BestAt (wall : Wall) (blocks : List Block) (placed : Placed) : Type 0 where
  pub at : At blocks placed.place placed.block
  pub is_accepted : accepted wall placed.block ≡ true
  pub none_better : (k : ℕ) (other : Block) → At blocks k other → accepted wall other ≡ true → better other placed.block ≡ false
  pub better_than_earlier : (k : ℕ) (other : Block) → At blocks k other → accepted wall other ≡ true → k < placed.place → better placed.block other ≡ true

abbrev pub NonePasses : Wall → List Block → Type 0
NonePasses wall blocks = (k : ℕ) (other : Block) → At blocks k other → accepted wall other ≡ false

abbrev pub BestOf : Wall → List Block → Option Placed → Type 0
BestOf wall blocks None = NonePasses wall blocks
BestOf wall blocks (Some placed) = BestAt wall blocks placed

-- One block more that does not stand before what stood: it is not accepted, or not better.
module _ (wall : Wall) (blocks : List Block) (last : Block) where
  none_more : NonePasses wall blocks → accepted wall last ≡ false → NonePasses wall (blocks ++ last ∷ [])
  none_more none isnt k other at = go (at_cases blocks last at)
    where
      go : At blocks k other ⊎ ((k ≡ suc (length blocks)) × (other ≡ last)) → accepted wall other ≡ false
      go (inl before) = none k other before
      go (inr end) = subst (λ (b : Block). accepted wall b ≡ false) (sym end.1) isnt

  stays : (placed : Placed) → BestAt wall blocks placed → (accepted wall last ≡ true → better last placed.block ≡ false) → BestAt wall (blocks ++ last ∷ []) placed
  stays placed best_at no_better =
      record {
        at = at_front blocks (last ∷ []) best_at.at;
        is_accepted = best_at.is_accepted;
        none_better = λ k other at is. none_better other is (at_cases blocks last at);
        better_than_earlier = λ k other at is before. earlier other is before (at_cases blocks last at);
      }
    where
      none_better : {k : ℕ} (other : Block) → accepted wall other ≡ true → At blocks k other ⊎ ((k ≡ suc (length blocks)) × (other ≡ last)) → better other placed.block ≡ false
      none_better {k} other is (inl before) = best_at.none_better k other before is
      none_better other is (inr end) =
          subst (λ (b : Block). better b placed.block ≡ false) (sym end.1) (no_better (subst (λ (b : Block). accepted wall b ≡ true) end.1 is))

      earlier : {k : ℕ} (other : Block) → accepted wall other ≡ true → k < placed.place → At blocks k other ⊎ ((k ≡ suc (length blocks)) × (other ≡ last)) →
          better placed.block other ≡ true
      earlier {k} other is before (inl at) = best_at.better_than_earlier k other at is before
      earlier other is before (inr end) = absurd (let no· : ⊥ = omega (arith, before, end.0, (at_within best_at.at).1) in no·)

  -- One block more that is accepted, and better than each accepted block before it.
  replaces : (place : ℕ) → place ≡ suc (length blocks) → accepted wall last ≡ true →
      ((k : ℕ) (other : Block) → At blocks k other → accepted wall other ≡ true → better last other ≡ true) →
      BestAt wall (blocks ++ last ∷ []) (record { place = place; block = last })
  replaces place end is better_than_each =
      record {
        at = rw end (at_end blocks last);
        is_accepted = is;
        none_better = λ k other at other_is. none_better other other_is (at_cases blocks last at);
        better_than_earlier = λ k other at other_is before. earlier other other_is before (at_cases blocks last at);
      }
    where
      none_better : {k : ℕ} (other : Block) → accepted wall other ≡ true → At blocks k other ⊎ ((k ≡ suc (length blocks)) × (other ≡ last)) → better other last ≡ false
      none_better {k} other other_is (inl before) = not_better last other (better_than_each k other before other_is)
      none_better other other_is (inr same) = subst (λ (b : Block). better b last ≡ false) (sym same.1) (better_itself last)

      earlier : {k : ℕ} (other : Block) → accepted wall other ≡ true → k < place → At blocks k other ⊎ ((k ≡ suc (length blocks)) × (other ≡ last)) →
          better last other ≡ true
      earlier {k} other other_is before (inl at) = better_than_each k other at other_is
      earlier other other_is before (inr same) = absurd (let no· : ⊥ = omega (arith, before, same.0, end) in no·)

-- ---- the count

-- One block more is counted if it is checked.
checked_more : (wall : Wall) (before blocks : List Block) (last : Block) →
    checked_behind wall before (blocks ++ last ∷ []) ≡ checked_behind wall before blocks + cond (is_checked wall (before ++ blocks) last) 1 0
unfolding checked_behind
checked_more wall before [] last = rw append-nil (omega arith)
checked_more wall before (b ∷ blocks) last =
    rw (checked_more wall (before ++ b ∷ []) blocks last, append_assoc before (b ∷ []) blocks) (omega arith)

-- How many are checked is at most the length, and all of it where none before is accepted.
pub checked_most : (wall : Wall) (before blocks : List Block) → checked_behind wall before blocks ≤ length blocks
unfolding checked_behind
checked_most wall before [] = omega arith
checked_most wall before (b ∷ blocks) = go (is_checked wall before b) (checked_most wall (before ++ b ∷ []) blocks)
  where
    go : (p : Bool) → checked_behind wall (before ++ b ∷ []) blocks ≤ length blocks →
        cond p 1 0 + checked_behind wall (before ++ b ∷ []) blocks ≤ suc (length blocks)
    go true most = omega arith
    go false most = omega arith

-- The first block has none before it, and is checked.
pub first_checked : (wall : Wall) (b : Block) (blocks : List Block) → 1 ≤ checked_count wall (b ∷ blocks)
unfolding checked_behind is_checked
first_checked wall b blocks = omega arith

-- ---- one turn of the loop: what `competes` says of the block that comes next

abbrev pub Competes : Block → Option Placed → Bool → Type 0
Competes b best answer = MatchOption best (answer ≡ true) (λ placed. answer ≡ price_competes b.price placed.block.price)

module _ (wall : Wall) (blocks : List Block) (last : Block) where
  -- It is checked exactly if it competes.
  competing_checked : (best : Option Placed) (answer : Bool) → BestOf wall blocks best → Competes last best answer → is_checked wall blocks last ≡ answer
  unfolding is_checked
  competing_checked None answer none is =
      all_accepted wall (λ other. price_competes last.price other.price) blocks
      (λ k other at accepted·. absurd (true≢false (sym accepted· ∙ none k other at)))
      ∙ sym is
  competing_checked (Some placed) true best_at is =
      all_accepted wall (λ other. price_competes last.price other.price) blocks
      (λ k other at accepted·. competes_with_others last placed.block other (sym is) (best_at.none_better k other at accepted·))
  competing_checked (Some placed) false best_at is = go (list_all (λ other. price_competes last.price other.price) (accepted_blocks wall blocks)) refl
    where
      go : (all : Bool) → list_all (λ other. price_competes last.price other.price) (accepted_blocks wall blocks) ≡ all → all ≡ false
      go true all = sym (each_accepted wall (λ other. price_competes last.price other.price) all best_at.at best_at.is_accepted) ∙ sym is
      go false all = refl

  -- One that is not checked changes nothing;
  unchecked_goes_on : (best : Option Placed) → BestOf wall blocks best → Competes last best false → BestOf wall (blocks ++ last ∷ []) best
  unchecked_goes_on None none is = absurd (true≢false (sym is))
  unchecked_goes_on (Some placed) best_at is = stays wall blocks last placed best_at (λ _. not_competing last placed.block (sym is))

  -- .. nor does one that is checked and not accepted;
  refused_goes_on : (best : Option Placed) → BestOf wall blocks best → accepted wall last ≡ false → BestOf wall (blocks ++ last ∷ []) best
  refused_goes_on None none isnt = none_more wall blocks last none isnt
  refused_goes_on (Some placed) best_at isnt =
      stays wall blocks last placed best_at (λ accepted·. absurd (true≢false (sym accepted· ∙ isnt)))

  -- .. one that is checked and accepted is the best.
  accepted_goes_on : (best : Option Placed) (place : ℕ) → BestOf wall blocks best → Competes last best true → accepted wall last ≡ true →
      place ≡ suc (length blocks) → BestOf wall (blocks ++ last ∷ []) (Some (record { place = place; block = last }))
  accepted_goes_on None place none is accepted· end =
      replaces wall blocks last place end accepted· (λ k other at other_is. absurd (true≢false (sym other_is ∙ none k other at)))
  accepted_goes_on (Some placed) place best_at is accepted· end =
      replaces wall blocks last place end accepted·
      (λ k other at other_is. better_than_others last placed.block other (competing_better last placed.block (sym is)) (best_at.none_better k other at other_is))

-- The best of the blocks so far, and how many of them were checked.
pub record SoFar (wall : Wall) (blocks : List Block) (best : Option Placed) (checked : ℕ) : Type 0 where
  pub best_of : BestOf wall blocks best
  pub counted : checked ≡ checked_count wall blocks

module _ {wall : Wall} {blocks : List Block} {best : Option Placed} {checked : ℕ} (so_far : SoFar wall blocks best checked) (last : Block) where
  counted_more : (answer : Bool) → Competes last best answer → checked + cond answer 1 0 ≡ checked_count wall (blocks ++ last ∷ [])
  counted_more answer is =
      rw (checked_more wall [] blocks last, competing_checked wall blocks last best answer so_far.best_of is, so_far.counted) refl

  pub unchecked_turn : Competes last best false → SoFar wall (blocks ++ last ∷ []) best checked
  unchecked_turn is =
      record {
        best_of = unchecked_goes_on wall blocks last best so_far.best_of is;
        counted = omega (arith, counted_more false is);
      }

  pub refused_turn : Competes last best true → false ≡ accepted wall last → SoFar wall (blocks ++ last ∷ []) best (checked + 1)
  refused_turn is isnt =
      record { best_of = refused_goes_on wall blocks last best so_far.best_of (sym isnt); counted = counted_more true is }

  pub accepted_turn : (place : ℕ) → Competes last best true → true ≡ accepted wall last → place ≡ suc (length blocks) →
      SoFar wall (blocks ++ last ∷ []) (Some (record { place = place; block = last })) (checked + 1)
  accepted_turn place is accepted· end =
      record {
        best_of = accepted_goes_on wall blocks last best place so_far.best_of is (sym accepted·) end;
        counted = counted_more true is;
      }

pub counted_most : {wall : Wall} {blocks : List Block} {best : Option Placed} {checked : ℕ} → SoFar wall blocks best checked → checked ≤ length blocks
counted_most {wall} {blocks} so_far = omega (arith, so_far.counted, checked_most wall [] blocks)

-- ---- what the loop answers

-- Where the best block stands, `before_best` tells how many stand before it.
module _ {wall : Wall} {blocks : List Block} {placed : Placed} (best_at : BestAt wall blocks placed) where
  passes_best : is_best wall blocks placed.block ≡ true
  unfolding is_best
  passes_best =
      rw best_at.is_accepted
      (all_accepted wall (λ other. not (better other placed.block)) blocks (λ k other at is. ap not (best_at.none_better k other at is)))

  not_best_before : (k : ℕ) (other : Block) → At blocks k other → k < placed.place → is_best wall blocks other ≡ false
  unfolding is_best
  not_best_before k other at before = go (accepted wall other) refl
    where
      go : (b : Bool) → accepted wall other ≡ b → (b && list_all (λ o. not (better o other)) (accepted_blocks wall blocks)) ≡ false
      go true is = another_better (list_all (λ o. not (better o other)) (accepted_blocks wall blocks)) refl
        where
          another_better : (all : Bool) → list_all (λ o. not (better o other)) (accepted_blocks wall blocks) ≡ all → all ≡ false
          another_better true all =
              sym (each_accepted wall (λ o. not (better o other)) all best_at.at best_at.is_accepted)
              ∙ ap not (best_at.better_than_earlier k other at is before)
          another_better false all = refl
      go false isnt = refl

  -- As many blocks stand before it as `before_best` says.
  pub best_found : (before : ℕ) → suc before ≡ placed.place → before_best wall blocks ≡ Some before
  unfolding before_best
  best_found before is =
      first_place (is_best wall blocks) before (subst (λ (k : ℕ). At blocks k placed.block) (sym is) best_at.at) passes_best
      (λ k other at less. not_best_before k other at (omega (arith, less, is)))

pub none_found : (wall : Wall) (blocks : List Block) → NonePasses wall blocks → before_best wall blocks ≡ None
unfolding before_best is_best
none_found wall blocks none = no_place (is_best wall blocks) blocks (λ k other at. rw (none k other at) refl)

-- So with none accepted all are checked.
pub none_checked : (wall : Wall) (before blocks : List Block) → NonePasses wall (before ++ blocks) → checked_behind wall before blocks ≡ length blocks
unfolding checked_behind is_checked
none_checked wall before [] none = refl
none_checked wall before (b ∷ blocks) none =
    rw (
      all_accepted wall (λ other. price_competes b.price other.price) before
          (λ k other at is. absurd (true≢false (sym is ∙ none k other (at_front before (b ∷ blocks) at)))),
      none_checked wall (before ++ b ∷ []) blocks (subst (NonePasses wall) (sym (append_assoc before (b ∷ []) blocks)) none),
    ) (omega arith)

-- ---- what is answered behind the loop

pub chosen_so_far : {wall : Wall} {blocks : List Block} {placed : Placed} {checked : ℕ} → SoFar wall blocks (Some placed) checked →
    ◌≡◌ {A = Choice} (record { refusal = 0; place = placed.place; checked = checked })
    (chosen (before_best wall blocks) (checked_count wall blocks) (length blocks))
chosen_so_far {wall} {blocks} {placed} {checked} so_far = go placed.place refl (at_within so_far.best_of.at)
  where
    go : (place : ℕ) → placed.place ≡ place → (1 ≤ placed.place) × (placed.place ≤ length blocks) →
        ◌≡◌ {A = Choice} (record { refusal = 0; place = placed.place; checked = checked }) (chosen (before_best wall blocks) (checked_count wall blocks) (length blocks))
    go zero is within = absurd (let no· : ⊥ = omega (arith, is, within.0) in no·)
    go (suc before) is within =
        rw (best_found so_far.best_of before (sym is), is, so_far.counted) (ap (λ (k : ℕ). record { refusal = 0; place = k; checked = checked_count wall blocks }) (omega arith))

pub none_so_far : {wall : Wall} {blocks : List Block} {checked : ℕ} → SoFar wall blocks None checked →
    ◌≡◌ {A = Choice} (record { refusal = 27; place = 0; checked = checked }) (chosen (before_best wall blocks) (checked_count wall blocks) (length blocks))
none_so_far {wall} {blocks} so_far =
    rw (none_found wall blocks so_far.best_of, so_far.counted, none_checked wall [] blocks so_far.best_of) refl

-- ---- in any list none stands, or one block does

competing : (b : Block) (found : Option Placed) → (answer : Bool) × Competes b found answer
competing b None = (true, refl)
competing b (Some placed) = (price_competes b.price placed.block.price, refl)

with_one_more : (wall : Wall) (blocks : List Block) (b : Block) → (found : Option Placed) × BestOf wall blocks found → (found : Option Placed) × BestOf wall (blocks ++ b ∷ []) found
with_one_more wall blocks b (found, best_of) = go (accepted wall b) refl (competing b found)
  where
    go : (passes : Bool) → accepted wall b ≡ passes → (answer : Bool) × Competes b found answer → (found : Option Placed) × BestOf wall (blocks ++ b ∷ []) found
    go true is (true, competes) = (Some (record { place = suc (length blocks); block = b }), accepted_goes_on wall blocks b found (suc (length blocks)) best_of competes is refl)
    go true is (false, competes) = (found, unchecked_goes_on wall blocks b found best_of competes)
    go false isnt competes = (found, refused_goes_on wall blocks b found best_of isnt)

best_behind : (wall : Wall) (before blocks : List Block) → (found : Option Placed) × BestOf wall before found →
    (found : Option Placed) × BestOf wall (before ++ blocks) found
best_behind wall before [] best_of = rw append-nil best_of
best_behind wall before (b ∷ blocks) best_of =
    rw append_assoc at (best_behind wall (before ++ b ∷ []) blocks (with_one_more wall before b best_of))

pub best_of_list : (wall : Wall) (blocks : List Block) → (found : Option Placed) × BestOf wall blocks found
best_of_list wall blocks = best_behind wall [] blocks (None, λ k other at. elim at [ ])
