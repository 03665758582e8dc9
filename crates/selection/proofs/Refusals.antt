-- The refusals that come before the choice: what a bad list is, and 26 and 2 exactly.
use Prim.Native.Nat.{ℕ, ◌+◌, ◌<◌}
use mathlib.Core.Bool.{Bool, true, false, cond, not, ◌&&◌, ◌||◌}
use mathlib.Core.List.{List, [], ◌∷◌, ◌++◌}
use mathlib.Core.Logic.{◌⊎◌, inl, inr}
use mathlib.Core.Path.{◌≡◌, refl, ap, ap₂}
use native.Mathlib.Omega.{arith}
use lib.ListN.{length}
use borrow.Author.Tests.{not-true, not-false, eqb-false, ltb-false, le-ltb, ne_eqb}
use Rattle.std.specs.Prelude.{Option, Some, None, Result, Ok, Err}
use Rattle.std.specs.List.{list_all, filter, position}
use Rattle.basis.specs.Range.{all_within}
use Rattle.basis.specs.Refusal.{first_or, NoneApplies}
use Rattle.basis.proofs.Choice.{cond_cases, or_left, or_right}
use Rattle.basis.proofs.FirstRefusal.{first_or_map}
use Rattle.basis.proofs.Range.{within_all, all_within_lem}
use Rattle.walls.specs.declared.Wall.{Wall}
use Rattle.walls.specs.declared.Wall.TheVariants.{Storey, Cellar}
use Rattle.walls.specs.Check.{in_range}
use Rattle.storey.specs.Record.{with_strength as storey_with_strength}
use Rattle.storey.specs.Range.{ranges as storey_ranges, in_range as storey_in_range}
use Rattle.storey.proofs.Range as StoreyRange
use Rattle.cellar.specs.Record.{with_strength as cellar_with_strength}
use Rattle.cellar.specs.Range.{ranges as cellar_ranges, in_range as cellar_in_range}
use Rattle.cellar.proofs.Range as CellarRange
use Rattle.selection.specs.declared.Block.{Block}
use Rattle.selection.specs.declared.Choice.{Choice}
use Rattle.selection.specs.Blocks.{ranges, in_range as block_in_range, bad_list}
use Rattle.selection.specs.Choice.{with_strength, accepted, better, is_best, before_best, price_competes, is_checked, checked_behind, checked_count, chosen, refused, refusals, choice}
use Rattle.selection.specs.Claims.{GoodListExactly, RefusedAs26Exactly, RefusedAs2Exactly, OnlyTheseRefusals, StrengthRange, OwnStrengthPlaysNoPart}
use Rattle.selection.proofs.Places.{each_at, all_at}

-- What is given where a refusal comes before the choice, or none does.
abbrev pub given : Result Choice ℕ → Choice
given (Ok choice) = choice
given (Err refusal) = refused refusal

pub given_choice : (wall : Wall) (blocks : List Block) →
    given (first_or Err (refusals wall blocks) (Ok (chosen (before_best wall blocks) (checked_count wall blocks) (length blocks)))) ≡ choice wall blocks
given_choice wall blocks = first_or_map Err given (refusals wall blocks) (Ok (chosen (before_best wall blocks) (checked_count wall blocks) (length blocks)))

-- ---- a bad list

pub good_list_exactly : GoodListExactly
unfolding bad_list block_in_range
good_list_exactly blocks = (
  (λ good.
      let short = or_left _ _ good in
      let none = eqb-false (length blocks) 0 (or_left _ _ short) in
      record {
        some = omega (arith, none);
        most = ltb-false 64 (length blocks) (or_right _ _ short);
        each = λ place block at. within_all (ranges block) (each_at (λ b. all_within (ranges b)) (not-false _ (or_right _ _ good)) at);
      }),
  (λ listed.
      ap₂ (λ (length· each : Bool). length· || not each)
      (ap₂ (λ (none long : Bool). none || long) (ne_eqb (length blocks) 0 (λ none. omega (arith, listed.some, none))) (le-ltb 64 (length blocks) listed.most))
      (all_at (λ b. all_within (ranges b)) blocks (λ place block at. all_within_lem (ranges block) (listed.each place block at)))),
)

-- ---- 26 and 2

-- What holds of 26 and 2 where they apply, and of the choice where neither does, holds of what is given.
pub by_refusals : (wall : Wall) (blocks : List Block) (P : Choice → Type 0) →
    (bad_list blocks ≡ true → P (refused 26)) →
    (bad_list blocks ≡ false → in_range wall ≡ false → P (refused 2)) →
    (NoneApplies (refusals wall blocks) → P (chosen (before_best wall blocks) (checked_count wall blocks) (length blocks))) →
    P (choice wall blocks)
unfolding first_or
by_refusals wall blocks P bad out otherwise· =
    cond_cases P (bad_list blocks) bad
    (λ good. cond_cases P (not (in_range wall)) (λ is. out good (not-true (in_range wall) is)) (λ isnt. otherwise· (good, (isnt, tt))))

-- The choice itself has refusal 0 or 27.
chosen_refusal : (before : Option ℕ) (checked all : ℕ) → ((chosen before checked all).refusal ≡ 0) ⊎ ((chosen before checked all).refusal ≡ 27)
chosen_refusal (Some before) checked all = inl refl
chosen_refusal None checked all = inr refl

chosen_not : (n : ℕ) → 0 < n → n < 27 → (before : Option ℕ) (checked all : ℕ) → chosen before checked all ≡ refused n → ⊥
chosen_not n above below (Some before) checked all is = omega (arith, above, ap (λ (c : Choice). c.refusal) is)
chosen_not n above below None checked all is = omega (arith, below, ap (λ (c : Choice). c.refusal) is)

pub refused_as_26_exactly : RefusedAs26Exactly
unfolding first_or
refused_as_26_exactly wall blocks = (
  by_refusals wall blocks (λ c. c ≡ refused 26 → bad_list blocks ≡ true) (λ bad _. bad)
      (λ _ _ is. absurd (let no· : ⊥ = omega (arith, ap (λ (c : Choice). c.refusal) is) in no·))
      (λ _ is. absurd (chosen_not 26 (omega arith) (omega arith) (before_best wall blocks) (checked_count wall blocks) (length blocks) is)),
  (λ bad. rw bad refl),
)

pub refused_as_2_exactly : RefusedAs2Exactly
unfolding first_or
refused_as_2_exactly wall blocks = (
  by_refusals wall blocks (λ c. c ≡ refused 2 → (bad_list blocks ≡ false) × (in_range wall ≡ false))
      (λ _ is. absurd (let no· : ⊥ = omega (arith, ap (λ (c : Choice). c.refusal) is) in no·)) (λ good out _. (good, out))
      (λ _ is. absurd (chosen_not 2 (omega arith) (omega arith) (before_best wall blocks) (checked_count wall blocks) (length blocks) is)),
  (λ both. rw (both.0, both.1) refl),
)

abbrev OneOf : Choice → Type 0
OneOf c = (c.refusal ≡ 0) ⊎ (c.refusal ≡ 2) ⊎ (c.refusal ≡ 26) ⊎ (c.refusal ≡ 27)

pub only_these_refusals : OnlyTheseRefusals
only_these_refusals wall blocks =
    by_refusals wall blocks OneOf (λ _. inr (inr (inl refl))) (λ _ _. inr (inl refl))
    (λ _. go (chosen (before_best wall blocks) (checked_count wall blocks) (length blocks)) (chosen_refusal (before_best wall blocks) (checked_count wall blocks) (length blocks)))
  where
    go : (c : Choice) → (c.refusal ≡ 0) ⊎ (c.refusal ≡ 27) → OneOf c
    go c (inl is) = inl is
    go c (inr is) = inr (inr (inr is))

-- ---- F of a block in the record's place

pub strength_range_lem : StrengthRange
unfolding storey_in_range cellar_in_range
strength_range_lem (Storey wall) F passed = (
  (λ is. omega (arith, StoreyRange.in_ranges (storey_with_strength wall F) is)),
  (λ within. all_within_lem (storey_ranges (storey_with_strength wall F)) (omega (arith, StoreyRange.in_ranges wall passed, within))),
)
strength_range_lem (Cellar wall) F passed = (
  (λ is. omega (arith, CellarRange.in_ranges (cellar_with_strength wall F) is)),
  (λ within. all_within_lem (cellar_ranges (cellar_with_strength wall F)) (omega (arith, CellarRange.in_ranges wall passed, within))),
)

-- With another F of the record's own each block is accepted as before,
accepted_as_before : (wall : Wall) (F : ℕ) → accepted (with_strength wall F) ≡ accepted wall
unfolding accepted
accepted_as_before (Storey wall) F = refl
accepted_as_before (Cellar wall) F = refl

-- .. so the best block is the same, and the same blocks are checked.
module _ (wall wall' : Wall) (same : accepted wall ≡ accepted wall') where
  best_as_before : (blocks : List Block) → before_best wall blocks ≡ before_best wall' blocks
  unfolding before_best is_best
  best_as_before blocks = ap (λ (passes : Block → Bool). position (λ b. passes b && list_all (λ o. not (better o b)) (filter passes blocks)) blocks) same

  checked_as_before : (before blocks : List Block) → checked_behind wall before blocks ≡ checked_behind wall' before blocks
  unfolding checked_behind is_checked
  checked_as_before before [] = refl
  checked_as_before before (b ∷ blocks) =
      rw (checked_as_before (before ++ b ∷ []) blocks)
      (ap (λ (passes : Block → Bool). cond (list_all (λ o. price_competes b.price o.price) (filter passes before)) 1 0 + checked_behind wall' (before ++ b ∷ []) blocks) same)

pub own_strength_plays_no_part : OwnStrengthPlaysNoPart
unfolding first_or
own_strength_plays_no_part wall F blocks passed passed' =
    let same = accepted_as_before wall F in
    rw (passed, passed', best_as_before (with_strength wall F) wall same blocks, checked_as_before (with_strength wall F) wall same [] blocks) refl
