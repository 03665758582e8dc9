-- Laws of the places of a list, counted from 1, and of what holds of its accepted blocks.
use Prim.Native.Nat.{ℕ, suc, ◌≤◌, ◌<◌}
use mathlib.Core.Bool.{Bool, true, false, cond, not, ◌&&◌, ◌||◌}
use mathlib.Core.List.{List, [], ◌∷◌, ◌++◌}
use mathlib.Core.Logic.{◌⊎◌, inl, inr}
use mathlib.Core.Path.{◌≡◌, ◌∙◌, refl, sym, ap}
use native.Mathlib.Omega.{arith}
use lib.ListN.{length}
use Rattle.std.proofs.Common.{Some, None}
use Rattle.std.specs.List.{filter, list_all, position, position_or_len}
use borrow.Author.Tests.{lt-ltb, le-ltb}
use Rattle.basis.proofs.Choice.{and_left, and_right}
use Rattle.walls.specs.declared.Wall.{Wall}
use Rattle.selection.specs.declared.Block.{Block}
use Rattle.selection.specs.Choice.{accepted, accepted_blocks}
use Rattle.selection.specs.Claims.{At, first, later}

-- ---- places

pub at_front : (blocks more : List Block) {k : ℕ} {block : Block} → At blocks k block → At (blocks ++ more) k block
at_front [] more {k = k} {block = block} x' = elim x' [ ]
at_front (b ∷ blocks) more first = first
at_front (b ∷ blocks) more (later at) = later (at_front blocks more at)

pub at_end : (blocks : List Block) (block : Block) → At (blocks ++ block ∷ []) (suc (length blocks)) block
at_end [] block = first
at_end (other ∷ blocks) block = later (at_end blocks block)

-- What stands in a list that has one block more.
pub at_cases : (blocks : List Block) (last : Block) {k : ℕ} {block : Block} → At (blocks ++ last ∷ []) k block →
    At blocks k block ⊎ ((k ≡ suc (length blocks)) × (block ≡ last))
at_cases [] last first = inr (refl, refl)
at_cases [] last (later at) = elim at [ ]
at_cases (b ∷ blocks) last first = inl first
at_cases (b ∷ blocks) last (later at) = go (at_cases blocks last at)
  where
    go : {k : ℕ} {block : Block} → At blocks k block ⊎ ((k ≡ suc (length blocks)) × (block ≡ last)) →
        At (b ∷ blocks) (suc k) block ⊎ ((suc k ≡ suc (suc (length blocks))) × (block ≡ last))
    go (inl before) = inl (later before)
    go (inr end) = inr (ap suc end.0, end.1)

pub at_within : {blocks : List Block} {k : ℕ} {block : Block} → At blocks k block → (1 ≤ k) × (k ≤ length blocks)
at_within first = (omega arith, omega arith)
at_within (later at) = let before = at_within at in (omega arith, omega (arith, before.1))

-- ---- the first place at which a test holds

module _ (test : Block → Bool) where
  first_length : {blocks : List Block} {place : ℕ} {block : Block} → At blocks place block → test block ≡ true →
      ((k : ℕ) (other : Block) → At blocks k other → k < place → test other ≡ false) → suc (position_or_len test blocks) ≡ place
  first_length first is before = rw is refl
  first_length {blocks = b ∷ blocks} (later at) is before =
      let within = at_within at in
      rw (before 1 b first (omega (arith, within.0))) (omega (arith, first_length at is (λ k other at less. before (suc k) other (later at) (omega (arith, less)))))

  none_length : (blocks : List Block) → ((k : ℕ) (other : Block) → At blocks k other → test other ≡ false) → position_or_len test blocks ≡ length blocks
  none_length [] none = refl
  none_length (b ∷ blocks) none = rw (none 1 b first) (omega (arith, none_length blocks (λ k other at. none (suc k) other (later at))))

  pub first_place : {blocks : List Block} (before : ℕ) {block : Block} → At blocks (suc before) block → test block ≡ true →
      ((k : ℕ) (other : Block) → At blocks k other → k < suc before → test other ≡ false) → position test blocks ≡ Some before
  first_place {blocks = blocks} before at is none =
      let found : position_or_len test blocks ≡ before = omega (arith, first_length at is none) in
      let within = at_within at in
      rw (found, lt-ltb before (length blocks) (omega (arith, within.1))) refl

  pub no_place : (blocks : List Block) → ((k : ℕ) (other : Block) → At blocks k other → test other ≡ false) → position test blocks ≡ None
  no_place blocks none = rw (none_length blocks none, le-ltb (length blocks) (length blocks) (omega arith)) refl

-- ---- a test that holds of every block of a list

module _ (test : Block → Bool) where
  -- .. holds of each that stands in it,
  pub each_at : {blocks : List Block} {k : ℕ} {block : Block} → list_all test blocks ≡ true → At blocks k block → test block ≡ true
  each_at {blocks = []} all at = elim at [ ]
  each_at {blocks = b ∷ blocks} all first = and_left (test b) (list_all test blocks) all
  each_at {blocks = b ∷ blocks} all (later at) = each_at (and_right (test b) (list_all test blocks) all) at

  -- .. and what holds of each holds of all.
  pub all_at : (blocks : List Block) → ((k : ℕ) (block : Block) → At blocks k block → test block ≡ true) → list_all test blocks ≡ true
  all_at [] each = refl
  all_at (b ∷ blocks) each = rw (each 1 b first) (all_at blocks (λ k block at. each (suc k) block (later at)))

-- .. and of every accepted block: to ask the accepted ones is to ask of each that it is not accepted or passes.

all_filtered : (keep test : Block → Bool) (blocks : List Block) → list_all test (filter keep blocks) ≡ list_all (λ b. not (keep b) || test b) blocks
all_filtered keep test [] = refl
all_filtered keep test (b ∷ blocks) = go (keep b) (all_filtered keep test blocks)
  where
    go : (kept : Bool) → list_all test (filter keep blocks) ≡ list_all (λ b. not (keep b) || test b) blocks →
        list_all test (cond kept (b ∷ filter keep blocks) (filter keep blocks)) ≡ ((not kept || test b) && list_all (λ b. not (keep b) || test b) blocks)
    go true same = ap (λ (all : Bool). test b && all) same
    go false same = same

module _ (wall : Wall) (test : Block → Bool) where
  pub each_accepted : {blocks : List Block} {k : ℕ} {block : Block} → list_all test (accepted_blocks wall blocks) ≡ true → At blocks k block →
      accepted wall block ≡ true → test block ≡ true
  each_accepted {blocks = blocks} all at is =
      rw is at (each_at (λ b. not (accepted wall b) || test b) (sym (all_filtered (accepted wall) test blocks) ∙ all) at)

  pub all_accepted : (blocks : List Block) → ((k : ℕ) (block : Block) → At blocks k block → accepted wall block ≡ true → test block ≡ true) →
      list_all test (accepted_blocks wall blocks) ≡ true
  all_accepted blocks each =
      all_filtered (accepted wall) test blocks
      ∙ all_at (λ b. not (accepted wall b) || test b) blocks (λ k block at. passes block (accepted wall block) refl (each k block at))
    where
      passes : (block : Block) (kept : Bool) → accepted wall block ≡ kept → (accepted wall block ≡ true → test block ≡ true) → (not kept || test block) ≡ true
      passes block true is passed = passed is
      passes block false isnt passed = refl
