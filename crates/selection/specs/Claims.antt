-- What is claimed of the choice, for every record and list. Document 02, #110.
use Rattle.std.specs.Prelude.{ℕ, suc, ◌≤◌, ◌<◌, true, false, List, [], ◌∷◌, ◌⊎◌, ◌↔◌, ◌≡◌, length}
use Rattle.basis.specs.Range.{AllWithin}
use Rattle.basis.specs.Refusal.{NoneApplies}
use Rattle.basis.specs.Result.{Accepted}
use Rattle.walls.specs.declared.Wall.{Wall}
use Rattle.walls.specs.Check.{in_range, check}
use Rattle.selection.specs.declared.Block.{Block}
use Rattle.selection.specs.Blocks.{strength_range, ranges, bad_list}
use Rattle.selection.specs.Choice.{with_strength, is_checked, checked_count, refused, refusals, choice}

-- The block stands at this place of the list; "places count from 1".
pub data At : List Block → (place : ℕ) → Block → Type 0 where
  first : {block : Block} {blocks : List Block} → At (block ∷ blocks) 1 block
  later : {before block : Block} {blocks : List Block} {place : ℕ} → At blocks place block → At (before ∷ blocks) (suc place) block

-- Its F, "put in for the record's own, makes the record accepted".
abbrev pub Accepts : Wall → Block → Type 0
Accepts wall block = Accepted (check (with_strength wall block.strength))

abbrev pub NoneAccepted : Wall → List Block → Type 0
NoneAccepted wall blocks = (place : ℕ) (block : Block) → At blocks place block → Accepts wall block → ⊥

-- "the cheapest block whose F .. makes the record accepted, the earlier of equals": the block at this place.
pub record Cheapest (wall : Wall) (blocks : List Block) (place : ℕ) : Type 0 where
  pub block : Block
  pub at : At blocks place block
  pub accepted : Accepts wall block
  -- "No other block of the list that is accepted costs less."
  pub none_costs_less : (k : ℕ) (other : Block) → At blocks k other → Accepts wall other → block.price ≤ other.price
  -- .. and one that costs the same stands behind it.
  pub none_earlier : (k : ℕ) (other : Block) → At blocks k other → Accepts wall other → k < place → block.price < other.price

-- A block is chosen exactly if neither 26 nor 2 applies and it is the cheapest accepted one, and with it goes the count.
abbrev pub ChosenExactly : Type 0
ChosenExactly =
    (wall : Wall) (blocks : List Block) (place checked : ℕ) →
    (choice wall blocks ≡ record { refusal = 0; place = place; checked = checked })
    ↔ (NoneApplies (refusals wall blocks) × Cheapest wall blocks place × (checked ≡ checked_count wall blocks))

-- There is one such place at most, so that the sentence leaves no freedom.
abbrev pub OnePlace : Type 0
OnePlace = (wall : Wall) (blocks : List Block) (place place' : ℕ) → Cheapest wall blocks place → Cheapest wall blocks place' → place ≡ place'

-- "27 when no block is accepted, exactly then, with place 0 and the list's length as its count."
abbrev pub RefusedAs27Exactly : Type 0
RefusedAs27Exactly =
    (wall : Wall) (blocks : List Block) →
    ((choice wall blocks).refusal ≡ 27) ↔ (NoneApplies (refusals wall blocks) × NoneAccepted wall blocks)

abbrev pub LengthCountedWith27 : Type 0
LengthCountedWith27 =
    (wall : Wall) (blocks : List Block) →
    (choice wall blocks).refusal ≡ 27 → choice wall blocks ≡ record { refusal = 27; place = 0; checked = length blocks }

-- A block counts as checked exactly if its price is below that of every accepted block before it.
abbrev pub CheckedExactly : Type 0
CheckedExactly =
    (wall : Wall) (before : List Block) (block : Block) →
    (is_checked wall before block ≡ true) ↔ ((k : ℕ) (other : Block) → At before k other → Accepts wall other → block.price < other.price)

-- At least one block of a list is checked, and at most all of them.
abbrev pub CountWithinList : Type 0
CountWithinList = (wall : Wall) (blocks : List Block) → (0 < length blocks → 1 ≤ checked_count wall blocks) × (checked_count wall blocks ≤ length blocks)

-- All are, where none is accepted.
abbrev pub AllCheckedWhereNoneAccepted : Type 0
AllCheckedWhereNoneAccepted = (wall : Wall) (blocks : List Block) → NoneAccepted wall blocks → checked_count wall blocks ≡ length blocks

-- A list that is not bad: "a list of 1 to 64 blocks, each with F in range and a price 1..1000000".
pub record Listed (blocks : List Block) : Type 0 where
  pub some : 1 ≤ length blocks
  pub most : length blocks ≤ 64
  pub each : (place : ℕ) (block : Block) → At blocks place block → AllWithin (ranges block)

abbrev pub GoodListExactly : Type 0
GoodListExactly = (blocks : List Block) → (bad_list blocks ≡ false) ↔ Listed blocks

-- 26 for a bad list, whatever the record; 2 for a record out of range with any other list.
abbrev pub RefusedAs26Exactly : Type 0
RefusedAs26Exactly = (wall : Wall) (blocks : List Block) → (choice wall blocks ≡ refused 26) ↔ (bad_list blocks ≡ true)

abbrev pub RefusedAs2Exactly : Type 0
RefusedAs2Exactly =
    (wall : Wall) (blocks : List Block) → (choice wall blocks ≡ refused 2) ↔ ((bad_list blocks ≡ false) × (in_range wall ≡ false))

-- No other refusal arises than these: 3 to 25 are never given, and 1 is about a line.
abbrev pub OnlyTheseRefusals : Type 0
OnlyTheseRefusals =
    (wall : Wall) (blocks : List Block) →
    let refusal = (choice wall blocks).refusal in (refusal ≡ 0) ⊎ (refusal ≡ 2) ⊎ (refusal ≡ 26) ⊎ (refusal ≡ 27)

-- A record in range stays in range with another F exactly if that is in the range of a block's.
abbrev pub StrengthRange : Type 0
StrengthRange = (wall : Wall) (F : ℕ) → in_range wall ≡ true → (in_range (with_strength wall F) ≡ true) ↔ AllWithin (strength_range F ∷ [])

-- A block's F may be in range and below refusal 11's bound: such a block is never accepted.
abbrev pub WeakNeverAccepted : Type 0
WeakNeverAccepted = (wall : Wall) (block : Block) → block.strength < 180 → Accepts wall block → ⊥

-- Where a block is accepted, so is each stronger one in range. So where the strongest block of a list is not accepted, none of it is.
abbrev pub StrongerAccepted : Type 0
StrongerAccepted =
    (wall : Wall) (block other : Block) → AllWithin (ranges other) → block.strength ≤ other.strength → Accepts wall block → Accepts wall other

-- The record's own F plays no other part than to be in range.
abbrev pub OwnStrengthPlaysNoPart : Type 0
OwnStrengthPlaysNoPart =
    (wall : Wall) (F : ℕ) (blocks : List Block) →
    in_range wall ≡ true → in_range (with_strength wall F) ≡ true → choice (with_strength wall F) blocks ≡ choice wall blocks
