-- Document 02, #110, for a record of either kind and a list of blocks: its refusals, and the choice where none of them applies.
use Rattle.std.specs.Prelude.{ℕ, ◌+◌, Bool, cond, not, ◌&&◌, List, [], ◌∷◌, ◌++◌, eqb, ltb, length, filter, position, Option, Some, None}
use Rattle.std.specs.List.{list_all}
use Rattle.basis.specs.Refusal.{first_or}
use Rattle.storey.specs.Record as StoreyRecord
use Rattle.cellar.specs.Record as CellarRecord
use Rattle.walls.specs.declared.Wall.{Wall}
use Rattle.walls.specs.declared.Wall.TheVariants.{Storey, Cellar}
use Rattle.walls.specs.Check.{in_range, check}
use Rattle.selection.specs.declared.Block.{Block}
use Rattle.selection.specs.declared.Choice.{Choice}
use Rattle.selection.specs.Blocks.{bad_list}

-- "F, put in for the record's own"
abbrev pub with_strength : Wall → (F : ℕ) → Wall
with_strength (Storey wall) F = Storey (StoreyRecord.with_strength wall F)
with_strength (Cellar wall) F = Cellar (CellarRecord.with_strength wall F)

-- "makes the record accepted"
unfoldable pub accepted : Wall → Block → Bool
accepted wall block = eqb (check (with_strength wall block.strength)).refusal 0

-- The accepted blocks of a list.
abbrev pub accepted_blocks : Wall → List Block → List Block
accepted_blocks wall blocks = filter (accepted wall) blocks

-- The comparison of prices, by which both the best block and those checked are found: one price is below the other, so that a block of this price is still to be
-- checked beside an accepted one of the other.
unfoldable pub price_competes : (price other : ℕ) → Bool
price_competes price other = ltb price other

-- Which of two accepted blocks is better: the cheaper one.
unfoldable pub better : (block other : Block) → Bool
better block other = price_competes block.price other.price

-- "the cheapest block whose F, put in for the record's own, makes the record accepted": no accepted block of the list is better.
unfoldable pub is_best : Wall → (blocks : List Block) → Block → Bool
is_best wall blocks block = accepted wall block && list_all (λ other. not (better other block)) (accepted_blocks wall blocks)

-- "the earlier of equals": how many blocks stand before the first such block; None where no block is accepted.
unfoldable pub before_best : Wall → List Block → Option ℕ
before_best wall blocks = position (is_best wall blocks) blocks

-- "those whose price is below that of every accepted block before them"
unfoldable pub is_checked : Wall → (before : List Block) → Block → Bool
is_checked wall before block = list_all (λ other. price_competes block.price other.price) (accepted_blocks wall before)

-- How many they are, of the blocks that follow on those before.
unfoldable pub checked_behind : Wall → (before blocks : List Block) → ℕ
checked_behind wall before [] = 0
checked_behind wall before (block ∷ blocks) = cond (is_checked wall before block) 1 0 + checked_behind wall (before ++ block ∷ []) blocks

-- "how many blocks were checked"
abbrev pub checked_count : Wall → List Block → ℕ
checked_count wall blocks = checked_behind wall [] blocks

-- "places count from 1". 27: "when no block is accepted, exactly then, with place 0 and the list's length as its count".
abbrev pub chosen : Option ℕ → (checked all : ℕ) → Choice
chosen (Some before) checked all = record { refusal = 0; place = before + 1; checked = checked }
chosen None checked all = record { refusal = 27; place = 0; checked = all }

-- "both give place 0 and count 0"
abbrev pub refused : ℕ → Choice
refused n = record { refusal = n; place = 0; checked = 0 }

-- "A bad list is found first, then a record that is refused as 1 or 2"; 1 is about a line, and stands with the entry.
abbrev pub refusals : Wall → List Block → List (ℕ × Bool)
refusals wall blocks = (26, bad_list blocks) ∷ (2, not (in_range wall)) ∷ []

-- The choice for any record and list.
abbrev pub choice : Wall → List Block → Choice
choice wall blocks = first_or refused (refusals wall blocks) (chosen (before_best wall blocks) (checked_count wall blocks) (length blocks))
