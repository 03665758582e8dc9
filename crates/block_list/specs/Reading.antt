-- A block line (docs/DECISIONS.md, "#110, `choose`"): two numbers in document 01's digits with one space between, F and the price.
use Rattle.std.specs.Prelude.{ℕ, ◌+◌, ◌-◌, ◌*◌, ◌&&◌, cond, List, [], ◌∷◌, eqb, leb, length, take, drop, fold, position, Option, Some, None}
use Rattle.std.specs.Cmp.Lexicographic.{pointwise}
use Rattle.text.specs.Decimal.{decimal}
use Rattle.selection.specs.declared.Block.{Block}

-- The value of some digits, from left to right.
abbrev pub value_of : List ℕ → ℕ
value_of digits = fold (λ value digit. 10 * value + (digit - 48)) 0 digits

-- "Numbers are decimal, 1 to 9 digits, without leading zeros (a lone 0 is allowed)": at most nine bytes that are the digits of their value.
unfoldable pub read_number : List ℕ → Option ℕ
read_number digits = cond (leb (length digits) 9 && pointwise eqb digits (decimal (value_of digits))) (Some (value_of digits)) None

-- Two numbers, where both are.
abbrev pub block_of : Option ℕ → Option ℕ → Option Block
block_of (Some F) (Some price) = Some (record { strength = F; price = price })
block_of (Some F) None = None
block_of None price = None

-- The numbers before and behind a space; none without one.
abbrev pub parted : List ℕ → (space : Option ℕ) → Option Block
parted line (Some place) = block_of (read_number (take place line)) (read_number (drop (place + 1) line))
parted line None = None

-- Byte 32 is the space: the first one, since no number has one.
unfoldable pub read_block : List ℕ → Option Block
read_block line = parted line (position (λ byte. eqb byte 32) line)

-- The blocks of lines: None where one of them is none.
abbrev pub with_block : Option Block → Option (List Block) → Option (List Block)
with_block (Some block) (Some blocks) = Some (block ∷ blocks)
with_block (Some block) None = None
with_block None blocks = None

unfoldable pub read_blocks : List (List ℕ) → Option (List Block)
read_blocks [] = Some []
read_blocks (line ∷ lines) = with_block (read_block line) (read_blocks lines)
