-- What is read is exactly the lines of the form, and a run that keeps little chooses as for the whole input.
use Rattle.std.specs.Prelude.{ℕ, ◌^◌, ◌≤◌, ◌<◌, List, [], ◌∷◌, ◌++◌, ◌↔◌, ◌≡◌, length, Some}
use Rattle.text.specs.Decimal.{decimal}
use Rattle.selection.specs.declared.Block.{Block}
use Rattle.block_list.specs.Reading.{read_number, read_block}
use Rattle.block_list.specs.Choice.{choice_of_text}
use Rattle.block_list.specs.Keeping.{kept_of}

-- "decimal, 1 to 9 digits, without leading zeros (a lone 0 is allowed)": the digits of a number below 10^9, exactly.
abbrev pub NumberReadExactly : Type 0
NumberReadExactly = (digits : List ℕ) (n : ℕ) → (read_number digits ≡ Some n) ↔ ((n < 10 ^ 9) × (digits ≡ decimal n))

-- The line of a block: two numbers with one space between.
abbrev pub block_line : Block → List ℕ
block_line block = decimal block.strength ++ 32 ∷ decimal block.price

abbrev pub BlockReadExactly : Type 0
BlockReadExactly =
    (line : List ℕ) (block : Block) →
    (read_block line ≡ Some block) ↔ ((block.strength < 10 ^ 9) × (block.price < 10 ^ 9) × (line ≡ block_line block))

-- A run of the program: `Run held input rest` says that with the bytes `held` at hand it reads `input`, in pieces of any length, and has `rest` at hand then.
pub data Run : List ℕ → List ℕ → List ℕ → Type 0 where
  stops : {held : List ℕ} → Run held [] held
  reads : {held input rest : List ℕ} (piece : List ℕ) → Run (kept_of (held ++ piece)) input rest → Run held (piece ++ input) rest

-- What is chosen for the bytes at hand behind the whole input is what is chosen for the input.
abbrev pub RunChooses : Type 0
RunChooses = (input rest : List ℕ) → Run [] input rest → choice_of_text rest ≡ choice_of_text input

-- So few bytes are kept that there is room to read more.
abbrev pub LittleIsKept : Type 0
LittleIsKept = (bytes : List ℕ) → length (kept_of bytes) ≤ 1483
