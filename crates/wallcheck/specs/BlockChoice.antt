-- The entry of document 02, #110, for every line and list of blocks: what it answers, and what is claimed of it.
use Rattle.std.specs.Prelude.{ℕ, cond, true, false, List, ◌⊎◌, ◌↔◌, ◌≡◌, Option, Some, None}
use Rattle.basis.specs.Range.{AllWithin}
use Rattle.walls.specs.declared.Wall.{Wall}
use Rattle.walls.specs.Check.{numbers_of, in_range, check}
use Rattle.line.specs.Grammar.{NineDigits, line_of}
use Rattle.line.specs.Reading.{read_line}
use Rattle.selection.specs.declared.Block.{Block}
use Rattle.selection.specs.declared.Choice.{Choice}
use Rattle.selection.specs.Blocks.{ranges, bad_list}
use Rattle.selection.specs.Choice.{with_strength, refused, choice}
use Rattle.wallcheck.specs.Entry.{line_result}

-- The choice for what was read, a record of either kind; None is refusal 1. "A bad list is found first, then a record that is refused as 1 or 2".
abbrev pub choice_read : Option Wall → List Block → Choice
choice_read None blocks = refused (cond (bad_list blocks) 26 1)
choice_read (Some wall) blocks = choice wall blocks

abbrev pub choice_line : (line : List ℕ) → List Block → Choice
choice_line line blocks = choice_read (read_line line) blocks

-- ---- what is claimed of it

-- A line of the form has the choice for its record.
abbrev pub ChoiceOfRecord : Type 0
ChoiceOfRecord = (wall : Wall) (blocks : List Block) → NineDigits (numbers_of wall) → choice_line (line_of wall) blocks ≡ choice wall blocks

-- 26, exactly: the list is bad, whatever the line is.
abbrev pub ChoiceBadList : Type 0
ChoiceBadList = (line : List ℕ) (blocks : List Block) → (choice_line line blocks ≡ refused 26) ↔ (bad_list blocks ≡ true)

-- 1, exactly: any other list, and "not a line of this form".
abbrev pub ChoiceNotALine : Type 0
ChoiceNotALine =
    (line : List ℕ) (blocks : List Block) →
    (choice_line line blocks ≡ refused 1) ↔ ((bad_list blocks ≡ false) × ((wall : Wall) → NineDigits (numbers_of wall) → line ≡ line_of wall → ⊥))

-- The line of a record that is out of range.
abbrev pub LineOutOfRange : List ℕ → Type 0
LineOutOfRange line = (wall : Wall) × NineDigits (numbers_of wall) × (line ≡ line_of wall) × (in_range wall ≡ false)

-- 2, exactly: any other list, and the line of a record out of range.
abbrev pub ChoiceOutOfRange : Type 0
ChoiceOutOfRange =
    (line : List ℕ) (blocks : List Block) → (choice_line line blocks ≡ refused 2) ↔ ((bad_list blocks ≡ false) × LineOutOfRange line)

-- No other refusal arises: 3 to 25 are never given.
abbrev pub OnlyTheseRefusalsOfLines : Type 0
OnlyTheseRefusalsOfLines =
    (line : List ℕ) (blocks : List Block) →
    let refusal = (choice_line line blocks).refusal in (refusal ≡ 0) ⊎ (refusal ≡ 1) ⊎ (refusal ≡ 2) ⊎ (refusal ≡ 26) ⊎ (refusal ≡ 27)

-- Whether a block makes a record accepted, the result of the line says that has the block's F in place of its own.
abbrev pub StrengthPutIn : Type 0
StrengthPutIn =
    (wall : Wall) (block : Block) → NineDigits (numbers_of wall) → AllWithin (ranges block) →
    line_result (line_of (with_strength wall block.strength)) ≡ check (with_strength wall block.strength)
