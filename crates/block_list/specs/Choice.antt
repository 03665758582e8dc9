-- What the program `choose` answers (docs/DECISIONS.md, "#110, `choose`"): the first line of its input is the record, each further line a block.
use Rattle.std.specs.Prelude.{ℕ, List, [], ◌∷◌, Option, Some, None}
use Rattle.text.specs.LineEnd.{lines_of}
use Rattle.report.specs.Text.{numbers_text}
use Rattle.selection.specs.declared.Block.{Block}
use Rattle.selection.specs.declared.Choice.{Choice}
use Rattle.selection.specs.Choice.{refused}
use Rattle.wallcheck.specs.BlockChoice.{choice_line}
use Rattle.block_list.specs.Reading.{read_blocks}

-- A block line that is not two numbers is 26.
abbrev pub choice_listed : (record_line : List ℕ) → Option (List Block) → Choice
choice_listed line None = refused 26
choice_listed line (Some blocks) = choice_line line blocks

-- Without a line there is no block: an empty list is 26.
abbrev pub choice_of_lines : List (List ℕ) → Choice
choice_of_lines [] = refused 26
choice_of_lines (line ∷ lines) = choice_listed line (read_blocks lines)

unfoldable pub choice_of_text : List ℕ → Choice
choice_of_text text = choice_of_lines (lines_of text)

-- What it prints: refusal, place and count.
abbrev pub choice_text : Choice → List ℕ
choice_text choice = numbers_text choice.refusal choice.place choice.checked
