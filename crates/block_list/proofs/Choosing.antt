-- Laws of what is chosen for a text: by its first line and the lines behind it.
use Rattle.std.proofs.Common.{Option, Some, None}
use Prim.Native.Nat.{ℕ, ◌+◌, ◌-◌, ◌≤◌, ◌<◌, min}
use mathlib.Core.Bool.{true, or-true}
use mathlib.Core.List.{List, [], ◌∷◌}
use mathlib.Core.Path.{◌≡◌, ◌∙◌, refl, sym, ap}
use native.Mathlib.Omega.{arith}
use native.Mathlib.Decide.{dec_le}
use lib.ListN.{length, take, drop, drop_of_length-le}
use borrow.Author.Tests.{lt-ltb}
use Rattle.std.proofs.lemmas.List.{take_rest}
use Rattle.text.specs.LineEnd.{line_length, lines_of}
use Rattle.text.proofs.LineEnd.{line_length_most, lines_of_first}
use Rattle.selection.specs.declared.Block.{Block}
use Rattle.selection.specs.Blocks.{bad_list}
use Rattle.selection.specs.Choice.{refused}
use Rattle.wallcheck.specs.BlockChoice.{choice_line}
use Rattle.wallcheck.proofs.BlockChoice.{choice_bad_list}
use Rattle.block_list.specs.Reading.{read_blocks}
use Rattle.block_list.specs.Choice.{choice_listed, choice_of_lines, choice_of_text}

-- More than 64 blocks are a bad list, and so is none.

too_long : (blocks : List Block) → 64 < length blocks → bad_list blocks ≡ true
unfolding bad_list
too_long blocks many = rw (lt-ltb 64 (length blocks) many, or-true) refl

pub choice_too_long : (line : List ℕ) (read : Option (List Block)) → ((blocks : List Block) → read ≡ Some blocks → 64 < length blocks) → choice_listed line read ≡ refused 26
choice_too_long line (Some blocks) many = (choice_bad_list line blocks).1 (too_long blocks (many blocks refl))
choice_too_long line None many = refl

choice_without_blocks : (line : List ℕ) → choice_line line [] ≡ refused 26
unfolding bad_list
choice_without_blocks line = (choice_bad_list line []).1 refl

-- The choice for a text: its first line, and the lines behind that. An empty text has neither, and is 26 either way.
pub choice_parted : (text : List ℕ) →
    choice_of_text text ≡ choice_listed (take (line_length text) text) (read_blocks (lines_of (drop (line_length text + 1) text)))
unfolding choice_of_text lines_of read_blocks line_length
choice_parted [] = sym (choice_without_blocks [])
choice_parted (byte ∷ bytes) = ap choice_of_lines (lines_of_first (byte ∷ bytes) (omega arith))

-- The first line ends within the text, and the lines behind its end are those behind the whole text where it has none.
module _ (text : List ℕ) (end : ℕ) (ends : end ≡ 0 + line_length text) where
  pub end_within : end ≤ length text
  end_within = omega (arith, ends, line_length_most text)

  pub lines_behind : (behind : ℕ) → behind ≡ min (end + 1) (length text) → take (length text - behind) (drop behind text) ≡ drop (line_length text + 1) text
  lines_behind behind is = take_rest text behind ∙ go (dec_le (end + 1) (length text))
    where
      go : Dec (end + 1 ≤ length text) → drop behind text ≡ drop (line_length text + 1) text
      go (yes within) = ap (λ (n : ℕ). drop n text) (omega (arith, is, within, ends))
      go (no beyond) = drop_of_length-le text (omega (arith, is, beyond)) ∙ sym (drop_of_length-le text (omega (arith, beyond, ends)))

  pub first_line : take end text ≡ take (line_length text) text
  first_line = ap (λ (n : ℕ). take n text) (omega (arith, ends))
