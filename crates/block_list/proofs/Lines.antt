-- Laws of block lines, one behind the other.
use Rattle.std.proofs.Common.{Option, Some, None}
use Prim.Native.Nat.{ℕ, ◌+◌, ◌-◌, ◌≤◌, ◌<◌}
use mathlib.Core.List.{List, [], ◌∷◌, ◌++◌, append_assoc, append-nil}
use mathlib.Core.Path.{◌≡◌, ◌∙◌, refl, sym, ap, ap₂}
use native.Mathlib.Omega.{arith}
use lib.ListN.{length, take, drop, length-append, length-drop, drop_of_length-le}
use Rattle.std.proofs.lemmas.Option.{none-some, same_Some}
use lib.Seq.{drop-drop}
use Rattle.text.specs.LineEnd.{line_length, lines_of}
use Rattle.text.proofs.LineEnd.{line_length_most, lines_of_first}
use Rattle.selection.specs.declared.Block.{Block}
use Rattle.block_list.specs.Reading.{with_block, read_block, read_blocks}

-- Some blocks, and those of the lines that follow.
abbrev pub behind : List Block → Option (List Block) → Option (List Block)
behind found (Some blocks) = Some (found ++ blocks)
behind found None = None

pub behind_none : (read : Option (List Block)) → read ≡ behind [] read
behind_none (Some blocks) = refl
behind_none None = refl

behind_more : (found : List Block) (block : Block) (read : Option (List Block)) → behind found (with_block (Some block) read) ≡ behind (found ++ block ∷ []) read
behind_more found block (Some blocks) = ap (λ (bs : List Block). Some bs) (sym (append_assoc found (block ∷ []) blocks))
behind_more found block None = refl

-- The lines that are left begin with the line from `taken` to `end`.
module _ (lines : List ℕ) (taken end : ℕ) (some· : taken < length lines) (ends : end ≡ taken + line_length (drop taken lines)) where
  pub line_within : end ≤ length lines
  line_within = omega (arith, ends, some·, line_length_most (drop taken lines), length-drop taken lines)

  first_left : read_blocks (lines_of (drop taken lines)) ≡ with_block (read_block (take (end - taken) (drop taken lines))) (read_blocks (lines_of (drop (end + 1) lines)))
  unfolding read_blocks
  first_left =
      let size : line_length (drop taken lines) ≡ end - taken = omega (arith, ends) in
      let rest : drop (line_length (drop taken lines) + 1) (drop taken lines) ≡ drop (end + 1) lines = drop-drop (line_length (drop taken lines) + 1) taken lines ∙ ap (λ (n : ℕ). drop n lines) (omega (arith, ends)) in
      ap read_blocks (lines_of_first (drop taken lines) (rw length-drop (omega (arith, some·))))
      ∙ ap₂ (λ (n : ℕ) (l : List ℕ). with_block (read_block (take n (drop taken lines))) (read_blocks (lines_of l))) size rest

-- What the lines are read as, where the blocks found stand before those of the lines that are left.
module _ (lines : List ℕ) (taken end : ℕ) (some· : taken < length lines) (ends : end ≡ taken + line_length (drop taken lines)) (found : List Block)
    (so_far : read_blocks (lines_of lines) ≡ behind found (read_blocks (lines_of (drop taken lines)))) where
  left : (read : Option Block) → read ≡ read_block (take (end - taken) (drop taken lines)) →
      read_blocks (lines_of lines) ≡ behind found (with_block read (read_blocks (lines_of (drop (end + 1) lines))))
  left read is = so_far ∙ ap (behind found) (first_left lines taken end some· ends) ∙ ap (λ (b : Option Block). behind found (with_block b (read_blocks (lines_of (drop (end + 1) lines))))) (sym is)

  -- No block line: all are none.
  pub none_read : None ≡ read_block (take (end - taken) (drop taken lines)) → (blocks : List Block) → read_blocks (lines_of lines) ≡ Some blocks → ⊥
  none_read is blocks read = none-some blocks (sym (left None is) ∙ read)

  pub block_read : (block : Block) → Some block ≡ read_block (take (end - taken) (drop taken lines)) →
      read_blocks (lines_of lines) ≡ behind (found ++ block ∷ []) (read_blocks (lines_of (drop (end + 1) lines)))
  block_read block is = left (Some block) is ∙ behind_more found block (read_blocks (lines_of (drop (end + 1) lines)))

-- Blocks found are among those read.
pub behind_longer : (found : List Block) (read : Option (List Block)) (blocks : List Block) → behind found read ≡ Some blocks → length found ≤ length blocks
behind_longer found (Some others) blocks is = omega (arith, ap length (same_Some (found ++ others) blocks is), length-append found others)
behind_longer found None blocks is = absurd (none-some blocks is)

-- Where no line is left, all are found.
pub all_read : (lines : List ℕ) (taken : ℕ) (found : List Block) → length lines ≤ taken → read_blocks (lines_of lines) ≡ behind found (read_blocks (lines_of (drop taken lines))) →
    read_blocks (lines_of lines) ≡ Some found
unfolding read_blocks lines_of
all_read lines taken found all so_far =
    so_far ∙ ap (λ (l : List ℕ). behind found (read_blocks (lines_of l))) (drop_of_length-le lines all) ∙ ap (λ (bs : List Block). Some bs) (append-nil found)
