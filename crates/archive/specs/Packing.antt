-- Which lines stand in which block. Document 02, #107: "The writer puts each line in the current block if it fits, else opens the next".
use Rattle.std.specs.Prelude.{ℕ, ◌+◌, Bool, ◌&&◌, cond, List, [], ◌∷◌, ◌++◌, leb, length, map, flat_map}
use Rattle.std.specs.List.{list_all}
use Rattle.text.specs.LineEnd.{lines_of}
use Rattle.archive.specs.Block.{block_of, whole_lines}

-- The lines of a text, each with its end.
unfoldable pub ended_lines : List ℕ → List (List ℕ)
ended_lines text = map (λ line. line ++ 10 ∷ []) (lines_of text)

-- What can be stored: not a text that "is nonempty and doesn't end in byte 10, has a line above 508 bytes with its end byte".
unfoldable pub storable : List ℕ → Bool
storable text = whole_lines text && list_all (λ line. leb (length line) 508) (ended_lines text)

-- The lines of each block, where `current` stands in the current one already: "each line in the current block if it fits, else .. the next".
unfoldable pub packed_behind : List ℕ → List (List ℕ) → List (List ℕ)
packed_behind current [] = current ∷ []
packed_behind current (line ∷ lines) =
    cond (leb (length current + length line) 508) (packed_behind (current ++ line) lines) (current ∷ packed_behind line lines)

-- The first line opens the first block. "Empty text takes no block".
unfoldable pub packed : List (List ℕ) → List (List ℕ)
packed [] = []
packed (line ∷ lines) = packed_behind line lines

-- The lines of each block of a text, and all its blocks, one behind the other.
unfoldable pub contents : List ℕ → List (List ℕ)
contents text = packed (ended_lines text)

unfoldable pub archive_of : List ℕ → List ℕ
archive_of text = flat_map block_of (contents text)
