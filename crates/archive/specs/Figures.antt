-- Figures of document 02, #107: blocks and lines at the bounds.
use Rattle.std.specs.Prelude.{ℕ, true, false, List, [], ◌∷◌, ◌++◌, ◌≡◌, replicate, Ok}
use Rattle.text.specs.Quoted.{bytes}
use Rattle.archive.specs.Block.{number_at, block_of, read_block}
use Rattle.archive.specs.Packing.{storable, contents, archive_of}

-- A line of so many bytes with its end, each of its other bytes being `byte`.
abbrev pub line_of : ℕ → ℕ → List ℕ
line_of byte count = replicate count byte ++ 10 ∷ []

-- A block of zeros is valid and empty. "Empty text takes no block".
abbrev pub ZeroBlock : Type 0
ZeroBlock = read_block (replicate 512 0) ≡ Ok []

abbrev pub EmptyText : Type 0
EmptyText = (storable [] ≡ true) × (archive_of [] ≡ [])

-- 508 bytes used, and a sum that passes 65536: 252 + 1 of the count, 507 times 255, and 10 are 129548, which is 64012 modulo 65536.
abbrev pub FullBlock : Type 0
FullBlock =
    (read_block (block_of (line_of 255 507)) ≡ Ok (line_of 255 507)) × ((number_at 0 (block_of (line_of 255 507)) ≡ 508) × (number_at 2 (block_of (line_of 255 507)) ≡ 64012))

-- Lines of 507 and 508 bytes with their end can be stored, a line of 509 and one without end cannot.
abbrev pub LineBounds : Type 0
LineBounds =
    (storable (line_of 65 506) ≡ true) × ((storable (line_of 65 507) ≡ true) × ((storable (line_of 65 508) ≡ false) × (storable (bytes "S 175") ≡ false)))

-- Two lines of 254 bytes fill a block, and the third opens the next.
abbrev pub FilledBlock : Type 0
FilledBlock =
    contents (line_of 65 253 ++ line_of 66 253 ++ line_of 67 0) ≡ (line_of 65 253 ++ line_of 66 253) ∷ line_of 67 0 ∷ []
