-- What is claimed of archives. A text is any bytes.
use Rattle.std.specs.Prelude.{ℕ, suc, ◌+◌, ◌*◌, ◌/◌, ◌≤◌, ◌<◌, true, List, [], ◌≡◌, length, get_or, set, take, drop, All, flat_map, Ok, Err}
use Rattle.std.specs.List.{concat}
use Rattle.text.specs.LineEnd.{line_length, lines_of}
use Rattle.archive.specs.Block.{block_of, read_block, whole_lines}
use Rattle.archive.specs.Packing.{storable, contents}
use Rattle.archive.specs.Entry.{block_count, stored}

abbrev pub Bytes : List ℕ → Type 0
Bytes = All (λ byte. byte < 256)

-- ── which lines stand in which block ──
-- Each block has lines, and whole ones: "Lines follow from byte 4, whole". No line is split.
pub record HoldsLines (lines : List ℕ) : Type 0 where
  pub some : 0 < length lines
  pub fits : length lines ≤ 508
  pub whole : whole_lines lines ≡ true

abbrev pub NoLineSplit : Type 0
NoLineSplit = (text : List ℕ) → storable text ≡ true → All HoldsLines (contents text)

-- The blocks of a text have its bytes in their order, and hence its lines, block by block.
abbrev pub SameBytes : Type 0
SameBytes = (text : List ℕ) → storable text ≡ true → concat (contents text) ≡ text

abbrev pub SameLines : Type 0
SameLines = (text : List ℕ) → storable text ≡ true → flat_map lines_of (contents text) ≡ lines_of text

-- "puts each line in the current block if it fits, else opens the next": the first line of each block, with its end, does not fit the block before.
abbrev pub OpensWhereFull : Type 0
OpensWhereFull =
    (text : List ℕ) → storable text ≡ true → (k : ℕ) → suc k < length (contents text)
    → 508 < length (get_or (contents text) k []) + (line_length (get_or (contents text) (suc k) []) + 1)

-- ── one block ──
-- "also one filled less tightly": any lines that a block can hold, and none.
abbrev pub LessTightlyRead : Type 0
LessTightlyRead = (lines : List ℕ) → length lines ≤ 508 → whole_lines lines ≡ true → read_block (block_of lines) ≡ Ok lines

-- "yields exactly its used part": only the block of these lines yields them.
abbrev pub ReadExactly : Type 0
ReadExactly =
    (block lines : List ℕ) → Bytes block → read_block block ≡ Ok lines → (block ≡ block_of lines) × ((length lines ≤ 508) × (whole_lines lines ≡ true))

-- What a block yields is its bytes from byte 4 on.
abbrev pub YieldsFromByteFour : Type 0
YieldsFromByteFour = (block lines : List ℕ) → read_block block ≡ Ok lines → lines ≡ take (length lines) (drop 4 block)

-- "after exactly one byte of one block is changed, that block is refused".
abbrev pub ChangedByteRefused : Type 0
ChangedByteRefused =
    (block lines : List ℕ) → Bytes block → read_block block ≡ Ok lines → (place byte : ℕ) → place < 512 → byte < 256 → (byte ≡ get_or block place 0 → ⊥)
    → read_block (set block place byte) ≡ Err 23

-- ── what is written ──
abbrev pub block_at : ℕ → List ℕ → List ℕ
block_at k archive = take 512 (drop (512 * k) archive)

-- A text is stored where it can be and the buffer has room for its blocks.
pub record IsStored (text buffer : List ℕ) : Type 0 where
  pub good : storable text ≡ true
  pub room : length (contents text) ≤ length buffer / 512

-- "block k is written from byte 512k on".
abbrev pub WrittenAtPlace : Type 0
WrittenAtPlace =
    (text buffer : List ℕ) → IsStored text buffer → (k : ℕ) → k < length (contents text)
    → block_at k (stored text buffer).buffer ≡ block_of (get_or (contents text) k [])

-- "Reading back what was written yields the same lines", block by block.
abbrev pub WrittenReadsBack : Type 0
WrittenReadsBack =
    (text buffer : List ℕ) → IsStored text buffer → (k : ℕ) → k < length (contents text)
    → read_block (block_at k (stored text buffer).buffer) ≡ Ok (get_or (contents text) k [])

-- Whatever the blocks yield when they are read back, together it is the text, and has its lines.
abbrev pub ReadBackIsText : Type 0
ReadBackIsText =
    (text buffer : List ℕ) → IsStored text buffer → (yields : List (List ℕ)) → length yields ≡ length (contents text)
    → ((k : ℕ) → k < length yields → read_block (block_at k (stored text buffer).buffer) ≡ Ok (get_or yields k []))
    → (concat yields ≡ text) × (flat_map lines_of yields ≡ lines_of text)

-- ".. after exactly one byte of one block is changed, that block is refused and all others yield theirs."
abbrev pub OneBlockLost : Type 0
OneBlockLost =
    (text buffer : List ℕ) → IsStored text buffer → Bytes text → (place byte : ℕ) → place < 512 * length (contents text) → byte < 256
    → (byte ≡ get_or (stored text buffer).buffer place 0 → ⊥) → (k : ℕ) → k < length (contents text)
    → ((k ≡ place / 512) → read_block (block_at k (set (stored text buffer).buffer place byte)) ≡ Err 23)
    × ((k ≡ place / 512 → ⊥) → read_block (block_at k (set (stored text buffer).buffer place byte)) ≡ Ok (get_or (contents text) k []))

-- "bytes behind the last block stay".
abbrev pub BytesBehindStay : Type 0
BytesBehindStay = (text buffer : List ℕ) → drop (512 * length (contents text)) (stored text buffer).buffer ≡ drop (512 * length (contents text)) buffer

-- "the writer returns the same" as the count beforehand, "or 24 and count 0 .., nothing being written."
abbrev pub SameCount : Type 0
SameCount = (text buffer : List ℕ) → IsStored text buffer → (stored text buffer).answer ≡ block_count text

abbrev pub NothingWritten : Type 0
NothingWritten = (text buffer : List ℕ) → (IsStored text buffer → ⊥) → ((stored text buffer).answer ≡ Err 24) × ((stored text buffer).buffer ≡ buffer)

-- "Empty text takes no block".
abbrev pub EmptyTextTakesNone : Type 0
EmptyTextTakesNone = (buffer : List ℕ) → (block_count [] ≡ Ok 0) × (stored [] buffer ≡ record { answer = Ok 0; buffer = buffer })

-- Writer and count refuse as 24 alone, the reader as 23 alone: "refusal 20 doesn't arise here".
abbrev pub OnlyTheseRefusals : Type 0
OnlyTheseRefusals =
    (text buffer block : List ℕ) (refusal : ℕ)
    → (block_count text ≡ Err refusal → refusal ≡ 24)
    × ((stored text buffer).answer ≡ Err refusal → refusal ≡ 24)
    × (read_block block ≡ Err refusal → refusal ≡ 23)
