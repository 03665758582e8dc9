-- For the program `pack`, which document 02 does not speak of: what is packed of the bytes at hand, wherever an input is cut into pieces, and that the
-- pieces make up its archive.
use Rattle.std.specs.Prelude.{ℕ, zero, suc, ◌+◌, ◌-◌, ◌*◌, ◌/◌, ◌≤◌, ◌<◌, Bool, true, false, ◌||◌, cond, List, [], ◌∷◌, ◌++◌, ◌≡◌, leb, length, take, drop}
use Rattle.text.specs.LineEnd.{ended, lines_of}
use Rattle.buffer.specs.Overwrite.{overwrite}
use Rattle.archive.specs.declared.Packed.{Packed}
use Rattle.archive.specs.declared.Progress.{Progress}
use Rattle.archive.specs.Packing.{storable, contents, archive_of}

-- How many bytes stand up to and including the last byte 10; 0 where there is none.
unfoldable pub last_end : List ℕ → ℕ
last_end [] = 0
last_end (byte ∷ bytes) = cond (ended (byte ∷ bytes)) (suc (last_end bytes)) 0

-- How many bytes the first block takes: of the first 508 those that are whole lines.
abbrev pub first_length : List ℕ → ℕ
first_length bytes = last_end (take 508 bytes)

-- Whether the lines of the block that begins here are known: with 508 bytes at hand, or at the end of the input.
abbrev pub settled : Bool → List ℕ → Bool
settled complete bytes = complete || leb 508 (length bytes)

-- How many bytes the first `most` blocks take, as far as these are settled and no line comes that no block can hold.
unfoldable pub packed_length : ℕ → Bool → List ℕ → ℕ
packed_length zero complete bytes = 0
packed_length (suc most) complete bytes =
    cond (settled complete bytes) (first_length bytes + packed_length most complete (drop (first_length bytes) bytes)) 0

abbrev pub packed_of : ℕ → Bool → List ℕ → List ℕ
packed_of most complete bytes = take (packed_length most complete bytes) bytes

abbrev pub unpacked_of : ℕ → Bool → List ℕ → List ℕ
unpacked_of most complete bytes = drop (packed_length most complete bytes) bytes

-- What is packed of the bytes at hand into a buffer: as many blocks as it has room for.
pub record PackedInto : Type 0 where
  pub progress : Progress
  pub buffer : List ℕ

unfoldable pub packed_into : Bool → List ℕ → List ℕ → PackedInto
packed_into complete bytes buffer =
    let most = length buffer / 512 in
    record {
      progress = record { taken = packed_length most complete bytes; blocks = length (contents (packed_of most complete bytes)) };
      buffer = overwrite buffer 0 (archive_of (packed_of most complete bytes));
    }

-- What `pack_held` hands back and leaves in the two buffers, with the first `held` bytes of the input at hand.
pub record HeldPacked : Type 0 where
  pub packed : Packed
  pub input : List ℕ
  pub output : List ℕ

unfoldable pub held_packed : Bool → List ℕ → ℕ → List ℕ → HeldPacked
held_packed complete input held output =
    let most = length output / 512 in
    let bytes = take held input in
    let text = packed_of most complete bytes in
    record {
      packed = record { taken = length text; blocks = length (contents text); lines = length (lines_of text) };
      input = overwrite input 0 (unpacked_of most complete bytes);
      output = overwrite output 0 (archive_of text);
    }

-- A call of `pack_held` is a step of a run, below: what is left stands first in the input, the blocks first in the output.
pub record IsStep (complete : Bool) (input : List ℕ) (held : ℕ) (output : List ℕ) (after : HeldPacked) : Type 0 where
  pub rest : take (held - after.packed.taken) after.input ≡ unpacked_of (length output / 512) complete (take held input)
  pub blocks : take (512 * after.packed.blocks) after.output ≡ archive_of (packed_of (length output / 512) complete (take held input))

abbrev pub PackIsStep : Type 0
PackIsStep =
    (complete : Bool) (input : List ℕ) (held : ℕ) (output : List ℕ) → held ≤ length input → IsStep complete input held output (held_packed complete input held output)

-- Where a step takes nothing though there is room, 508 bytes, or the end of the input, show that the line that comes cannot be stored.
abbrev pub NothingTaken : Type 0
NothingTaken =
    (most : ℕ) (complete : Bool) (bytes : List ℕ) → 0 < most → packed_length most complete bytes ≡ 0 → settled complete bytes ≡ true
    → ended (take 508 bytes) ≡ false

-- A run: `Run held input written rest` says that with the bytes `held` at hand it reads `input`, writes `written` and has `rest` at hand then. It reads
-- pieces of any length and packs any number of blocks, in any order; with `complete` only where nothing is left to read. Where a line comes that cannot be
-- stored it may end before it has read all.
pub data Run : List ℕ → List ℕ → List ℕ → List ℕ → Type 0 where
  stops : {held : List ℕ} → Run held [] [] held
  ends_early : {held input : List ℕ} → 508 ≤ length held → first_length held ≡ 0 → Run held input [] held
  reads : {held input written rest : List ℕ} (piece : List ℕ) → Run (held ++ piece) input written rest → Run held (piece ++ input) written rest
  packs : {held input written rest : List ℕ} (most : ℕ) → Run (unpacked_of most false held) input written rest →
      Run held input (archive_of (packed_of most false held) ++ written) rest
  finishes : {held written rest : List ℕ} (most : ℕ) → Run (unpacked_of most true held) [] written rest →
      Run held [] (archive_of (packed_of most true held) ++ written) rest

-- A run that ends with nothing at hand that a block takes has written the archive of what can be packed of its input.
abbrev pub RunWritesArchive : Type 0
RunWritesArchive =
    (input written rest : List ℕ) → Run [] input written rest → first_length rest ≡ 0 → written ≡ archive_of (packed_of (length input) true input)

-- That is the whole input, where it can be stored; else what stands before the first line that no block can hold or that has no end: whole lines, and behind
-- them 508 bytes, or fewer at the end, without byte 10.
abbrev pub WholePacked : Type 0
WholePacked = (input : List ℕ) → storable input ≡ true → packed_of (length input) true input ≡ input

abbrev pub PackedUpToBadLine : Type 0
PackedUpToBadLine = (input : List ℕ) → ended (take 508 (unpacked_of (length input) true input)) ≡ false

-- What is packed of the bytes at hand can be stored, whatever comes behind them.
abbrev pub PackedIsStorable : Type 0
PackedIsStorable = (most : ℕ) (complete : Bool) (bytes : List ℕ) → storable (packed_of most complete bytes) ≡ true
