-- What the entries answer, for every text, buffer and block. `Ok` is refusal 0 with a count, `Err` is a refusal with count 0.
use Rattle.std.specs.Prelude.{ℕ, ◌/◌, ◌&&◌, cond, List, leb, length, Result, Ok, Err}
use Rattle.buffer.specs.Overwrite.{overwrite}
use Rattle.archive.specs.declared.Archived.{Archived}
use Rattle.archive.specs.Packing.{storable, contents, archive_of}

-- "An entry tells the block count beforehand, or 24 and count 0 for bad text".
unfoldable pub block_count : List ℕ → Result ℕ ℕ
block_count text = cond (storable text) (Ok (length (contents text))) (Err 24)

-- What the writer hands back, and what its buffer holds then.
pub record Stored : Type 0 where
  pub answer : Result ℕ ℕ
  pub buffer : List ℕ

-- "the writer returns the same, or 24 and count 0 where the buffer is too short": where the text "needs more blocks than the buffer holds, nothing being
-- written". "block k is written from byte 512k on, and bytes behind the last block stay".
unfoldable pub stored : List ℕ → List ℕ → Stored
stored text buffer =
    cond (storable text && leb (length (contents text)) (length buffer / 512))
    (record { answer = Ok (length (contents text)); buffer = overwrite buffer 0 (archive_of text) })
    (record { answer = Err 24; buffer = buffer })

-- In C: refusal and count. What a block yields is its bytes from byte 4 on, `count` of them.
abbrev pub archived : Result ℕ ℕ → Archived
archived (Ok count) = record { refusal = 0; count = count }
archived (Err refusal) = record { refusal = refusal; count = 0 }

abbrev pub yielded_count : Result (List ℕ) ℕ → Result ℕ ℕ
yielded_count (Ok lines) = Ok (length lines)
yielded_count (Err refusal) = Err refusal

-- In C: what the writer hands back, and what its buffer holds then.
pub record WrittenInto : Type 0 where
  pub result : Archived
  pub buffer : List ℕ

abbrev pub written_into : List ℕ → List ℕ → WrittenInto
written_into text buffer = record { result = archived (stored text buffer).answer; buffer = (stored text buffer).buffer }
