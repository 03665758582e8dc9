-- What is kept of an input that is read piece by piece: the record's line up to 201 bytes, for a longer line is none of the form; and of what follows it 1282 bytes,
-- for 64 lines of two numbers and their ends are at most 1280, behind the end of the record's line.
use Rattle.std.specs.Prelude.{ℕ, min, List, ◌++◌, length, take, drop}
use Rattle.text.specs.LineEnd.{line_length}
use Rattle.buffer.specs.Overwrite.{overwrite}

unfoldable pub kept_of : List ℕ → List ℕ
kept_of bytes = take (min (line_length bytes) 201) bytes ++ take 1282 (drop (line_length bytes) bytes)

-- What `keep` leaves in the buffer, and how many bytes are held then, with the first `held` bytes at hand.
pub record Kept : Type 0 where
  pub buffer : List ℕ
  pub held : ℕ

unfoldable pub kept_in : (buffer : List ℕ) → (held : ℕ) → Kept
kept_in buffer held =
    let kept = kept_of (take held buffer) in
    record { buffer = overwrite buffer 0 kept; held = length kept }
