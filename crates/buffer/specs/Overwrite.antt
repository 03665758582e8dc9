-- What a lent buffer holds after a text is put over a part of it. Bytes are numbers, a buffer and a text are lists of them.
use Rattle.std.specs.Prelude.{ℕ, ◌+◌, cond, List, ◌++◌, leb, length, take, drop}

-- The text stands from byte `at` on, and what lies before and behind it is untouched. A text that does not fit leaves the buffer alone.
unfoldable pub overwrite : List ℕ → ℕ → List ℕ → List ℕ
overwrite buffer at text =
    cond (leb (at + length text) (length buffer)) (take at buffer ++ text ++ drop (at + length text) buffer) buffer
