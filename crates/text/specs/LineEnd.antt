-- Where lines end. Document 01: "lines ended by byte 10 .. nonempty input behind the last byte 10 counts as a line."
use Rattle.std.specs.Prelude.{ℕ, suc, Bool, false, cond, ◌||◌, List, [], ◌∷◌, eqb}

-- Whether byte 10 is among the bytes.
unfoldable pub ended : List ℕ → Bool
ended [] = false
ended (byte ∷ bytes) = eqb byte 10 || ended bytes

-- How many bytes stand before the first byte 10; all of them where there is none.
unfoldable pub line_length : List ℕ → ℕ
line_length [] = 0
line_length (byte ∷ bytes) = cond (eqb byte 10) 0 (suc (line_length bytes))

-- A byte in front of some lines is the first byte of the first line, or a line of its own where there is none.
unfoldable pub in_front : ℕ → List (List ℕ) → List (List ℕ)
in_front byte [] = (byte ∷ []) ∷ []
in_front byte (line ∷ lines) = (byte ∷ line) ∷ lines

-- The lines of an input, without their ends: byte 10 ends a line, and nonempty input behind the last byte 10 is one.
unfoldable pub lines_of : List ℕ → List (List ℕ)
lines_of [] = []
lines_of (byte ∷ bytes) = cond (eqb byte 10) ([] ∷ lines_of bytes) (in_front byte (lines_of bytes))
