-- A line taken byte by byte. "Reading stops at the first wrong byte, in whichever number it stands": no byte leads out of `wrong`.
use Rattle.std.specs.Prelude.{ℕ, ◌+◌, ◌-◌, ◌*◌, Bool, true, false, cond, ◌&&◌, ◌||◌, List, [], ◌∷◌, ◌++◌, leb, ltb, eqb, length}
use Rattle.line.specs.Grammar.{count_of}

-- What the bytes so far are.
pub data State : Type 0 where
  -- none
  start : State
  -- the letter
  lettered : ℕ → State
  -- the letter, some numbers, a space, and the digits of one more number: how many, and their value
  inside : ℕ → List ℕ → ℕ → ℕ → State
  -- not the beginning of any line
  wrong : State

-- Whether the bytes so far are not the beginning of any line.
abbrev pub is_wrong : State → Bool
is_wrong start = false
is_wrong (lettered letter) = false
is_wrong (inside letter numbers digits value) = false
is_wrong wrong = true

-- The value of a digit's byte, and 10 for any other byte.
unfoldable pub digit_of : ℕ → ℕ
digit_of byte = cond (leb 48 byte && leb byte 57) (byte - 48) 10

-- One byte more. In a number, a space ends it where another number is to come. Else a byte is wrong if it is no digit, or a tenth digit,
-- or a digit behind a leading 0.
unfoldable pub next : State → ℕ → State
next start byte = cond (eqb (count_of byte) 0) wrong (lettered byte)
next (lettered letter) byte = cond (eqb byte 32) (inside letter [] 0 0) wrong
next (inside letter numbers digits value) byte =
    cond (eqb byte 32 && ltb 0 digits && ltb (length numbers + 1) (count_of letter)) (inside letter (numbers ++ value ∷ []) 0 0)
    (cond (ltb 9 (digit_of byte) || eqb digits 9 || eqb digits 1 && eqb value 0) wrong
    (inside letter numbers (digits + 1) (10 * value + digit_of byte)))
next wrong byte = wrong

unfoldable pub run : List ℕ → State → State
run [] state = state
run (byte ∷ bytes) state = run bytes (next state byte)
