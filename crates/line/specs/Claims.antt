-- What is read is exactly the lines of the form, and bytes are taken up to and including the first wrong one, or all where there is none.
use Rattle.std.specs.Prelude.{◌≡◌, List, ◌⊎◌, ◌↔◌, ℕ, ◌+◌, length, Some, None}
use Rattle.walls.specs.declared.Wall.{Wall}
use Rattle.walls.specs.Check.{numbers_of}
use Rattle.line.specs.Grammar.{NineDigits, line_of, count_of, letter_of}
use Rattle.line.specs.Beginning.{Wrong, FirstWrong, UpToFirstWrong, AllWhereNone}
use Rattle.line.specs.Reading.{read_line, taken}

-- As many numbers follow the letter of a record as the record has.
abbrev pub CountOfNumbers : Type 0
CountOfNumbers = (wall : Wall) → count_of (letter_of wall) ≡ length (numbers_of wall)

-- Whatever is read as a record is the line of that record, and each of its numbers has 1 to 9 digits.
abbrev pub ReadingSound : Type 0
ReadingSound = (line : List ℕ) (wall : Wall) → read_line line ≡ Some wall → (line ≡ line_of wall) × NineDigits (numbers_of wall)

-- The line of a record whose numbers have 1 to 9 digits each is read as that record.
abbrev pub ReadingComplete : Type 0
ReadingComplete = (wall : Wall) → NineDigits (numbers_of wall) → read_line (line_of wall) ≡ Some wall

-- Refusal 1 is given exactly if the bytes are "not a line of this form".
abbrev pub MalformedExactly : Type 0
MalformedExactly =
    (line : List ℕ) → (read_line line ≡ None) ↔ ((wall : Wall) → NineDigits (numbers_of wall) → line ≡ line_of wall → ⊥)

-- Document 02, #104: "how many bytes it has taken: up to and including the first wrong byte, or all where there is none." Of every line one of the two holds.
abbrev pub TakenExactly : Type 0
TakenExactly = (line : List ℕ) → UpToFirstWrong line (taken line) ⊎ AllWhereNone line (taken line)

-- So if there is a first wrong byte, the count ends with it.
abbrev pub FirstWrongTaken : Type 0
FirstWrongTaken = (line : List ℕ) (place : ℕ) → FirstWrong line place → taken line ≡ place + 1

-- If there is none, the count is the line's length.
abbrev pub NoneWrongTaken : Type 0
NoneWrongTaken = (line : List ℕ) → ((place : ℕ) → Wrong line place → ⊥) → taken line ≡ length line

-- A line of the form has all its bytes taken.
abbrev pub LineTaken : Type 0
LineTaken = (wall : Wall) → NineDigits (numbers_of wall) → taken (line_of wall) ≡ length (line_of wall)
