-- Document 01, "The two lines": the bytes of a record's line. Of the bytes, 32 is the space, 48 to 57 are the digits, 67 is `C` and 83 is `S`.
use Rattle.std.specs.Prelude.{ℕ, ◌^◌, cond, List, [], ◌∷◌, ◌++◌, eqb}
use Rattle.text.specs.Decimal.{decimal}
use Rattle.basis.specs.Range.{AllBelow}
use Rattle.storey.specs.Record as StoreyRecord
use Rattle.cellar.specs.Record as CellarRecord
use Rattle.walls.specs.declared.Wall.{Wall}
use Rattle.walls.specs.declared.Wall.TheVariants.{Storey, Cellar}
use Rattle.walls.specs.Check.{numbers_of}

-- "Numbers are decimal, 1 to 9 digits, without leading zeros (a lone 0 is allowed)": each is below 10^9, and `decimal` gives its digits.
abbrev pub NineDigits : List ℕ → Type 0
NineDigits numbers = AllBelow (10 ^ 9) numbers

-- ".. with one space before each."
unfoldable pub fields : List ℕ → List ℕ
fields [] = []
fields (number ∷ numbers) = 32 ∷ decimal number ++ fields numbers

-- "`S` and 16 numbers", to which document 02 adds, and "`C` and 10 numbers": how many follow a letter. No line begins with another byte.
unfoldable pub count_of : ℕ → ℕ
count_of letter = cond (eqb letter 83) StoreyRecord.count (cond (eqb letter 67) CellarRecord.count 0)

abbrev pub letter_of : Wall → ℕ
letter_of (Storey wall) = 83
letter_of (Cellar wall) = 67

-- "A line ends where its bytes end."
abbrev pub line_of : Wall → List ℕ
line_of wall = letter_of wall ∷ fields (numbers_of wall)
