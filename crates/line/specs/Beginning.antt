-- Document 02, #104: which byte of a line is wrong. This is over the lines of the form alone; how a line is read plays no part.
use Rattle.std.specs.Prelude.{ℕ, ◌+◌, ◌<◌, List, ◌++◌, ◌≡◌, length, take}
use Rattle.walls.specs.declared.Wall.{Wall}
use Rattle.walls.specs.Check.{numbers_of}
use Rattle.line.specs.Grammar.{NineDigits, line_of}

-- Some "line of the right form, in range or not, begins with the bytes": it is these bytes and a rest.
pub record Begins (bytes : List ℕ) : Type 0 where
  pub wall : Wall
  pub nine : NineDigits (numbers_of wall)
  pub rest : List ℕ
  pub line : line_of wall ≡ bytes ++ rest

-- "A byte is wrong when no line of the right form, in range or not, begins with the bytes up to and including it." Places count from 0.
pub record Wrong (line : List ℕ) (place : ℕ) : Type 0 where
  pub within : place < length line
  pub none : Begins (take (place + 1) line) → ⊥

-- "the first wrong byte"
pub record FirstWrong (line : List ℕ) (place : ℕ) : Type 0 where
  pub wrong : Wrong line place
  pub first : (before : ℕ) → before < place → Wrong line before → ⊥

-- "up to and including the first wrong byte": so many bytes.
pub record UpToFirstWrong (line : List ℕ) (count : ℕ) : Type 0 where
  pub place : ℕ
  pub wrong : FirstWrong line place
  pub ends : count ≡ place + 1

-- "or all where there is none"
pub record AllWhereNone (line : List ℕ) (count : ℕ) : Type 0 where
  pub none : (place : ℕ) → Wrong line place → ⊥
  pub all : count ≡ length line
