-- What a line is read as, and how many of its bytes are taken.
use Rattle.std.specs.Prelude.{ℕ, ◌+◌, cond, ◌&&◌, List, [], ◌∷◌, ◌++◌, ◌≡◌, ltb, eqb, length, Option, Some, None}
use Rattle.basis.specs.declared.CheckResult.{CheckResult}
use Rattle.basis.specs.Result.{refused_with}
use Rattle.storey.specs.Record.{storey_of}
use Rattle.cellar.specs.Record.{cellar_of}
use Rattle.walls.specs.declared.Wall.{Wall}
use Rattle.walls.specs.declared.Wall.TheVariants.{Storey, Cellar}
use Rattle.line.specs.declared.CountedReading.{CountedReading}
use Rattle.line.specs.declared.cursor.Cursor.{Cursor}
use Rattle.line.specs.Grammar.{count_of}
use Rattle.line.specs.Cursor.{rest}
use Rattle.line.specs.Automaton.{State, start, lettered, inside, wrong, is_wrong, next, run}

-- `S` is the letter of a storey wall, `C` that of a cellar wall.
unfoldable pub wall_of : ℕ → List ℕ → Wall
wall_of letter numbers = cond (eqb letter 83) (Storey (storey_of numbers)) (Cellar (cellar_of numbers))

-- A line may end only inside the last number that its letter asks for.
unfoldable pub answer : State → Option Wall
answer start = None
answer (lettered letter) = None
answer (inside letter numbers digits value) =
    cond (ltb 0 digits && eqb (length numbers + 1) (count_of letter)) (Some (wall_of letter (numbers ++ value ∷ []))) None
answer wrong = None

unfoldable pub read_line : List ℕ → Option Wall
read_line line = answer (run line start)

-- Document 02, #104: "how many bytes it has taken: up to and including the first wrong byte, or all where there is none." Behind a wrong byte none
-- is taken. Beginning says over the lines of the form which byte is wrong, and `TakenExactly` that the count is the same.
unfoldable pub taken_from : List ℕ → State → ℕ
taken_from [] state = 0
taken_from (byte ∷ bytes) state = cond (is_wrong state) 0 (1 + taken_from bytes (next state byte))

unfoldable pub taken : List ℕ → ℕ
taken line = taken_from line start

unfoldable pub counted_reading : List ℕ → CountedReading
counted_reading line = record { reading = read_line line; taken = taken line }

-- What a reader does that is in this state and has come to this place: it returns the answer, and takes these bytes more.
pub record ReadFrom (state : State) (old : Cursor) (reading : Option Wall) (new : Cursor) : Type 0 where
  pub answers : reading ≡ answer (run (rest old) state)
  pub takes : new.taken ≡ old.taken + taken_from (rest old) state

-- The result of a reading, by a check of the records that are read. None is refusal 1, "not a line of this form".
abbrev pub reading_result : {A : Type 0} → (A → CheckResult) → Option A → CheckResult
reading_result check (Some found) = check found
reading_result check None = refused_with 1
