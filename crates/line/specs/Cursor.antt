-- A place in a line: what is left there, and one step.
use Rattle.std.specs.Prelude.{ℕ, ◌+◌, List, [], ◌∷◌, ◌≡◌, drop}
use Rattle.line.specs.declared.cursor.Cursor.{Cursor}

-- The bytes that are not taken yet.
abbrev pub rest : Cursor → List ℕ
rest cursor = drop cursor.taken cursor.line.now

-- One byte is taken, the first of the rest.
pub record Takes (old : Cursor) (byte : ℕ) (new : Cursor) : Type 0 where
  pub first : rest old ≡ byte ∷ rest new
  pub count : new.taken ≡ old.taken + 1

-- None is left, and none is taken.
pub record Ended (old new : Cursor) : Type 0 where
  pub none : rest old ≡ []
  pub same : new ≡ old
