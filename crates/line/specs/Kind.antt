-- The kinds of line.
use Rattle.std.specs.Prelude.{ℕ}
use Rattle.line.specs.declared.kind.Kind.{Kind}
use Rattle.line.specs.declared.kind.Kind.TheVariants.{Storey, Cellar}

-- The letter that the lines of a kind begin with: 83 is `S`, 67 is `C`.
abbrev pub kind_letter : Kind → ℕ
kind_letter Storey = 83
kind_letter Cellar = 67
