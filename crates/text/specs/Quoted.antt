-- The bytes of a quoted text, where each character is one byte: examples are written as document 01 prints them.
use Rattle.std.specs.Prelude.{ℕ, List, [], ◌∷◌}
use Prim.Native.Char.{code}
use Prim.Native.String as Quoted
use Prim.Native.String.{String}

unfoldable pub bytes : String → List ℕ
bytes Quoted.[] = []
bytes (Quoted.◌∷◌ letter rest) = code letter ∷ bytes rest
