-- A line over 200 bytes is not of the form: a letter and its numbers, each a space and at most 9 digits, are fewer bytes.
use Rattle.std.proofs.Common.{Option, Some, None}
use Prim.Native.Nat.{ℕ, ◌*◌, ◌≤◌, ◌<◌}
use native.Mathlib.Omega.{arith}
use mathlib.Core.List.{List, [], ◌∷◌}
use mathlib.Core.Path.{◌≡◌, refl, ap}
use lib.ListN.{length, length-append}
use Rattle.walls.specs.declared.Wall.{Wall}
use Rattle.walls.specs.declared.Wall.TheVariants.{Storey, Cellar}
use Rattle.walls.specs.Check.{numbers_of}
use Rattle.line.specs.Grammar.{fields, NineDigits, line_of}
use Rattle.line.specs.Reading.{read_line}
use Rattle.text.proofs.Decimal.{decimal_length_bound}
use Rattle.line.proofs.Claims.{reading_sound}

fields_length : (ns : List ℕ) → NineDigits ns → length (fields ns) ≤ 10 * length ns
unfolding fields
fields_length [] nine = omega arith
fields_length (n ∷ ns) nine = rw length-append (omega (arith, decimal_length_bound 8 n nine.0, fields_length ns nine.1))

line_length_lem : (w : Wall) → NineDigits (numbers_of w) → length (line_of w) ≤ 200
line_length_lem (Storey w) nine = omega (arith, fields_length (numbers_of (Storey w)) nine)
line_length_lem (Cellar w) nine = omega (arith, fields_length (numbers_of (Cellar w)) nine)

pub long_line_unread : (line : List ℕ) → 200 < length line → read_line line ≡ None
long_line_unread line long = unread (read_line line) refl
  where
    unread : (r : Option Wall) → read_line line ≡ r → r ≡ None
    unread (Some w) e = let sound = reading_sound line w e in absurd (omega (arith, ap length sound.0, line_length_lem w sound.1))
    unread None e = refl
