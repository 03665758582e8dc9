-- Laws of the output: a line in front of an input is answered in front of the output for the rest.
use Prim.Native.Nat.{ℕ, ◌+◌, ◌<◌}
use native.Mathlib.Omega.{arith}
use mathlib.Core.Bool.{false}
use mathlib.Core.List.{List, [], ◌∷◌, ◌++◌, append_assoc, append-nil, flat_map}
use mathlib.Core.Path.{◌≡◌, refl, sym, ap, ◌∙◌}
use lib.ListN.{length, take, drop, length-append}
use Rattle.basis.specs.Result.{refused_with}
use Rattle.text.specs.LineEnd.{ended, line_length, lines_of}
use Rattle.text.proofs.LineEnd.{Whole, lines_of_line, lines_of_append}
use Rattle.report.specs.Text.{result_text}
use Rattle.lines.specs.Output.{line_text, output_of}
use Rattle.lines.specs.Claims.{last_text}
use Rattle.lines.proofs.LongLine.{long_line_malformed, schedule_result_lem}

pub output_none : output_of [] ≡ []
unfolding output_of lines_of flat_map
output_none = refl

pub output_line : (line rest : List ℕ) → ended line ≡ false → output_of (line ++ 10 ∷ rest) ≡ line_text line ++ output_of rest
unfolding output_of flat_map
output_line line rest e = rw (lines_of_line line rest e)

-- Bytes without byte 10 belong to the first line of what comes behind them.
output_begun : (a t : List ℕ) → ended a ≡ false → 0 < length a →
    output_of (a ++ t) ≡ line_text (a ++ take (line_length t) t) ++ output_of (drop (line_length t + 1) t)
unfolding output_of flat_map
output_begun a t e some = rw (lines_of_append a t e some)

pub output_last : (line : List ℕ) → ended line ≡ false → last_text line ≡ output_of line
unfolding line_length
output_last [] e = sym output_none
output_last (byte ∷ line) e = sym (rw (append-nil, output_none, append-nil) at (output_begun (byte ∷ line) [] e (omega arith)))

-- Two lines over 200 bytes, neither ended yet, have the same text whatever comes behind.
long_text : (line : List ℕ) → 200 < length line → line_text line ≡ result_text (refused_with 1)
unfolding line_text
long_text line long = ap result_text (schedule_result_lem line ∙ long_line_malformed line long)

output_overlong : (a t : List ℕ) → ended a ≡ false → 200 < length a → output_of (a ++ t) ≡ result_text (refused_with 1) ++ output_of (drop (line_length t + 1) t)
output_overlong a t e long =
    output_begun a t e (omega arith) ∙ rw (long_text (a ++ take (line_length t) t) (rw length-append (omega arith)))

pub output_long : (a b t : List ℕ) → ended a ≡ false → ended b ≡ false → 200 < length a → 200 < length b → output_of (a ++ t) ≡ output_of (b ++ t)
output_long a b t ea eb long_a long_b = output_overlong a t ea long_a ∙ sym (output_overlong b t eb long_b)

flat_map_append : (f : List ℕ → List ℕ) (a b : List (List ℕ)) → flat_map f (a ++ b) ≡ flat_map f a ++ flat_map f b
unfolding flat_map
flat_map_append f [] b = refl
flat_map_append f (line ∷ a) b = rw (flat_map_append f a b, append_assoc)

-- Whole lines are answered by themselves, whatever comes behind.
pub output_whole : (a t : List ℕ) → Whole a → output_of (a ++ t) ≡ output_of a ++ output_of t
unfolding output_of
output_whole a t whole = rw (whole t, flat_map_append)
