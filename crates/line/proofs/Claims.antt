-- The claims on reading.
use Rattle.std.proofs.lemmas.Option.{none-some}
use Rattle.std.proofs.Common.{Option, Some, None}
use mathlib.Core.Path.{◌≡◌, refl, sym, ap, ◌∙◌}
use mathlib.Core.List.{[]}
use Rattle.walls.specs.declared.Wall.{Wall}
use Rattle.walls.specs.declared.Wall.TheVariants.{Storey, Cellar}
use Rattle.walls.specs.Check.{numbers_of}
use Rattle.line.specs.Grammar.{NineDigits, count_of, line_of}
use Rattle.line.specs.Automaton.{start, digit_of, next, run}
use Rattle.line.specs.Reading.{wall_of, answer, read_line, taken_from, taken, counted_reading}
use Rattle.line.specs.Claims.{CountOfNumbers, ReadingSound, ReadingComplete, MalformedExactly}
use Rattle.text.specs.Quoted.{bytes}
use Rattle.line.specs.Worked.{worked, WorkedLines}
use Rattle.line.proofs.Completeness.{answer_line}
use Rattle.line.proofs.Soundness.{run_spells, answer_spells}

pub count_of_numbers : CountOfNumbers
unfolding count_of
count_of_numbers (Storey w) = refl
count_of_numbers (Cellar w) = refl

pub reading_sound : ReadingSound
unfolding read_line
reading_sound l w e = answer_spells (run l start) l w (run_spells l start [] refl) e

pub reading_complete : ReadingComplete
unfolding count_of wall_of
reading_complete (Storey w) nine = answer_line 83 _ _ nine refl
reading_complete (Cellar w) nine = answer_line 67 _ _ nine refl

pub malformed_exactly : MalformedExactly
malformed_exactly l = (
  (λ e w nine line. none-some w (sym e ∙ ap read_line line ∙ reading_complete w nine)),
  (λ none. unread (read_line l) refl none),
)
  where
    unread : (r : Option Wall) → read_line l ≡ r → ((w : Wall) → NineDigits (numbers_of w) → l ≡ line_of w → ⊥) → r ≡ None
    unread (Some w) e none = let sound = reading_sound l w e in absurd (none w sound.1 sound.0)
    unread None e none = refl

pub worked_lines : WorkedLines
unfolding counted_reading read_line taken taken_from run next answer digit_of count_of wall_of bytes worked
worked_lines = refl
