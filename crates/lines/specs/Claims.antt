-- The answers make up the output, wherever the input is cut into blocks.
use Rattle.std.specs.Prelude.{ℕ, ◌≤◌, ◌<◌, true, false, List, [], ◌∷◌, ◌++◌, ◌≡◌, length, take}
use Rattle.basis.specs.Result.{refused_with}
use Rattle.text.specs.LineEnd.{ended}
use Rattle.wallcheck.specs.Entry.{line_result}
use Rattle.lines.specs.Output.{line_text, output_of}
use Rattle.lines.specs.Answer.{answered_of, unanswered_of, held_of, room_for, Answered, answered, answered_last}

-- The rule "A line over 200 bytes is refusal 1" changes no result: such a line is "not a line of this form".
abbrev pub LongLineMalformed : Type 0
LongLineMalformed = (line : List ℕ) → 200 < length line → line_result line ≡ refused_with 1

-- A run of the program: `Run held input text rest` says that with the bytes `held` at hand it reads `input`, prints `text` and has `rest`
-- at hand then. It reads blocks of any length and answers any number of lines, in any order.
pub data Run : List ℕ → List ℕ → List ℕ → List ℕ → Type 0 where
  stops : {held : List ℕ} → Run held [] [] held
  reads : {held input text rest : List ℕ} (block : List ℕ) → Run (held ++ block) input text rest → Run held (block ++ input) text rest
  answers : {held input text rest : List ℕ} (most : ℕ) → Run (held_of (unanswered_of most held)) input text rest →
      Run held input (output_of (answered_of most held) ++ text) rest

-- The text of the line behind the last byte 10, unless it is empty.
abbrev pub last_text : List ℕ → List ℕ
last_text [] = []
last_text (byte ∷ bytes) = line_text (byte ∷ bytes)

-- A run that has read the whole input and has no ended line at hand has printed the output for that input, but for the last line's text.
abbrev pub RunPrintsOutput : Type 0
RunPrintsOutput = (input text rest : List ℕ) → Run [] input text rest → ended rest ≡ false → text ++ last_text rest ≡ output_of input

-- A call of `answer` is a step of a run: what is at hand behind it stands first in the input, the text first in the output, and `more`
-- says whether an ended line is at hand.
pub record IsStep (input : List ℕ) (held : ℕ) (output : List ℕ) (after : Answered) : Type 0 where
  pub bytes : take after.held after.input ≡ held_of (unanswered_of (room_for output) (take held input))
  pub text : take after.progress.written after.output ≡ output_of (answered_of (room_for output) (take held input))
  pub more : after.progress.more ≡ ended (held_of (unanswered_of (room_for output) (take held input)))

abbrev pub AnswerIsStep : Type 0
AnswerIsStep = (input : List ℕ) (held : ℕ) (output : List ℕ) → IsStep input held output (answered input held output)

-- A call of `answer_last` puts the last line's text first in the output.
abbrev pub LastIsAnswered : Type 0
LastIsAnswered = (line output : List ℕ) → 64 ≤ length output → take (answered_last line output).count (answered_last line output).buffer ≡ last_text line

-- A run comes to its end: while an ended line is at hand, an answer takes lines away; once none is, at most 201 bytes are held, so that
-- there is room to read more.
abbrev pub AnswerTakesLines : Type 0
AnswerTakesLines = (most : ℕ) (bytes : List ℕ) → 0 < most → ended bytes ≡ true → length (unanswered_of most bytes) < length bytes

abbrev pub LittleIsHeld : Type 0
LittleIsHeld = (bytes : List ℕ) → ended bytes ≡ false → length (held_of bytes) ≤ 201
