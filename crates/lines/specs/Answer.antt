-- What is answered of the bytes at hand, however the input is cut into blocks.
use Rattle.std.specs.Prelude.{ℕ, zero, suc, ◌+◌, ◌/◌, cond, List, [], ◌∷◌, length, take, drop}
use Rattle.text.specs.LineEnd.{ended, line_length}
use Rattle.buffer.specs.Overwrite.{overwrite}
use Rattle.report.specs.Written.{Written, written}
use Rattle.lines.specs.declared.Progress.{Progress}
use Rattle.lines.specs.Output.{schedule_result, output_of}

-- How many bytes the first `most` ended lines have, each with its byte 10. Where fewer are ended, how many these have.
unfoldable pub ended_length : ℕ → List ℕ → ℕ
ended_length zero bytes = 0
ended_length (suc most) bytes = cond (ended bytes) (line_length bytes + 1 + ended_length most (drop (line_length bytes + 1) bytes)) 0

-- What is answered of the bytes at hand: their first `most` ended lines.
abbrev pub answered_of : ℕ → List ℕ → List ℕ
answered_of most bytes = take (ended_length most bytes) bytes

abbrev pub unanswered_of : ℕ → List ℕ → List ℕ
unanswered_of most bytes = drop (ended_length most bytes) bytes

-- What is held of the bytes that are not answered: all of them, but of a line that has no end yet at most 201 bytes. It is over 200 bytes
-- then, whatever comes behind.
unfoldable pub held_of : List ℕ → List ℕ
held_of bytes = cond (ended bytes) bytes (take 201 bytes)

-- How many lines the output surely has room for: the text of each has at most 64 bytes.
abbrev pub room_for : List ℕ → ℕ
room_for output = length output / 64

-- What `answer` hands back and leaves in the two buffers, with the first `held` bytes of the input at hand.
pub record Answered : Type 0 where
  pub progress : Progress
  pub input : List ℕ
  pub held : ℕ
  pub output : List ℕ

unfoldable pub answered : List ℕ → ℕ → List ℕ → Answered
answered input held output =
    let most = room_for output in
    let bytes = take held input in
    let text = output_of (answered_of most bytes) in
    let rest = unanswered_of most bytes in
    record {
      progress = record { written = length text; more = ended rest };
      input = overwrite input 0 (held_of rest);
      held = length (held_of rest);
      output = overwrite output 0 text;
    }

-- What `answer_last` leaves in the output and hands back: "nonempty input behind the last byte 10 counts as a line".
unfoldable pub answered_last : List ℕ → List ℕ → Written
answered_last [] output = record { buffer = output; count = 0 }
answered_last (byte ∷ bytes) output = written (schedule_result (byte ∷ bytes)) output
