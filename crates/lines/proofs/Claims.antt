-- The claims on runs and on the calls that are their steps.
use Prim.Native.Nat.{ℕ}
use native.Mathlib.Nat.{le_trans}
use mathlib.Core.List.{List, [], ◌∷◌, ◌++◌, append_assoc, append-nil}
use mathlib.Core.Path.{◌≡◌, refl, sym}
use lib.ListN.{take}
use Rattle.buffer.proofs.Overwrite.{stands_first}
use Rattle.report.proofs.Written.{written_count}
use Rattle.lines.specs.Output.{schedule_result, line_text, output_of}
use Rattle.lines.specs.Answer.{unanswered_of, room_for, answered, answered_last}
use Rattle.lines.specs.Claims.{Run, stops, reads, answers, RunPrintsOutput, AnswerIsStep, LastIsAnswered}
use Rattle.lines.proofs.Output.{output_last}
use Rattle.lines.proofs.EndedLines.{output_answered, output_held, held_kept}
use Rattle.lines.proofs.Answering.{text_short}
use Rattle.lines.proofs.Bounds.{text_fits, held_fits}

-- What is printed so far, and then the output for what is at hand and comes behind, is the output for all of it.
run_output : {held input text rest : List ℕ} → Run held input text rest → (t : List ℕ) → output_of (held ++ input ++ t) ≡ text ++ output_of (rest ++ t)
run_output stops t = rw append-nil
run_output (reads {held = held} {input = input} block run) t = rw (← append_assoc held block input) (run_output run t)
run_output (answers {held = held} {input = input} most run) t =
    rw (
      append_assoc held input t,
      output_answered most held (input ++ t),
      ← output_held (unanswered_of most held) (input ++ t),
      ← append_assoc,
      run_output run t,
      append_assoc,
    )

pub run_prints_output : RunPrintsOutput
run_prints_output input text rest run e = rw (output_last rest e) (sym (rw (append-nil input, append-nil rest) at (run_output run [])))

pub answer_is_step : AnswerIsStep
unfolding answered
answer_is_step input held output =
    record {
      bytes = stands_first input _ (held_fits (room_for output) input held);
      text = stands_first output _ (text_fits output (take held input));
      more = sym (held_kept (unanswered_of (room_for output) (take held input)));
    }

pub last_is_answered : LastIsAnswered
unfolding answered_last line_text
last_is_answered [] output room = refl
last_is_answered (byte ∷ bytes) output room =
    let fits = le_trans (text_short (byte ∷ bytes)) room in
    rw (written_count (schedule_result (byte ∷ bytes)) output fits) (stands_first output _ fits)
