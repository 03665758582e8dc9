-- Bounds on what `answer` and `answer_last` hand back, for their caller.
use Prim.Native.Nat.{ℕ, ◌≤◌, ◌<◌}
use native.Mathlib.Omega.{arith}
use mathlib.Core.Bool.{true, or-true}
use mathlib.Core.List.{List, [], ◌∷◌}
use mathlib.Core.Path.{◌≡◌, sym, ap, ◌∙◌}
use lib.Dec.{leb}
use lib.ListN.{length, take, length-take, length-drop, take-append-drop}
use borrow.Author.Tests.{leb-true}
use Rattle.basis.proofs.Choice.{cond_cases}
use Rattle.text.specs.LineEnd.{ended}
use Rattle.text.proofs.LineEnd.{ended_append}
use Rattle.report.specs.Text.{result_text}
use Rattle.report.specs.Written.{Written}
use Rattle.lines.specs.declared.Progress.{Progress}
use Rattle.lines.specs.Output.{schedule_result, output_of}
use Rattle.lines.specs.Answer.{ended_length, answered_of, unanswered_of, held_of, room_for, Answered, answered, answered_last}
use Rattle.lines.proofs.EndedLines.{answer_takes_lines, held_fewer}
use Rattle.lines.proofs.Answering.{answered_fits}

-- The text fits the output, and what is held the input.
pub text_fits : (output bytes : List ℕ) → length (output_of (answered_of (room_for output) bytes)) ≤ length output
text_fits output bytes = omega (arith, answered_fits (room_for output) bytes)

pub held_fits : (most : ℕ) (input : List ℕ) (held : ℕ) → length (held_of (unanswered_of most (take held input))) ≤ length input
held_fits most input held =
    let bytes = take held input in
    omega (arith, held_fewer (unanswered_of most bytes), length-drop (ended_length most bytes) bytes, length-take held input)

module _
    (input : List ℕ) (held : ℕ) (output : List ℕ) {progress : Progress} {input' output' : List ℕ} {left : ℕ}
    (is : record { progress = progress; input = input'; held = left; output = output' } ≡ answered input held output) where
  pub written_within : progress.written ≤ length output
  unfolding answered
  written_within = omega (arith, ap (λ (a : Answered). a.progress.written) is, text_fits output (take held input))

  pub held_within : left ≤ length input
  unfolding answered
  held_within = omega (arith, ap (λ (a : Answered). a.held) is, held_fits (room_for output) input held)

  -- Where an ended line is left, at least one was taken.
  pub held_falls : 64 ≤ length output → progress.more ≡ true → left < held
  unfolding answered
  held_falls room more =
      let most = room_for output in
      let bytes = take held input in
      let behind : ended (unanswered_of most bytes) ≡ true = sym (ap (λ (a : Answered). a.progress.more) is) ∙ more in
      let split = ap ended (sym (take-append-drop (ended_length most bytes) bytes)) ∙ ended_append (answered_of most bytes) (unanswered_of most bytes) in
      let before : ended bytes ≡ true = split ∙ rw (behind, or-true) in
      omega (
        arith,
        ap (λ (a : Answered). a.held) is,
        held_fewer (unanswered_of most bytes),
        answer_takes_lines most bytes (omega arith) before,
        length-take held input,
      )

last_count : (line output : List ℕ) → (answered_last line output).count ≤ length output
unfolding answered_last
last_count [] output = omega arith
last_count (byte ∷ bytes) output =
    let size = length (result_text (schedule_result (byte ∷ bytes))) in
    cond_cases (λ n. n ≤ length output) (leb size (length output)) (leb-true size (length output)) (λ _. omega arith)

pub last_within :
    (line output : List ℕ) {output' : List ℕ} {count : ℕ} → record { buffer = output'; count = count } ≡ answered_last line output → count ≤ length output
last_within line output is = omega (arith, ap (λ (w : Written). w.count) is, last_count line output)
