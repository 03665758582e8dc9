-- A call of `answer` in plain numbers: what its steps give is what `answered` says.
use Prim.Native.Nat.{ℕ, ◌+◌, ◌-◌, ◌≤◌, min}
use native.Mathlib.Nat.{min-le_right}
use native.Mathlib.Omega.{arith}
use mathlib.Core.Bool.{cond}
use mathlib.Core.List.{List}
use mathlib.Core.Path.{◌≡◌, refl, sym, ap, ◌∙◌}
use lib.Dec.{ltb}
use lib.ListN.{length, take, drop, length-drop}
use lib.Seq.{length-take-le, take-take}
use Rattle.basis.proofs.Choice.{cond_cases}
use Rattle.text.specs.LineEnd.{ended, line_length}
use Rattle.text.proofs.LineEnd.{ended_before}
use Rattle.std.specs.List.{copy_within}
use Rattle.std.proofs.lemmas.List.{drop-take}
use Rattle.buffer.specs.Overwrite.{overwrite}
use Rattle.buffer.proofs.Overwrite.{copied_to_front}
use Rattle.lines.specs.Output.{output_of}
use Rattle.lines.specs.Answer.{ended_length, answered_of, held_of, answered, room_for}
use Rattle.lines.proofs.EndedLines.{ended_length_within, take_min, held_take}

-- The first `held` bytes of the input are at hand; of these, `taken` are answered.
module _
    (input output : List ℕ) (held : ℕ) {taken : ℕ} (within : held ≤ length input) (t : taken ≡ ended_length (room_for output) (take held input)) where
  block_length : length (take held input) ≡ held
  block_length = length-take-le held input within

  pub taken_within : taken ≤ held
  taken_within = omega (arith, ended_length_within (room_for output) (take held input), block_length)

  rest_is : drop taken (take held input) ≡ take (held - taken) (drop taken input)
  rest_is =
      let whole : taken + (held - taken) ≡ held = omega (arith, taken_within) in
      rw whole at (drop-take taken (held - taken) input)

  rest_length : length (drop taken (take held input)) ≡ held - taken
  rest_length = length-drop taken (take held input) ∙ ap (λ (n : ℕ). n - taken) block_length

  -- The line that begins at `taken` ends at `stop`, and `left` bytes are held.
  module _ {stop left : ℕ} (s : stop ≡ taken + line_length (drop taken (take held input))) (l : left ≡ cond (ltb stop held) (held - taken) (min 201 (held - taken))) where
    more_is : ltb stop held ≡ ended (drop taken (take held input))
    more_is = rw s (rw block_length at (ended_before (take held input) taken (omega (arith, taken_within, block_length))))

    left_most : left ≤ held - taken
    left_most = rw l (cond_cases (λ n. n ≤ held - taken) (ltb stop held) (λ _. omega arith) (λ _. min-le_right 201 (held - taken)))

    pub left_within : taken + left ≤ length input
    left_within = omega (arith, left_most, taken_within, within)

    held_is : take left (drop taken (take held input)) ≡ held_of (drop taken (take held input))
    held_is = rw (l, more_is, ← rest_length) (held_take (drop taken (take held input)))

    moved_is : take left (drop taken input) ≡ held_of (drop taken (take held input))
    moved_is = sym (take-take left (held - taken) (drop taken input) left_most) ∙ rw (← rest_is) held_is

    left_is : left ≡ length (held_of (drop taken (take held input)))
    left_is = sym (ap length (sym held_is) ∙ length-take-le left _ (omega (arith, left_most, rest_length)))

    pub answered_is :
        {filled : ℕ} {input' output' : List ℕ} → filled ≡ length (output_of (answered_of (room_for output) (take held input)))
        → output' ≡ overwrite output 0 (output_of (answered_of (room_for output) (take held input))) → input' ≡ copy_within input taken (taken + left) 0
        → record { progress = record { written = filled; more = ltb stop held }; input = input'; held = left; output = output' } ≡ answered input held output
    unfolding answered
    answered_is f o i =
        let filled_is = rw (← t) at f in
        let output_is = rw (← t) at o in
        rw (← t)
        (λ j. record {
          progress = record { written = filled_is j; more = more_is j };
          input = (i ∙ copied_to_front input taken left left_within ∙ ap (overwrite input 0) moved_is) j;
          held = left_is j;
          output = output_is j;
        })

-- A buffer and a number of bytes, whatever it is: what `Input::new` holds of them is answered as these are.
pub answered_clipped : (input : List ℕ) (held : ℕ) (output : List ℕ) → answered input (min held (length input)) output ≡ answered input held output
unfolding answered
answered_clipped input held output = rw (take_min held input) refl
