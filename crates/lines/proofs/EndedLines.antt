-- Laws of what is answered of the bytes at hand and of what is held.
use Prim.Native.Nat.{ℕ, zero, suc, ◌+◌, ◌≤◌, min}
use native.Mathlib.Decide.{dec_le}
use native.Mathlib.Nat.{min-eq_left, min-eq_right}
use native.Mathlib.Omega.{arith}
use mathlib.Core.Bool.{true, false, cond}
use mathlib.Core.List.{List, [], ◌∷◌, ◌++◌, append_assoc}
use mathlib.Core.Path.{◌≡◌, refl, sym, ap, ◌∙◌}
use lib.ListN.{length, take, drop, length-append, length-take, length-drop, take-append-drop}
use lib.Seq.{take_all, take-length, length-take-le, take-append-add, drop-append-add}
use Rattle.basis.proofs.Choice.{cond_cases}
use Rattle.text.specs.LineEnd.{ended, line_length}
use Rattle.text.proofs.LineEnd.{unended_take, ended_line, line_length_line, line_cases, ended_cases, line_length_ended, Whole, whole_none, whole_line}
use Rattle.lines.specs.Output.{output_of}
use Rattle.lines.specs.Answer.{ended_length, answered_of, unanswered_of, held_of}
use Rattle.lines.specs.Claims.{AnswerTakesLines, LittleIsHeld}
use Rattle.lines.proofs.Output.{output_whole, output_long}

-- ── the bytes of the ended lines ──
pub ended_length_none : (most : ℕ) (bytes : List ℕ) → ended bytes ≡ false → ended_length most bytes ≡ 0
unfolding ended_length
ended_length_none zero bytes e = refl
ended_length_none (suc most) bytes e = rw e

pub ended_length_zero : (most : ℕ) (bytes : List ℕ) → most ≤ 0 → ended_length most bytes ≡ 0
unfolding ended_length
ended_length_zero zero bytes none = refl
ended_length_zero (suc most) bytes none = absurd (omega arith)

pub ended_length_more : (most : ℕ) (bytes : List ℕ) → ended bytes ≡ true →
    ended_length (suc most) bytes ≡ line_length bytes + 1 + ended_length most (drop (line_length bytes + 1) bytes)
unfolding ended_length
ended_length_more most bytes e = rw e

ended_length_line : (most : ℕ) (line rest : List ℕ) → ended line ≡ false → ended_length (suc most) (line ++ 10 ∷ rest) ≡ length line + suc (ended_length most rest)
ended_length_line most line rest e =
    ended_length_more most (line ++ 10 ∷ rest) (ended_line line rest)
    ∙ rw (line_length_line line rest e, drop-append-add line (10 ∷ rest) 1) (omega arith)

answered_line : (most : ℕ) (line rest : List ℕ) → ended line ≡ false → answered_of (suc most) (line ++ 10 ∷ rest) ≡ line ++ 10 ∷ answered_of most rest
answered_line most line rest e = rw (ended_length_line most line rest e) (take-append-add line (10 ∷ rest) _)

-- What holds of no bytes, and of a line in front of bytes that it holds of, holds of what is answered.
pub answered_cases :
    (P : ℕ → List ℕ → Type 0) → ((most : ℕ) → P most []) → ((most : ℕ) (line rest : List ℕ) → ended line ≡ false → P most rest → P (suc most) (line ++ 10 ∷ rest))
    → (most : ℕ) (bytes : List ℕ) → P most (answered_of most bytes)
unfolding ended_length
answered_cases P none more zero bytes = none zero
answered_cases P none more (suc most) bytes =
    ended_cases (P (suc most) (answered_of (suc most) bytes)) bytes
    (line_cases (λ l. P (suc most) (answered_of (suc most) l))
    (λ line rest e. rw (answered_line most line rest e) (more most line _ e (answered_cases P none more most rest))) bytes)
    (λ e. rw (ended_length_none (suc most) bytes e) (none (suc most)))

answered_whole : (most : ℕ) (bytes : List ℕ) → Whole (answered_of most bytes)
answered_whole = answered_cases (λ _ l. Whole l) (λ _. whole_none) (λ _. whole_line)

pub ended_length_within : (most : ℕ) (bytes : List ℕ) → ended_length most bytes ≤ length bytes
unfolding ended_length
ended_length_within zero bytes = omega arith
ended_length_within (suc most) bytes =
    ended_cases (ended_length (suc most) bytes ≤ length bytes) bytes
    (line_cases (λ l. ended_length (suc most) l ≤ length l)
    (λ line rest e. rw (ended_length_line most line rest e, length-append) (omega (arith, ended_length_within most rest))) bytes)
    (λ e. rw (ended_length_none (suc most) bytes e) (omega arith))

pub output_answered : (most : ℕ) (bytes t : List ℕ) → output_of (bytes ++ t) ≡ output_of (answered_of most bytes) ++ output_of (unanswered_of most bytes ++ t)
output_answered most bytes t =
    ap (λ (l : List ℕ). output_of (l ++ t)) (sym (take-append-drop (ended_length most bytes) bytes))
    ∙ rw append_assoc (output_whole (answered_of most bytes) (unanswered_of most bytes ++ t) (answered_whole most bytes))

-- An ended line at hand is taken.
pub answer_takes_lines : AnswerTakesLines
answer_takes_lines zero bytes positive e = absurd (omega arith)
answer_takes_lines (suc most) bytes positive e =
    let within = line_length_ended bytes e in
    rw length-drop (omega (arith, ended_length_more most bytes e))

-- ── what is held ──
held_cases : (P : List ℕ → Type 0) (bytes : List ℕ) → (ended bytes ≡ true → P bytes) → (ended bytes ≡ false → P (take 201 bytes)) → P (held_of bytes)
unfolding held_of
held_cases P bytes = cond_cases P (ended bytes)

pub little_is_held : LittleIsHeld
unfolding held_of
little_is_held bytes e = rw (e, length-take) (omega arith)

pub held_fewer : (bytes : List ℕ) → length (held_of bytes) ≤ length bytes
held_fewer bytes = held_cases (λ l. length l ≤ length bytes) bytes (λ _. omega arith) (λ _. rw length-take (omega arith))

pub held_kept : (bytes : List ℕ) → ended (held_of bytes) ≡ ended bytes
held_kept bytes = held_cases (λ l. ended l ≡ ended bytes) bytes (λ _. refl) (λ e. unended_take bytes 201 e ∙ sym e)

-- Holding less changes no output: a line is cut only where it is over 200 bytes and has no end yet, and still is so then.
output_cut : (bytes t : List ℕ) → ended bytes ≡ false → output_of (take 201 bytes ++ t) ≡ output_of (bytes ++ t)
output_cut bytes t e =
    elim (dec_le (length bytes) 201) [
      | yes few ↦ rw (take_all 201 bytes few)
      | no many ↦ output_long (take 201 bytes) bytes t (unended_take bytes 201 e) e (omega (arith, length-take-le 201 bytes (omega arith))) (omega arith)
    ]

pub output_held : (bytes t : List ℕ) → output_of (held_of bytes ++ t) ≡ output_of (bytes ++ t)
output_held bytes t = held_cases (λ l. output_of (l ++ t) ≡ output_of (bytes ++ t)) bytes (λ _. refl) (output_cut bytes t)

pub take_min : (n : ℕ) (l : List ℕ) → take (min n (length l)) l ≡ take n l
take_min n l =
    elim (dec_le n (length l)) [
      | yes few ↦ rw (min-eq_left few)
      | no many ↦ let all : length l ≤ n = omega arith in rw (min-eq_right all, take-length l, take_all n l all)
    ]

-- How many bytes are held, from the front of those that are not answered.
pub held_take : (bytes : List ℕ) → take (cond (ended bytes) (length bytes) (min 201 (length bytes))) bytes ≡ held_of bytes
unfolding held_of
held_take bytes = ended_cases _ bytes (λ e. rw e (take-length bytes)) (λ e. rw e (take_min 201 bytes))
