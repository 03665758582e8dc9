-- Laws of where lines end: of `ended`, `line_length` and `lines_of`, and of the search for the end of a line.
use Prim.Native.Nat.{ℕ, zero, suc, ◌+◌, ◌≤◌, ◌<◌}
use native.Mathlib.Decide.{ℕ_discrete}
use native.Mathlib.Nat.{add-zero, add_assoc}
use native.Mathlib.Numerals.{add-one}
use native.Mathlib.Omega.{arith}
use mathlib.Core.Bool.{Bool, true, false, false≢true, ◌||◌, or_assoc, or-true}
use mathlib.Core.List.{List, [], ◌∷◌, ◌++◌, append_assoc, append-nil}
use mathlib.Core.Path.{◌≡◌, refl, sym, ap, ◌∙◌}
use lib.Dec.{ltb}
use lib.ListN.{length, take, drop, length-append, length-drop, drop_of_length-le, take-append-drop}
use lib.Seq.{drop-length, take-append-add, take-append_seam, drop-append-add, drop-cons}
use borrow.Author.Tests.{eq-eqb, ne_eqb, lt-ltb, le-ltb}
use Rattle.std.proofs.Common.{Option, None, Some}
use Rattle.std.specs.Option.{unwrap_or}
use Rattle.memchr.specs.Find.{IsFirstByte, Nowhere, Passes, is_byte}
use Rattle.text.specs.LineEnd.{ended, line_length, in_front, lines_of}

pub ended_append : (a b : List ℕ) → ended (a ++ b) ≡ (ended a || ended b)
unfolding ended
ended_append [] b = refl
ended_append (byte ∷ a) b = rw (ended_append a b, or_assoc)

pub ended_cases : (P : Type 0) (l : List ℕ) → (ended l ≡ true → P) → (ended l ≡ false → P) → P
ended_cases P l is isnt = by (ended l) refl
  where
    by : (b : Bool) → ended l ≡ b → P
    by true e = is e
    by false e = isnt e

pub unended_take : (l : List ℕ) (n : ℕ) → ended l ≡ false → ended (take n l) ≡ false
unended_take l n e =
    ended_cases (ended (take n l) ≡ false) (take n l)
    (λ is. absurd (false≢true (sym e ∙ ap ended (sym (take-append-drop n l)) ∙ ended_append (take n l) (drop n l) ∙ rw is refl))) (λ isnt. isnt)

-- ── no byte 10 ──
pub line_length_append : (a b : List ℕ) → ended a ≡ false → line_length (a ++ b) ≡ length a + line_length b
unfolding ended line_length
line_length_append [] b e = omega arith
line_length_append (byte ∷ a) b e =
    elim (ℕ_discrete byte 10) [
      | yes is ↦ absurd (false≢true (sym e ∙ rw (eq-eqb byte 10 is)))
      | no isnt ↦ rw (ne_eqb byte 10 isnt) (omega (arith, line_length_append a b (rw (ne_eqb byte 10 isnt) at e)))
    ]

pub line_length_unended : (l : List ℕ) → ended l ≡ false → line_length l ≡ length l
unfolding line_length
line_length_unended l e = (rw append-nil at (line_length_append l [] e)) ∙ add-zero (length l)

-- ── the first line ──
pub line_length_line : (line rest : List ℕ) → ended line ≡ false → line_length (line ++ 10 ∷ rest) ≡ length line
unfolding line_length
line_length_line line rest e = line_length_append line (10 ∷ rest) e ∙ add-zero (length line)

pub ended_line : (line rest : List ℕ) → ended (line ++ 10 ∷ rest) ≡ true
unfolding ended
ended_line line rest = ended_append line (10 ∷ rest) ∙ or-true (ended line)

-- Bytes with a byte 10 are a line, its end and a rest.
pub line_cases : (P : List ℕ → Type 0) → ((line rest : List ℕ) → ended line ≡ false → P (line ++ 10 ∷ rest)) → (l : List ℕ) → ended l ≡ true → P l
unfolding ended
line_cases P all [] e = absurd (false≢true e)
line_cases P all (byte ∷ l) e =
    elim (ℕ_discrete byte 10) [
      | yes is ↦ rw is (all [] l refl)
      | no isnt ↦
          let other = ne_eqb byte 10 isnt in line_cases (λ m. P (byte ∷ m)) (λ line rest u. all (byte ∷ line) rest (rw other u)) l (rw other at e)
    ]

pub line_unended : (l : List ℕ) → ended l ≡ true → ended (take (line_length l) l) ≡ false
line_unended =
    line_cases (λ l. ended (take (line_length l) l) ≡ false) (λ line rest e. rw (line_length_line line rest e, take-append_seam) e)

pub line_length_ended : (l : List ℕ) → ended l ≡ true → line_length l < length l
line_length_ended =
    line_cases (λ l. line_length l < length l) (λ line rest e. simp (line_length_line line rest e, length-append) (omega arith))

pub line_length_most : (l : List ℕ) → line_length l ≤ length l
line_length_most l = ended_cases (line_length l ≤ length l) l (λ e. omega (arith, line_length_ended l e)) (λ e. omega (arith, line_length_unended l e))

-- The first line with its end.
pub line_with_end : (l : List ℕ) → ended l ≡ true → take (line_length l + 1) l ≡ take (line_length l) l ++ 10 ∷ []
line_with_end =
    line_cases (λ l. take (line_length l + 1) l ≡ take (line_length l) l ++ 10 ∷ [])
    (λ line rest e. rw (line_length_line line rest e, take-append-add line (10 ∷ rest) 1, take-append_seam))

-- ── the lines ──
-- Nonempty bytes have a first line, and behind its end the other lines.
pub lines_of_first : (l : List ℕ) → 0 < length l → lines_of l ≡ take (line_length l) l ∷ lines_of (drop (line_length l + 1) l)
unfolding lines_of line_length in_front
lines_of_first [] some = absurd (omega arith)
lines_of_first (byte ∷ []) some =
    elim (ℕ_discrete byte 10) [
      | yes is ↦ rw (eq-eqb byte 10 is)
      | no isnt ↦ rw (ne_eqb byte 10 isnt)
    ]
lines_of_first (byte ∷ next ∷ l) some =
    elim (ℕ_discrete byte 10) [
      | yes is ↦ rw (eq-eqb byte 10 is)
      | no isnt ↦ rw (ne_eqb byte 10 isnt, add-one) (ap (in_front byte) (rw add-one at (lines_of_first (next ∷ l) (omega arith))))
    ]

pub lines_of_line : (line rest : List ℕ) → ended line ≡ false → lines_of (line ++ 10 ∷ rest) ≡ line ∷ lines_of rest
lines_of_line line rest e =
    lines_of_first (line ++ 10 ∷ rest) (rw length-append (omega arith)) ∙ rw (line_length_line line rest e, take-append_seam, drop-append-add)

-- Bytes without byte 10 belong to the first line of what comes behind them.
pub lines_of_append : (a t : List ℕ) → ended a ≡ false → 0 < length a → lines_of (a ++ t) ≡ (a ++ take (line_length t) t) ∷ lines_of (drop (line_length t + 1) t)
lines_of_append a t e some =
    lines_of_first (a ++ t) (rw length-append (omega arith)) ∙ rw (line_length_append a t e, take-append-add, add_assoc, drop-append-add)

-- Bytes that are whole lines, whatever comes behind.
abbrev pub Whole : List ℕ → Type 0
Whole a = (t : List ℕ) → lines_of (a ++ t) ≡ lines_of a ++ lines_of t

pub whole_none : Whole []
unfolding lines_of
whole_none t = refl

pub whole_line : (line rest : List ℕ) → ended line ≡ false → Whole rest → Whole (line ++ 10 ∷ rest)
whole_line line rest e whole t = rw (append_assoc, lines_of_line line (rest ++ t) e, lines_of_line line rest e, whole t)

pub whole_append : (a b : List ℕ) → Whole a → Whole b → Whole (a ++ b)
whole_append a b whole_a whole_b t = rw (append_assoc, whole_a (b ++ t), whole_b t, whole_a b, append_assoc)

-- ── the search for the end of the line that begins at a place ──
-- Whether that line is ended.
pub ended_before : (l : List ℕ) (from : ℕ) → from ≤ length l → ltb (from + line_length (drop from l)) (length l) ≡ ended (drop from l)
ended_before l from within =
    let end = from + line_length (drop from l) in
    ended_cases (ltb end (length l) ≡ ended (drop from l)) (drop from l)
    (λ e. rw e (lt-ltb end (length l) (omega (arith, line_length_ended (drop from l) e, length-drop from l))))
    (λ e. rw e (le-ltb end (length l) (omega (arith, line_length_unended (drop from l) e, length-drop from l))))

pub ended_within : (l : List ℕ) (from : ℕ) → from ≤ length l → (from + line_length (drop from l) ≡ length l → ⊥) → ended (drop from l) ≡ true
ended_within l from within before =
    ended_cases (ended (drop from l) ≡ true) (drop from l) (λ e. e)
    (λ e. absurd (before (omega (arith, line_length_unended (drop from l) e, length-drop from l))))

pub unended_within : (l : List ℕ) (from : ℕ) → from + line_length (drop from l) ≡ length l → ended (drop from l) ≡ false
unended_within l from all =
    ended_cases (ended (drop from l) ≡ false) (drop from l)
    (λ e. absurd (omega (arith, line_length_ended (drop from l) e, length-drop from l))) (λ e. e)

-- It ends at once where no byte is left.
pub end_behind : (l : List ℕ) (from : ℕ) → length l ≤ from → from ≡ from + line_length (drop from l)
unfolding line_length
end_behind l from all = omega (arith, ap line_length (drop_of_length-le l all))

-- Bytes that are not byte 10 are passed.
line_length_passed : (l : List ℕ) (n : ℕ) → n ≤ length l → Nowhere (Passes (is_byte 10) l) 0 n → line_length l ≡ n + line_length (drop n l)
unfolding line_length
line_length_passed l zero within none = omega arith
line_length_passed [] (suc n) within none = elim within [ ]
line_length_passed (byte ∷ l) (suc n) within none =
    rw (ne_eqb byte 10 (λ is. none 0 (omega arith) (omega arith) (eq-eqb byte 10 is)))
    (omega (arith, line_length_passed l n (omega arith) (λ k low high is. none (suc k) (omega arith) (omega arith) is)))

-- A line is as long as the place of the first byte 10, or as all bytes where there is none.
pub line_length_first : (l : List ℕ) (place : Option ℕ) → IsFirstByte (is_byte 10) l place → unwrap_or place (length l) ≡ line_length l
unfolding line_length
line_length_first l None none = sym (line_length_passed l (length l) (omega arith) none ∙ omega (arith, ap line_length (drop-length l)))
line_length_first l (Some place) first =
    let within : place < length l = first.0.high in
    sym (line_length_passed l place (omega arith) first.0.before ∙ rw (drop-cons l place 0 within, first.1) (omega arith))
