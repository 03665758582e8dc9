-- Laws of the whole lines that a text begins with.
use Prim.Native.Nat.{ℕ, zero, suc, ◌+◌, ◌≤◌, ◌<◌, min}
use native.Mathlib.Nat.{min_comm}
use native.Mathlib.Numerals.{add-one}
use native.Mathlib.Omega.{arith}
use mathlib.Core.Bool.{true, false, false≢true, cond, ◌||◌, or-true, or-false}
use mathlib.Core.List.{List, [], ◌∷◌, ◌++◌}
use mathlib.Core.Path.{◌≡◌, refl, sym, ap, ◌∙◌}
use lib.ListN.{length, take, drop, get_or, length-append, take-append-drop}
use lib.Seq.{take-append-add, drop-cons, length-take-le}
use lib.Dec.{eqb}
use Rattle.std.proofs.Common.{None, Some}
use borrow.Author.Tests.{eq-eqb, ne_eqb, eqb-true}
use Rattle.std.proofs.lemmas.List.{take-append-le, take_min}
use Rattle.memchr.specs.Find.{IsLastByte, Nowhere, Passes, is_byte}
use Rattle.basis.proofs.Choice.{cond_cases}
use Rattle.text.specs.LineEnd.{ended}
use Rattle.text.proofs.LineEnd.{ended_append, unended_take, ended_cases, line_cases}
use Rattle.archive.specs.Stream.{last_end, first_length}

-- ── by lines ──
-- What holds of no bytes, of bytes without byte 10, and of a line with its end where it holds of what comes behind, holds of all bytes.
pub by_lines :
    (P : List ℕ → Type 0) → P [] → ((l : List ℕ) → 0 < length l → ended l ≡ false → P l)
    → ((line rest : List ℕ) → ended line ≡ false → P rest → P (line ++ 10 ∷ rest)) → (l : List ℕ) → P l
by_lines P none unended line l = go (length l + 1) l (omega arith)
  where
    go : (k : ℕ) (l : List ℕ) → length l < k → P l
    go zero l h = let z : ⊥ = omega arith in absurd z
    go (suc k) [] h = none
    go (suc k) (byte ∷ l) h =
        ended_cases (P (byte ∷ l)) (byte ∷ l)
        (λ e.
        line_cases (λ m. length m < suc k → P m)
        (λ first rest f short. line first rest f (go k rest (omega (arith, short, length-append first (10 ∷ rest))))) (byte ∷ l) e h)
        (λ e. unended (byte ∷ l) (omega arith) e)

-- ── the last end ──
pub last_end_unended : (l : List ℕ) → ended l ≡ false → last_end l ≡ 0
unfolding last_end
last_end_unended [] e = refl
last_end_unended (byte ∷ l) e = rw e refl

pub ended_some : (l : List ℕ) → ended l ≡ true → 0 < last_end l
unfolding ended last_end
ended_some [] e = absurd (false≢true e)
ended_some (byte ∷ l) e = rw e (omega arith)

pub last_end_append : (a b : List ℕ) → ended b ≡ true → last_end (a ++ b) ≡ length a + last_end b
unfolding last_end
last_end_append [] b e = omega arith
last_end_append (byte ∷ a) b e =
    let some : ended (byte ∷ (a ++ b)) ≡ true = ended_append (byte ∷ a) b ∙ rw e (or-true (ended (byte ∷ a))) in
    rw some (omega (arith, last_end_append a b e))

pub last_end_unended_behind : (a b : List ℕ) → ended b ≡ false → last_end (a ++ b) ≡ last_end a
unfolding last_end ended
last_end_unended_behind [] b e = last_end_unended b e
last_end_unended_behind (byte ∷ a) b e =
    rw (ended_append a b, e, or-false) (ap (λ n. cond (eqb byte 10 || ended a) (suc n) 0) (last_end_unended_behind a b e))

-- Behind a line with its end: what is whole behind it, or the line alone.
pub last_end_line : (line rest : List ℕ) → ended line ≡ false → last_end (line ++ 10 ∷ rest) ≡ length line + 1 + last_end rest
unfolding last_end ended
last_end_line line rest e = last_end_append line (10 ∷ rest) refl ∙ omega arith

pub last_end_most : (l : List ℕ) → last_end l ≤ length l
unfolding last_end
last_end_most [] = omega arith
last_end_most (byte ∷ l) = cond_cases (λ n. n ≤ suc (length l)) (ended (byte ∷ l)) (λ _. omega (arith, last_end_most l)) (λ _. omega arith)

-- ── the last end within so many bytes ──
pub within_line :
    (line rest : List ℕ) (room behind : ℕ) → ended line ≡ false → room ≡ length line + 1 + behind
    → last_end (take room (line ++ 10 ∷ rest)) ≡ length line + 1 + last_end (take behind rest)
within_line line rest room behind e r =
    let whole : room ≡ length line + suc behind = r ∙ omega arith in
    rw (whole, take-append-add line (10 ∷ rest) (suc behind)) (last_end_line line (take behind rest) e)

pub beyond_line : (line rest : List ℕ) (room : ℕ) → ended line ≡ false → room ≤ length line → last_end (take room (line ++ 10 ∷ rest)) ≡ 0
beyond_line line rest room e h =
    rw (take-append-le room line (10 ∷ rest) h) (last_end_unended (take room line) (unended_take line room e))

-- ── as the last byte 10 is searched ──
-- Among the first 508 bytes, or all where there are fewer.
pub front_is : (text : List ℕ) {count : ℕ} → count ≡ min (length text) 508 → last_end (take count text) ≡ first_length text
front_is text c = rw (c, min_comm (length text) 508) (ap last_end (take_min 508 text))

unended_nowhere : (l : List ℕ) (from : ℕ) → Nowhere (Passes (is_byte 10) l) from (length l) → ended (drop from l) ≡ false
unfolding ended
unended_nowhere [] zero none = refl
unended_nowhere [] (suc from) none = refl
unended_nowhere (byte ∷ l) zero none =
    rw (ne_eqb byte 10 (λ is. none 0 (omega arith) (omega arith) (eq-eqb byte 10 is)))
    (unended_nowhere l zero (λ k low high is. none (suc k) (omega arith) (omega arith) is))
unended_nowhere (byte ∷ l) (suc from) none = unended_nowhere l from (λ k low high is. none (suc k) (omega arith) (omega arith) is)

pub last_end_none : (l : List ℕ) → IsLastByte (is_byte 10) l None → 0 ≡ last_end l
last_end_none l none = sym (last_end_unended l (unended_nowhere l 0 none))

last_end_behind : (a b : List ℕ) → ended b ≡ false → last_end (a ++ 10 ∷ b) ≡ length a + 1
unfolding last_end ended
last_end_behind a b e = last_end_append a (10 ∷ b) refl ∙ omega (arith, last_end_unended b e)

pub last_end_some : (l : List ℕ) (place : ℕ) → IsLastByte (is_byte 10) l (Some place) → place + 1 ≡ last_end l
last_end_some l place last =
    let within : place < length l = last.0.high in
    let here : get_or l place 0 ≡ 10 = eqb-true (get_or l place 0) 10 last.1 in
    let behind : ended (drop (suc place) l) ≡ false = unended_nowhere l (suc place) (rw add-one at last.0.after) in
    let parts : take place l ++ 10 ∷ drop (suc place) l ≡ l = rw (← here, ← drop-cons l place 0 within) (take-append-drop place l) in
    sym (ap last_end (sym parts) ∙ last_end_behind (take place l) (drop (suc place) l) behind ∙ ap (λ n. n + 1) (length-take-le place l (omega arith)))
