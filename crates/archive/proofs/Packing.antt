-- Laws of the packing of a text, along its lines: which texts can be stored, and what the first block takes.
use Prim.Native.Nat.{ℕ, zero, suc, ◌+◌, ◌-◌, ◌≤◌, ◌<◌}
use native.Mathlib.Decide.{dec_le}
use native.Mathlib.Nat.{zero-add}
use native.Mathlib.Omega.{arith}
use mathlib.Core.Bool.{Bool, true, false, false≢true, ◌&&◌, or-true}
use mathlib.Core.List.{List, [], ◌∷◌, ◌++◌, append_assoc, append-nil}
use mathlib.Core.Path.{◌≡◌, refl, sym, ap, ◌∙◌}
use lib.Dec.{eqb, leb}
use lib.ListN.{length, take, drop, get_or, length-append}
use lib.Seq.{take-append-add, drop-append-add, get_or-append_seam, take-nil, drop-nil}
use Rattle.std.proofs.lemmas.List.{get_or-append-add}
use borrow.Author.Tests.{eq-eqb, ne_eqb, le-leb, lt-leb}
use Rattle.std.specs.List.{list_all}
use Rattle.basis.proofs.Choice.{and_left, or_right}
use Rattle.text.specs.LineEnd.{ended, lines_of}
use Rattle.text.proofs.LineEnd.{unended_take, lines_of_line, ended_cases, line_cases}
use Rattle.archive.specs.Block.{whole_lines}
use Rattle.archive.specs.Packing.{ended_lines, storable, packed_behind, packed, contents, archive_of}
use Rattle.archive.specs.Stream.{last_end, first_length}
use Rattle.archive.proofs.Lines.{by_lines, last_end_unended, within_line, beyond_line}

-- ── whole lines ──
unended_get : (l : List ℕ) (i : ℕ) → ended l ≡ false → get_or l i 0 ≡ 10 → ⊥
unfolding ended
unended_get [] i e is = omega (arith, is)
unended_get (byte ∷ l) zero e is = false≢true (sym (rw (eq-eqb byte 10 is) at e))
unended_get (byte ∷ l) (suc i) e is = unended_get l i (or_right (eqb byte 10) (ended l) e) is

pub whole_unended : (l : List ℕ) → 0 < length l → ended l ≡ false → whole_lines l ≡ false
unfolding whole_lines
whole_unended l some e = rw (ne_eqb (length l) 0 (omega arith), ne_eqb (get_or l (length l - 1) 0) 10 (unended_get l (length l - 1) e)) refl

pub whole_line : (line rest : List ℕ) → whole_lines (line ++ 10 ∷ rest) ≡ whole_lines rest
unfolding whole_lines
whole_line line [] =
    let last : length (line ++ 10 ∷ []) - 1 ≡ length line = omega (arith, length-append line (10 ∷ [])) in
    rw (last, get_or-append_seam line 10 [] 0) (or-true (eqb (length (line ++ 10 ∷ [])) 0))
whole_line line (byte ∷ rest) =
    let all = length-append line (10 ∷ byte ∷ rest) in
    let last : length (line ++ 10 ∷ byte ∷ rest) - 1 ≡ length line + suc (length rest) = omega (arith, all) in
    let other : suc (length rest) - 1 ≡ length rest = omega arith in
    rw (
      last,
      get_or-append-add line (10 ∷ byte ∷ rest) (suc (length rest)) 0,
      other,
      ne_eqb (length (line ++ 10 ∷ byte ∷ rest)) 0 (omega (arith, all)),
      ne_eqb (length (byte ∷ rest)) 0 (omega arith),
    ) refl

-- ── the lines of a text ──
ended_lines_line : (line rest : List ℕ) → ended line ≡ false → ended_lines (line ++ 10 ∷ rest) ≡ (line ++ 10 ∷ []) ∷ ended_lines rest
unfolding ended_lines
ended_lines_line line rest e = rw (lines_of_line line rest e) refl

-- ── what can be stored ──
pub storable_none : storable [] ≡ true
unfolding storable whole_lines ended_lines lines_of
storable_none = refl

pub storable_unended : (l : List ℕ) → 0 < length l → ended l ≡ false → storable l ≡ false
unfolding storable
storable_unended l some e = rw (whole_unended l some e) refl

turned : (a b c : Bool) → (a && (b && c)) ≡ (b && (a && c))
turned true b c = refl
turned false true c = refl
turned false false c = refl

storable_line : (line rest : List ℕ) → ended line ≡ false → storable (line ++ 10 ∷ rest) ≡ (leb (length line + 1) 508 && storable rest)
unfolding storable
storable_line line rest e =
    rw (whole_line line rest, ended_lines_line line rest e, length-append line (10 ∷ []))
    (turned (whole_lines rest) (leb (length line + 1) 508) (list_all (λ l. leb (length l) 508) (ended_lines rest)))

-- What is whole of a text within so many bytes, at most as many as a block holds, leaves a rest that can be stored where the text can.
abbrev Leaves : List ℕ → Type 0
Leaves t = (room : ℕ) → room ≤ 508 → storable (drop (last_end (take room t)) t) ≡ storable t

leaves_unended : (l : List ℕ) → 0 < length l → ended l ≡ false → Leaves l
leaves_unended l some e room most = rw (last_end_unended (take room l) (unended_take l room e)) refl

leaves_line : (line rest : List ℕ) → ended line ≡ false → Leaves rest → Leaves (line ++ 10 ∷ rest)
leaves_line line rest e known room most =
    elim (dec_le (length line + 1) room) [
      | yes fits ↦
          let behind = room - (length line + 1) in
          let inner = last_end (take behind rest) in
          let n : last_end (take room (line ++ 10 ∷ rest)) ≡ length line + suc inner = within_line line rest room behind e (omega arith) ∙ omega arith in
          rw (n, drop-append-add line (10 ∷ rest) (suc inner), storable_line line rest e, le-leb (length line + 1) 508 (omega arith)) (known behind (omega arith))
      | no beyond ↦ rw (beyond_line line rest room e (omega arith)) refl
    ]

leaves : (t : List ℕ) → Leaves t
leaves = by_lines Leaves (λ room most. ap storable (drop-nil (last_end (take room [])))) leaves_unended leaves_line

-- ── the first block ──
pub first_leaves : (t : List ℕ) → storable (drop (first_length t) t) ≡ storable t
first_leaves t = leaves t 508 (omega arith)

first_none_line : (line rest : List ℕ) → ended line ≡ false → first_length (line ++ 10 ∷ rest) ≡ 0 → storable (line ++ 10 ∷ rest) ≡ false
first_none_line line rest e none =
    elim (dec_le (length line + 1) 508) [
      | yes fits ↦ absurd (let no· : ⊥ = omega (arith, within_line line rest 508 (508 - (length line + 1)) e (omega arith), none) in no·)
      | no beyond ↦ rw (storable_line line rest e, lt-leb (length line + 1) 508 (omega arith)) refl
    ]

-- Where it takes nothing, the text cannot be stored.
pub first_none : (t : List ℕ) → 0 < length t → first_length t ≡ 0 → storable t ≡ false
first_none t some none =
    ended_cases (storable t ≡ false) t
    (λ e. line_cases (λ t. first_length t ≡ 0 → storable t ≡ false) first_none_line t e none)
    (storable_unended t some)

-- ── the packing ──
-- With lines in the current block and room for so many bytes, the lines that fit are put behind them, and the others go into the next blocks.
abbrev PacksOn : List ℕ → Type 0
PacksOn t =
    whole_lines t ≡ true → (current : List ℕ) (room : ℕ) → length current + room ≡ 508
    → packed_behind current (ended_lines t) ≡ (current ++ take (last_end (take room t)) t) ∷ contents (drop (last_end (take room t)) t)

packs_on_none : PacksOn []
unfolding packed_behind ended_lines lines_of contents packed
packs_on_none whole current room all =
    let n = last_end (take room []) in
    rw (take-nil n, drop-nil n, append-nil current) refl

packs_on_unended : (l : List ℕ) → 0 < length l → ended l ≡ false → PacksOn l
packs_on_unended l some e whole = absurd (false≢true (sym (whole_unended l some e) ∙ whole))

packs_on_line : (line rest : List ℕ) → ended line ≡ false → PacksOn rest → PacksOn (line ++ 10 ∷ rest)
unfolding packed_behind contents packed
packs_on_line line rest e known whole current room all =
    let whole_rest : whole_lines rest ≡ true = rw (whole_line line rest) at whole in
    let first : List ℕ = line ++ 10 ∷ [] in
    let size : length first ≡ length line + 1 = length-append line (10 ∷ []) in
    elim (dec_le (length line + 1) room) [
      | yes fits ↦
          let behind = room - (length line + 1) in
          let inner = last_end (take behind rest) in
          let n : last_end (take room (line ++ 10 ∷ rest)) ≡ length line + suc inner = within_line line rest room behind e (omega arith) ∙ omega arith in
          let others = known whole_rest (current ++ first) behind (omega (arith, length-append current first, size)) in
          rw (
            ended_lines_line line rest e,
            le-leb (length current + length first) 508 (omega (arith, size)),
            n,
            take-append-add line (10 ∷ rest) (suc inner),
            drop-append-add line (10 ∷ rest) (suc inner),
          )
          (others
          ∙ ap (λ b. b ∷ contents (drop inner rest))
          (append_assoc current first (take inner rest) ∙ ap (λ b. current ++ b) (append_assoc line (10 ∷ []) (take inner rest))))
      | no beyond ↦
          rw (
            ended_lines_line line rest e,
            lt-leb (length current + length first) 508 (omega (arith, size)),
            beyond_line line rest room e (omega arith),
            append-nil current,
          ) (rw (ended_lines_line line rest e) refl)
    ]

packs_on : (t : List ℕ) → PacksOn t
packs_on = by_lines PacksOn packs_on_none packs_on_unended packs_on_line

pub storable_whole : (t : List ℕ) → storable t ≡ true → whole_lines t ≡ true
unfolding storable
storable_whole t s = and_left (whole_lines t) (list_all (λ l. leb (length l) 508) (ended_lines t)) s

-- The first line opens a block as one that has none yet takes it.
opened : (line rest : List ℕ) → ended line ≡ false → storable (line ++ 10 ∷ rest) ≡ true → contents (line ++ 10 ∷ rest) ≡ packed_behind [] (ended_lines (line ++ 10 ∷ rest))
unfolding contents packed packed_behind
opened line rest e s =
    let short = and_left (leb (length line + 1) 508) (storable rest) (sym (storable_line line rest e) ∙ s) in
    rw (ended_lines_line line rest e, length-append line (10 ∷ []), zero-add (length line + 1), short) refl

-- The first block of a text that can be stored.
pub first_contents : (t : List ℕ) → storable t ≡ true → 0 < length t → contents t ≡ take (first_length t) t ∷ contents (drop (first_length t) t)
first_contents t s some =
    ended_cases (contents t ≡ take (first_length t) t ∷ contents (drop (first_length t) t)) t
    (λ e.
    line_cases (λ t. storable t ≡ true → contents t ≡ packed_behind [] (ended_lines t)) opened t e s
    ∙ packs_on t (storable_whole t s) [] 508 (omega arith))
    (λ e. absurd (false≢true (sym (storable_unended t some e) ∙ s)))

pub contents_none : contents [] ≡ []
unfolding contents packed ended_lines lines_of
contents_none = refl

pub archive_none : archive_of [] ≡ []
unfolding archive_of
archive_none = rw contents_none refl
