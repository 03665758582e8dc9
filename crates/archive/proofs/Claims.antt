-- The claims about archives.
use Prim.Native.Nat.{ℕ, zero, suc, ◌+◌, ◌-◌, ◌*◌, ◌≤◌, ◌<◌}
use native.Mathlib.Decide.{ℕ_discrete, dec_le}
use native.Mathlib.Omega.{arith}
use mathlib.Core.Bool.{true, false, false≢true, cond}
use lib.Dec.{eqb}
use Rattle.std.proofs.lemmas.List.Sums.{sum_by-cons, sum_by-append}
use mathlib.Core.List.{List, [], ◌∷◌, ◌++◌}
use mathlib.Core.Path.{◌≡◌, refl, sym, ap, ◌∙◌}
use lib.ListN.{length, take, drop, get_or, length-append, length-drop, take-append-drop}
use lib.Seq.{take-append-add, take-add, take-take, take-nil, length-take-le}
use Rattle.std.proofs.lemmas.List.Elements.{All-nil, All-cons}
use Rattle.std.specs.Prelude.{All, flat_map}
use Rattle.std.specs.List.{concat, count_by}
use Rattle.basis.proofs.Choice.{or_left, or_right}
use Rattle.text.specs.LineEnd.{ended, line_length, lines_of}
use Rattle.text.proofs.LineEnd.{ended_cases, line_cases, ended_line, line_length_line, lines_of_line, Whole, whole_none as Whole-none, whole_line as Whole-line}
use Rattle.archive.specs.Block.{block_of, whole_lines}
use Rattle.archive.specs.Packing.{storable, contents, archive_of}
use Rattle.archive.specs.Stream.{last_end, first_length}
use Rattle.archive.specs.Claims.{HoldsLines, NoLineSplit, SameBytes, SameLines, OpensWhereFull}
use Rattle.archive.proofs.Lines.{by_lines, ended_some, within_line, beyond_line, last_end_append, last_end_unended, last_end_line}
use Rattle.archive.proofs.Counting.{first_most}
use Rattle.archive.proofs.Packing.{whole_line, whole_unended, storable_unended, first_leaves, first_none, first_contents, contents_none}
use Rattle.archive.proofs.Settled.{first_capacity, block_length}

-- ── along the blocks ──
first_some : (t : List ℕ) → 0 < length t → storable t ≡ true → 0 < first_length t
first_some t more s =
    elim (ℕ_discrete (first_length t) 0) [
      | yes is ↦ absurd (false≢true (sym (first_none t more is) ∙ s))
      | no isnt ↦ omega arith
    ]

-- What holds of no text and no blocks, and of a text and its blocks where it holds of what the first block leaves, holds of each text that can be stored.
pub by_blocks :
    (P : List ℕ → List (List ℕ) → Type 0) → P [] []
    → ((t : List ℕ) → storable t ≡ true → 0 < first_length t → P (drop (first_length t) t) (contents (drop (first_length t) t))
    → P t (take (first_length t) t ∷ contents (drop (first_length t) t)))
    → (t : List ℕ) → storable t ≡ true → P t (contents t)
by_blocks P none block t s = go (length t + 1) t (omega arith) s
  where
    go : (k : ℕ) (t : List ℕ) → length t < k → storable t ≡ true → P t (contents t)
    go zero t h s = let z : ⊥ = omega arith in absurd z
    go (suc k) [] h s = rw contents_none none
    go (suc k) (byte ∷ l) h s =
        let t = byte ∷ l in
        let some = first_some t (omega arith) s in
        rw (first_contents t s (omega arith))
        (block t s some (go k (drop (first_length t) t) (omega (arith, length-drop (first_length t) t, first_most t, some, h)) (first_leaves t ∙ s)))

-- ── whole lines ──
none_whole : whole_lines [] ≡ true
unfolding whole_lines
none_whole = refl

-- The bytes up to the last end are whole lines.
front_unended : (l : List ℕ) → 0 < length l → ended l ≡ false → whole_lines (take (last_end l) l) ≡ true
front_unended l some e = rw (last_end_unended l e) none_whole

front_line : (line rest : List ℕ) → ended line ≡ false → whole_lines (take (last_end rest) rest) ≡ true
    → whole_lines (take (last_end (line ++ 10 ∷ rest)) (line ++ 10 ∷ rest)) ≡ true
front_line line rest e known =
    let n : last_end (line ++ 10 ∷ rest) ≡ length line + suc (last_end rest) = last_end_line line rest e ∙ omega arith in
    rw (n, take-append-add line (10 ∷ rest) (suc (last_end rest)), whole_line line (take (last_end rest) rest)) known

whole_front : (l : List ℕ) → whole_lines (take (last_end l) l) ≡ true
whole_front = by_lines (λ l. whole_lines (take (last_end l) l) ≡ true) (rw (take-nil (last_end [])) none_whole) front_unended front_line

whole_first : (t : List ℕ) → whole_lines (take (first_length t) t) ≡ true
whole_first t = rw (take-take (first_length t) 508 t (first_capacity t)) at (whole_front (take 508 t))

-- Whole lines are whole whatever comes behind them.
whole_lines_lem : (l : List ℕ) → whole_lines l ≡ true → Whole l
whole_lines_lem =
    by_lines (λ l. whole_lines l ≡ true → Whole l) (λ w. Whole-none) (λ l some e w. absurd (false≢true (sym (whole_unended l some e) ∙ w)))
    (λ line rest e known w. Whole-line line rest e (known (rw (whole_line line rest) at w)))

-- ── the blocks of a text ──
first_holds : (t : List ℕ) → 0 < first_length t → HoldsLines (take (first_length t) t)
first_holds t some =
    let size : length (take (first_length t) t) ≡ first_length t = length-take-le (first_length t) t (first_most t) in
    record { some = omega (arith, size, some); fits = omega (arith, size, first_capacity t); whole = whole_first t }

pub no_line_split : NoLineSplit
no_line_split =
    by_blocks (λ t blocks. All HoldsLines blocks) (All-nil HoldsLines)
    (λ t s some known. All-cons HoldsLines (take (first_length t) t) (contents (drop (first_length t) t)) (first_holds t some) known)

pub same_bytes : SameBytes
same_bytes =
    by_blocks (λ t blocks. concat blocks ≡ t) refl
    (λ t s some known. ap (λ l. take (first_length t) t ++ l) known ∙ take-append-drop (first_length t) t)

lines_none : [] ≡ lines_of []
unfolding lines_of
lines_none = refl

pub same_lines : SameLines
same_lines =
    by_blocks (λ t blocks. flat_map lines_of blocks ≡ lines_of t) lines_none
    (λ t s some known.
    let first = take (first_length t) t in
    let behind = drop (first_length t) t in
    ap (λ l. lines_of first ++ l) known ∙ sym (whole_lines_lem first (whole_first t) behind) ∙ ap lines_of (take-append-drop (first_length t) t))

pub archive_length : (text : List ℕ) → storable text ≡ true → length (archive_of text) ≡ 512 * length (contents text)
unfolding archive_of
archive_length =
    by_blocks (λ t blocks. length (flat_map block_of blocks) ≡ 512 * length blocks) refl
    (λ t s some known.
    let first = take (first_length t) t in
    omega (arith, known, length-append (block_of first) (flat_map block_of (contents (drop (first_length t) t))), block_length first (first_holds t some).fits))

-- Each block takes a byte or more.
pub blocks_few : (text : List ℕ) → storable text ≡ true → length (contents text) ≤ length text
blocks_few =
    by_blocks (λ t blocks. length blocks ≤ length t) (omega arith)
    (λ t s some known. omega (arith, known, length-drop (first_length t) t, first_most t, some))

-- ── a block is opened where the line does not fit ──
-- The first line with its end is whole in so many bytes.
module _ (line rest : List ℕ) (e : ended line ≡ false) (room : ℕ) (more : length line < room) where
  part_line : take room (line ++ 10 ∷ rest) ≡ line ++ 10 ∷ take (room - (length line + 1)) rest
  part_line =
      let whole : room ≡ length line + suc (room - (length line + 1)) = omega arith in
      ap (λ n. take n (line ++ 10 ∷ rest)) whole ∙ take-append-add line (10 ∷ rest) (suc (room - (length line + 1)))

  part_ended : ended (take room (line ++ 10 ∷ rest)) ≡ true
  part_ended = rw part_line (ended_line line (take (room - (length line + 1)) rest))

  part_line_length : line_length (take room (line ++ 10 ∷ rest)) ≡ line_length (line ++ 10 ∷ rest)
  part_line_length = rw (part_line, line_length_line line (take (room - (length line + 1)) rest) e, line_length_line line rest e) refl

ended_part : (l : List ℕ) → ended l ≡ true → (room : ℕ) → line_length l < room → ended (take room l) ≡ true
ended_part =
    line_cases (λ l. (room : ℕ) → line_length l < room → ended (take room l) ≡ true)
    (λ line rest e room more. part_ended line rest e room (rw (line_length_line line rest e) at more))

line_length_part : (l : List ℕ) → ended l ≡ true → (room : ℕ) → line_length l < room → line_length (take room l) ≡ line_length l
line_length_part =
    line_cases (λ l. (room : ℕ) → line_length l < room → line_length (take room l) ≡ line_length l)
    (λ line rest e room more. part_line_length line rest e room (rw (line_length_line line rest e) at more))

-- A first block that takes something takes the first line.
first_line_within : (t : List ℕ) → ended t ≡ true → 0 < first_length t → line_length t < first_length t
first_line_within =
    line_cases (λ t. 0 < first_length t → line_length t < first_length t)
    (λ line rest e some.
    rw (line_length_line line rest e)
    (elim (dec_le 508 (length line)) [
      | yes beyond ↦ absurd (let no· : ⊥ = omega (arith, beyond_line line rest 508 e beyond, some) in no·)
      | no fits ↦ omega (arith, within_line line rest 508 (508 - (length line + 1)) e (omega arith))
    ]))

-- The first line behind the first block does not fit that block.
next_line_beyond : (t : List ℕ) → ended (drop (first_length t) t) ≡ true → 508 < first_length t + (line_length (drop (first_length t) t) + 1)
next_line_beyond t e =
    let n = first_length t in
    let behind = drop n t in
    let room = 508 - n in
    elim (dec_le (line_length behind + 1) room) [
      | yes fits ↦
          let all : 508 ≡ n + room = omega (arith, first_capacity t) in
          let parts : take 508 t ≡ take n t ++ take room behind = ap (λ k. take k t) all ∙ take-add n room t in
          let some : ended (take room behind) ≡ true = ended_part behind e room (omega arith) in
          let longer = ap last_end parts ∙ last_end_append (take n t) (take room behind) some in
          absurd (let no· : ⊥ = omega (arith, longer, ended_some (take room behind) some, length-take-le n t (first_most t)) in no·)
      | no beyond ↦ omega (arith, first_capacity t)
    ]

storable_ended : (t : List ℕ) → 0 < length t → storable t ≡ true → ended t ≡ true
storable_ended t some s = ended_cases (ended t ≡ true) t (λ e. e) (λ e. absurd (false≢true (sym (storable_unended t some e) ∙ s)))

-- The blocks of a text that is not empty begin with its first line.
blocks_begin : (t : List ℕ) → storable t ≡ true → 0 < length (contents t) → (ended t ≡ true) × (line_length (get_or (contents t) 0 []) ≡ line_length t)
blocks_begin [] s some = absurd (let no· : ⊥ = omega (arith, ap length contents_none, some) in no·)
blocks_begin (byte ∷ l) s some =
    let t = byte ∷ l in
    let e = storable_ended t (omega arith) s in
    let first = first_contents t s (omega arith) in
    let within = first_line_within t e (first_some t (omega arith) s) in
    (e, ap (λ blocks. line_length (get_or blocks 0 [])) first ∙ line_length_part t e (first_length t) within)

-- Of two blocks that follow one another.
abbrev Full : List (List ℕ) → Type 0
Full blocks = (k : ℕ) → suc k < length blocks → 508 < length (get_or blocks k []) + (line_length (get_or blocks (suc k) []) + 1)

full_first : (t : List ℕ) → storable t ≡ true → Full (contents (drop (first_length t) t)) → Full (take (first_length t) t ∷ contents (drop (first_length t) t))
full_first t s known zero more =
    let behind = drop (first_length t) t in
    let begin = blocks_begin behind (first_leaves t ∙ s) (omega arith) in
    omega (arith, next_line_beyond t begin.0, begin.1, length-take-le (first_length t) t (first_most t))
full_first t s known (suc k) more = known k (omega arith)

pub opens_where_full : OpensWhereFull
opens_where_full = by_blocks (λ t blocks. Full blocks) (λ k more. absurd (let no· : ⊥ = omega (arith, more) in no·)) (λ t s some known. full_first t s known)

-- ── the lines counted ──
-- The bytes 10 of whole lines are as many as the lines.
abbrev pub line_ends : List ℕ → ℕ
line_ends = count_by (λ byte. eqb byte 10)

abbrev one_end : ℕ → ℕ
one_end byte = cond (eqb byte 10) 1 0

no_ends : (l : List ℕ) → ended l ≡ false → line_ends l ≡ 0
unfolding ended
no_ends [] e = refl
no_ends (byte ∷ l) e =
    let first : one_end byte ≡ 0 = rw (or_left (eqb byte 10) (ended l) e) refl in
    omega (arith, sum_by-cons one_end byte l, first, no_ends l (or_right (eqb byte 10) (ended l) e))

lines_counted_line :
    (line rest : List ℕ) → ended line ≡ false → (whole_lines rest ≡ true → line_ends rest ≡ length (lines_of rest))
    → whole_lines (line ++ 10 ∷ rest) ≡ true → line_ends (line ++ 10 ∷ rest) ≡ length (lines_of (line ++ 10 ∷ rest))
lines_counted_line line rest e known whole =
    let parts = sum_by-append one_end line (10 ∷ rest) in
    let behind = sum_by-cons one_end 10 rest in
    let others = known (rw (whole_line line rest) at whole) in
    omega (arith, parts, behind, no_ends line e, others, ap length (lines_of_line line rest e))

pub lines_counted : (l : List ℕ) → whole_lines l ≡ true → line_ends l ≡ length (lines_of l)
unfolding lines_of
lines_counted =
    by_lines (λ l. whole_lines l ≡ true → line_ends l ≡ length (lines_of l)) (λ whole. refl)
    (λ l some e whole. absurd (false≢true (sym (whole_unended l some e) ∙ whole))) lines_counted_line
