-- Laws of a block: of its parts, of the block that holds some lines, and of what a block yields.
use Prim.Native.Nat.{ℕ, ◌+◌, ◌-◌, ◌%◌, ◌≤◌, ◌<◌}
use native.Mathlib.Omega.{arith}
use native.Mathlib.Decide.{ℕ_discrete}
use native.Mathlib.Nat.{zero-add}
use mathlib.Core.Bool.{Bool, true, false, cond, ◌&&◌, and-false, and_assoc}
use mathlib.Core.List.{List, [], ◌∷◌, ◌++◌, append-nil}
use mathlib.Core.Path.{◌≡◌, refl, sym, ap, ◌∙◌}
use lib.Dec.{eqb, leb}
use lib.ListN.{length, take, drop, get_or, length-append, length-replicate}
use lib.Seq.{drop-drop, drop-length}
use borrow.Author.Tests.{eq-eqb, ne_eqb, le-leb, lt-leb, eqb-true, leb-true}
use Rattle.std.proofs.Common.{w16, sum, replicate, Some}
use Rattle.std.specs.Int.{to_le_bytes}
use Rattle.std.specs.Int.Bits.{bit_or, or_zero_l}
use Rattle.std.proofs.lemmas.Nat.{le_or_l}
use Rattle.buffer.specs.Overwrite.{overwrite}
use Rattle.buffer.proofs.Overwrite.{overwrite_joins, overwrite_start}
use Rattle.std.specs.Prelude.{Result, Ok, Err}
use Rattle.std.specs.List.{slice_get, list_all}
use Rattle.std.proofs.lemmas.Option.{slice_get_within, get_or_from_slice_get}
use Rattle.std.proofs.lemmas.List.Sums.{sum_by-cons, sum_by-take-drop}
use Rattle.std.proofs.lemmas.List.Folds.{sum_by-replicate}
use Rattle.basis.proofs.Choice.{and_left, and_right, cond_cases}
use Rattle.archive.specs.Block.{two_bytes, block_of, number_at, used, sum_of_others, used_part, remainder, whole_lines, valid, read_block}

-- ── whole lines ──
pub whole_none : (bytes : List ℕ) → length bytes ≤ 0 → true ≡ whole_lines bytes
unfolding whole_lines
whole_none bytes none = rw (eq-eqb (length bytes) 0 (omega arith)) refl

pub whole_last : (bytes : List ℕ) (last : ℕ) → Some last ≡ slice_get bytes (length bytes - 1) → eqb last 10 ≡ whole_lines bytes
unfolding whole_lines
whole_last bytes last is =
    let some : 0 < length bytes = omega (arith, slice_get_within bytes (length bytes - 1) last (sym is)) in
    rw (← get_or_from_slice_get bytes (length bytes - 1) last 0 (sym is), ne_eqb (length bytes) 0 (omega (arith, some))) refl

-- ── sums of bytes ──
-- Bytes are zero where their sum is.
pub zeros_test : (l : List ℕ) → list_all (λ byte. eqb byte 0) l ≡ eqb (sum l) 0
zeros_test [] = refl
zeros_test (byte ∷ l) =
    elim (ℕ_discrete byte 0) [
      | yes is ↦ rw (eq-eqb byte 0 is, sum_by-cons (λ n. n) byte l, is, zero-add) (zeros_test l)
      | no isnt ↦ rw (ne_eqb byte 0 isnt, ne_eqb (sum (byte ∷ l)) 0 (omega (arith, sum_by-cons (λ n. n) byte l, isnt))) refl
    ]

-- Bits that are gathered are none where the sum is 0.
pub gathered_more : (gathered byte total : ℕ) → eqb gathered 0 ≡ eqb total 0 → eqb (bit_or gathered byte) 0 ≡ eqb (total + byte) 0
gathered_more gathered byte total same =
    elim (ℕ_discrete gathered 0) [
      | yes none ↦
          let nothing : total ≡ 0 = eqb-true total 0 (sym same ∙ eq-eqb gathered 0 none) in
          rw (none, or_zero_l byte, nothing, zero-add byte) refl
      | no some ↦
          let something : total ≡ 0 → ⊥ = λ is. some (eqb-true gathered 0 (same ∙ eq-eqb total 0 is)) in
          let more = le_or_l gathered byte in
          ne_eqb (bit_or gathered byte) 0 (omega (arith, more, some)) ∙ sym (ne_eqb (total + byte) 0 (omega (arith, something)))
    ]

-- ── the block that holds some lines ──
two_bytes_low : (n : ℕ) → n < 65536 → to_le_bytes w16 n ≡ two_bytes n
unfolding two_bytes
two_bytes_low n h = ap (λ (high : ℕ). n % 256 ∷ high ∷ []) (omega arith)

pub sum_zeros : (n : ℕ) → sum (replicate n 0) ≡ 0
sum_zeros n = sum_by-replicate (λ n. n) n 0 ∙ omega arith

-- The lines put over the first bytes, and zeros over the others.
filled_up :
    (rest lines : List ℕ) (count : ℕ) → length lines + count ≡ length rest
    → overwrite (overwrite rest 0 lines) (length lines) (replicate count 0) ≡ lines ++ replicate count 0
filled_up rest lines count whole =
    let zeros : List ℕ = replicate count 0 in
    let length_zeros : length zeros ≡ count = length-replicate count 0 in
    let joined = rw zero-add at (overwrite_joins rest 0 lines zeros (omega (arith, length_zeros))) in
    let all : length rest ≡ length (lines ++ zeros) = simp length-append (omega (arith, length_zeros)) in
    joined ∙ overwrite_start rest (lines ++ zeros) (omega arith) ∙ rw (← all, drop-length rest) (append-nil (lines ++ zeros))

-- Head and rest as the writer makes them.
pub block_written :
    (lines rest : List ℕ) {front inner whole : ℕ} {count total head copied cleared : List ℕ} → length lines ≤ 508 → length rest ≡ 508
    → copied ≡ overwrite rest 0 lines → cleared ≡ overwrite copied (length lines) (replicate (508 - length lines) 0)
    → count ≡ to_le_bytes w16 (length lines) → front ≡ sum count % 65536 → inner ≡ sum cleared % 65536 → whole ≡ (front + inner) % 65536
    → total ≡ to_le_bytes w16 whole → head ≡ get_or count 0 0 ∷ get_or count 1 0 ∷ get_or total 0 0 ∷ get_or total 1 0 ∷ []
    → head ++ cleared ≡ block_of lines
unfolding block_of two_bytes
block_written lines rest {front} {inner} {whole} {count} {total} {head} {copied} {cleared} fits size copy clear c f i w t h =
    let zeros : List ℕ = replicate (508 - length lines) 0 in
    let rest_is = clear ∙ ap (λ b. overwrite b (length lines) zeros) copy ∙ filled_up rest lines (508 - length lines) (omega arith) in
    let count_is : count ≡ two_bytes (length lines) = c ∙ two_bytes_low (length lines) (omega arith) in
    let whole_is : whole ≡ (sum count + sum cleared) % 65536 = omega (arith, w, f, i) in
    let total_is : total ≡ two_bytes ((sum count + sum cleared) % 65536) =
    t ∙ ap (λ n. to_le_bytes w16 n) whole_is ∙ two_bytes_low ((sum count + sum cleared) % 65536) (omega arith) in
    rw (h, total_is, rest_is, count_is) refl

-- ── what a block yields ──
-- That a block is valid, in five facts.
pub record Valid (block : List ℕ) : Type 0 where
  pub size : length block ≡ 512
  pub count : used block ≤ 508
  pub total : number_at 2 block ≡ sum_of_others block
  pub rest : sum (remainder block) ≡ 0
  pub lines : whole_lines (used_part block) ≡ true

pub valid_parts : (block : List ℕ) → valid block ≡ true → Valid block
unfolding valid
valid_parts block all =
    let size = eqb (length block) 512 in
    let count = leb (used block) 508 in
    let total = eqb (number_at 2 block) (sum_of_others block) in
    let rest = list_all (λ byte. eqb byte 0) (remainder block) in
    let lines = whole_lines (used_part block) in
    let behind_size = and_right size (count && (total && (rest && lines))) all in
    let behind_count = and_right count (total && (rest && lines)) behind_size in
    let behind_total = and_right total (rest && lines) behind_count in
    record {
      size = eqb-true (length block) 512 (and_left size (count && (total && (rest && lines))) all);
      count = leb-true (used block) 508 (and_left count (total && (rest && lines)) behind_size);
      total = eqb-true (number_at 2 block) (sum_of_others block) (and_left total (rest && lines) behind_count);
      rest = eqb-true (sum (remainder block)) 0 (sym (zeros_test (remainder block)) ∙ and_left rest lines behind_total);
      lines = and_right rest lines behind_total;
    }

module _ (block : List ℕ) where
  pub valid_size : (length block ≡ 512 → ⊥) → false ≡ valid block
  unfolding valid
  valid_size other = rw (ne_eqb (length block) 512 other) refl

  pub valid_count : 508 < used block → false ≡ valid block
  unfolding valid
  valid_count above = rw (lt-leb (used block) 508 above) (sym (and-false (eqb (length block) 512)))

  -- Of a block of the right length and count, the tests of sum, remainder and lines, however its parts and their sums were found.
  pub valid_tests :
      {count total all stated others : ℕ} {rest lines behind : List ℕ} {zeros whole : Bool} → length block ≡ 512 → count ≤ 508 → count ≡ used block
      → rest ≡ drop 4 block → lines ≡ take count rest → behind ≡ drop count rest → total ≡ number_at 2 block → all ≡ sum block % 65536
      → stated ≡ sum (take 2 (drop 2 block)) % 65536 → others ≡ (all + (65536 - stated)) % 65536
      → zeros ≡ list_all (λ byte. eqb byte 0) behind → whole ≡ whole_lines lines
      → (eqb total others && zeros && whole) ≡ valid block
  unfolding valid used_part remainder sum_of_others
  valid_tests {count} {total} {all} {stated} {others} {rest} {lines} {behind} {zeros} {whole} size few is r l b t a s o z w =
      let in_range = le-leb (used block) 508 (rw is at few) in
      let lines_is : lines ≡ used_part block = rw (r, is) at l in
      let behind_is : behind ≡ remainder block = b ∙ rw (r, is) (drop-drop (used block) 4 block) in
      let front = sum_by-take-drop (λ n. n) block 2 in
      let inner = sum_by-take-drop (λ n. n) (drop 2 block) 2 in
      let others_are : others ≡ sum_of_others block = omega (arith, o, a, s, front, inner, ap sum (drop-drop 2 2 block)) in
      let zeros_are : zeros ≡ list_all (λ byte. eqb byte 0) (remainder block) = z ∙ ap (list_all (λ byte. eqb byte 0)) behind_is in
      let whole_is : whole ≡ whole_lines (used_part block) = w ∙ ap whole_lines lines_is in
      rw (eq-eqb (length block) 512 size, in_range, ← t, ← others_are, ← zeros_are, ← whole_is) (and_assoc (eqb total others) zeros whole)

pub valid_from : (block : List ℕ) → Valid block → true ≡ valid block
unfolding valid
valid_from block s =
    rw (
      eq-eqb (length block) 512 s.size,
      le-leb (used block) 508 s.count,
      eq-eqb (number_at 2 block) (sum_of_others block) s.total,
      zeros_test (remainder block),
      eq-eqb (sum (remainder block)) 0 s.rest,
      s.lines,
    ) refl

pub used_lem : (block : List ℕ) → used block ≡ number_at 0 block
unfolding used
used_lem block = refl

pub read_refused : (block : List ℕ) → false ≡ valid block → ◌≡◌ {A = Result (List ℕ) ℕ} (Err 23) (read_block block)
unfolding read_block
read_refused block s = rw (← s) refl

pub read_valid :
    (block : List ℕ) {count : ℕ} {rest lines : List ℕ} → true ≡ valid block → count ≡ used block → rest ≡ drop 4 block → lines ≡ take count rest
    → Ok lines ≡ read_block block
unfolding read_block used_part
read_valid block s is r l = rw (← s, ← is, ← r, ← l) refl

pub read_yields : (block : List ℕ) → Valid block → Ok (used_part block) ≡ read_block block
unfolding read_block
read_yields block s = rw (← valid_from block s) refl

-- Only a valid block yields, and it yields its used part.
pub read_only_valid : (block : List ℕ) {lines : List ℕ} → read_block block ≡ Ok lines → Valid block × (lines ≡ used_part block)
unfolding read_block
read_only_valid block {lines} is = step (valid block) refl is
  where
    step : (b : Bool) → valid block ≡ b → cond {A = Result (List ℕ) ℕ} b (Ok (used_part block)) (Err 23) ≡ Ok lines → Valid block × (lines ≡ used_part block)
    step true e is = (valid_parts block e, cc)
    step false e is = absurd cc

pub invalid_refused : (block : List ℕ) → (Valid block → ⊥) → read_block block ≡ Err 23
unfolding read_block
invalid_refused block invalid =
    cond_cases (λ r. r ≡ Err 23) (valid block) (λ all. absurd (invalid (valid_parts block all))) (λ _. refl)
