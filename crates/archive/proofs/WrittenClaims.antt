-- The claims about what is written to a buffer.
use Prim.Native.Nat.{ℕ, zero, suc, ◌+◌, ◌-◌, ◌*◌, ◌/◌, ◌%◌, ◌≤◌, ◌<◌}
use native.Mathlib.Decide.{dec_lt}
use native.Mathlib.Omega.{arith}
use mathlib.Core.Bool.{Bool, true, false, cond, ◌&&◌}
use mathlib.Core.List.{List, [], ◌∷◌, ◌++◌, append_assoc}
use mathlib.Core.Path.{◌≡◌, refl, sym, ap, ◌∙◌}
use lib.Dec.{leb}
use lib.ListN.{length, take, drop, get_or, set}
use lib.Seq.{take-set-lt, drop-append-add, take_at}
use borrow.Author.Tests.{le-leb, leb-true}
use Rattle.std.specs.Prelude.{All, flat_map, replicate, sum, Result, Ok, Err}
use Rattle.std.proofs.lemmas.List.Elements.{All-head, All-tail, All-nil, All-cons, All-append, All-replicate, All-take, All-drop}
use Rattle.std.proofs.lemmas.List.{ext_get_or, drop-set-lt, drop-set-add, take-set-le, get_or-take, get_or-drop}
use Rattle.std.specs.Result.{result_unwrap_or}
use Rattle.std.specs.List.{concat}
use Rattle.text.specs.LineEnd.{lines_of}
use Rattle.basis.proofs.Choice.{and_left, and_right, cond_cases}
use Rattle.buffer.specs.Overwrite.{overwrite}
use Rattle.buffer.proofs.Overwrite.{overwrite_start, overwrite_behind, overwrite_none}
use Rattle.archive.specs.Block.{two_bytes, block_of, valid, used_part, read_block}
use Rattle.archive.specs.Packing.{storable, contents, archive_of}
use Rattle.archive.specs.Stream.{first_length}
use Rattle.archive.specs.Entry.{Stored, stored, block_count}
use Rattle.archive.specs.Claims.{Bytes, HoldsLines, IsStored, block_at, WrittenAtPlace, WrittenReadsBack, ReadBackIsText, OneBlockLost, BytesBehindStay, SameCount, NothingWritten, EmptyTextTakesNone, OnlyTheseRefusals}
use Rattle.archive.proofs.Settled.{block_length}
use Rattle.archive.proofs.Claims.{by_blocks, no_line_split, same_bytes, same_lines, archive_length}
use Rattle.archive.proofs.Packing.{storable_none, contents_none, archive_none}
use Rattle.archive.proofs.BlockClaims.{less_tightly_read, changed_byte_refused}

-- ── whether it is written ──
stored_is : (text buffer : List ℕ) → IsStored text buffer → ◌≡◌ {A = Stored} (stored text buffer) (record { answer = Ok (length (contents text)); buffer = overwrite buffer 0 (archive_of text) })
unfolding stored
stored_is text buffer s = rw (s.good, le-leb (length (contents text)) (length buffer / 512) s.room) refl

pub same_count : SameCount
unfolding block_count
same_count text buffer s = ap (λ p. p.answer) (stored_is text buffer s) ∙ rw s.good refl

stored_not : (text buffer : List ℕ) → (IsStored text buffer → ⊥) → ◌≡◌ {A = Stored} (stored text buffer) (record { answer = Err 24; buffer = buffer })
unfolding stored
stored_not text buffer no_way =
    let none : Stored = record { answer = Err 24; buffer = buffer } in
    let room = leb (length (contents text)) (length buffer / 512) in
    cond_cases (λ p. p ≡ none) (storable text && room)
    (λ both.
    absurd
    (no_way (record { good = and_left (storable text) room both; room = leb-true (length (contents text)) (length buffer / 512) (and_right (storable text) room both) })))
    (λ _. refl)

pub nothing_written : NothingWritten
nothing_written text buffer no_way =
    let is = stored_not text buffer no_way in
    (ap (λ p. p.answer) is, ap (λ p. p.buffer) is)

-- ── its blocks ──
block_at_place :
    (blocks : List (List ℕ)) → All HoldsLines blocks → (behind : List ℕ) (k : ℕ) → k < length blocks
    → block_at k (flat_map block_of blocks ++ behind) ≡ block_of (get_or blocks k [])
block_at_place [] holds behind k within = absurd (let no· : ⊥ = omega (arith, within) in no·)
block_at_place (lines ∷ blocks) holds behind zero within =
    let size = block_length lines (All-head HoldsLines lines blocks holds).fits in
    ap (take 512) (append_assoc (block_of lines) (flat_map block_of blocks) behind) ∙ take_at (block_of lines) (flat_map block_of blocks ++ behind) 512 size
block_at_place (lines ∷ blocks) holds behind (suc k) within =
    let size = block_length lines (All-head HoldsLines lines blocks holds).fits in
    let place : 512 * suc k ≡ length (block_of lines) + 512 * k = omega (arith, size) in
    let others = flat_map block_of blocks ++ behind in
    rw (append_assoc (block_of lines) (flat_map block_of blocks) behind, place, drop-append-add (block_of lines) others (512 * k))
    (block_at_place blocks (All-tail HoldsLines lines blocks holds) behind k (omega arith))

module _ (text buffer : List ℕ) (s : IsStored text buffer) where
  -- Block k of the buffer.
  block_written : (k : ℕ) → k < length (contents text) → block_at k (stored text buffer).buffer ≡ block_of (get_or (contents text) k [])
  unfolding archive_of
  block_written k within =
      let size = archive_length text s.good in
      let whole : length (archive_of text) ≤ length buffer = omega (arith, size, s.room) in
      ap (λ p. block_at k p.buffer) (stored_is text buffer s) ∙ ap (block_at k) (overwrite_start buffer (archive_of text) whole)
      ∙ block_at_place (contents text) (no_line_split text s.good) (drop (length (archive_of text)) buffer) k within

  block_reads_back : (k : ℕ) → k < length (contents text) → read_block (block_at k (stored text buffer).buffer) ≡ Ok (get_or (contents text) k [])
  block_reads_back k within =
      let holds = no_line_split text s.good k [] within in
      ap read_block (block_written k within) ∙ less_tightly_read (get_or (contents text) k []) holds.fits holds.whole

pub written_at_place : WrittenAtPlace
written_at_place = block_written

pub written_reads_back : WrittenReadsBack
written_reads_back = block_reads_back

pub read_back_is_text : ReadBackIsText
read_back_is_text text buffer s yields size back =
    let one : (k : ℕ) → k < length yields → get_or yields k [] ≡ get_or (contents text) k [] =
    λ k few. ap (λ r. result_unwrap_or r []) (sym (back k few) ∙ block_reads_back text buffer s k (omega (arith, size, few))) in
    let all : yields ≡ contents text = ext_get_or [] yields (contents text) size one in
    (ap concat all ∙ same_bytes text s.good, ap (flat_map lines_of) all ∙ same_lines text s.good)

pub bytes_behind_stay : BytesBehindStay
unfolding stored
bytes_behind_stay text buffer =
    let count = 512 * length (contents text) in
    let room = leb (length (contents text)) (length buffer / 512) in
    cond_cases (λ (p : Stored). drop count p.buffer ≡ drop count buffer) (storable text && room)
    (λ both.
    let size : 0 + length (archive_of text) ≡ count = omega (arith, archive_length text (and_left (storable text) room both)) in
    rw size at (overwrite_behind buffer 0 (archive_of text)))
    (λ _. refl)

-- ── no block, and refusals ──
pub empty_text_takes_none : EmptyTextTakesNone
unfolding block_count stored
empty_text_takes_none buffer =
    let none : overwrite buffer 0 (archive_of []) ≡ buffer = ap (overwrite buffer 0) archive_none ∙ overwrite_none buffer 0 in
    (rw (storable_none, contents_none) refl, rw (storable_none, contents_none, none, le-leb 0 (length buffer / 512) (omega arith)) refl)

only_one : {A : Type 0} (good : Bool) (answer : A) (number refusal : ℕ) → cond {A = Result A ℕ} good (Ok answer) (Err number) ≡ Err refusal → refusal ≡ number
only_one true answer number refusal is = absurd cc
only_one false answer number refusal is = cc

answer_of :
    (good : Bool) (count : ℕ) (written buffer : List ℕ)
    → (cond {A = Stored} good (record { answer = Ok count; buffer = written }) (record { answer = Err 24; buffer = buffer })).answer
    ≡ cond {A = Result ℕ ℕ} good (Ok count) (Err 24)
answer_of true count written buffer = refl
answer_of false count written buffer = refl

pub only_these_refusals : OnlyTheseRefusals
unfolding block_count stored read_block
only_these_refusals text buffer block refusal =
    let count = length (contents text) in
    let fits = storable text && leb count (length buffer / 512) in (
      only_one (storable text) count 24 refusal,
      (λ is. only_one fits count 24 refusal (sym (answer_of fits count (overwrite buffer 0 (archive_of text)) buffer) ∙ is)),
      only_one (valid block) (used_part block) 23 refusal,
    )

-- ── bytes ──
bytes_of_block : (lines : List ℕ) → length lines ≤ 508 → Bytes lines → Bytes (block_of lines)
unfolding block_of two_bytes
bytes_of_block lines fits bytes =
    let below : ℕ → Type 0 = λ byte. byte < 256 in
    let rest : List ℕ = lines ++ replicate (508 - length lines) 0 in
    let total : ℕ = (sum (two_bytes (length lines)) + sum rest) % 65536 in
    let behind = All-append below lines (replicate (508 - length lines) 0) bytes (All-replicate below (508 - length lines) 0 (omega arith)) in
    All-cons below (length lines % 256) (length lines / 256 ∷ total % 256 ∷ total / 256 ∷ rest) (omega arith)
    (All-cons below (length lines / 256) (total % 256 ∷ total / 256 ∷ rest) (omega (arith, fits))
    (All-cons below (total % 256) (total / 256 ∷ rest) (omega arith) (All-cons below (total / 256) rest (omega arith) behind)))

bytes_of_contents : (text : List ℕ) → storable text ≡ true → Bytes text → All Bytes (contents text)
bytes_of_contents =
    by_blocks (λ t blocks. Bytes t → All Bytes blocks) (λ _. All-nil Bytes)
    (λ t s some known bytes.
    let n = first_length t in
    All-cons Bytes (take n t) (contents (drop n t)) (All-take (λ byte. byte < 256) n t bytes) (known (All-drop (λ byte. byte < 256) n t bytes)))

-- ── one byte changed ──
module _ (archive : List ℕ) (place byte k : ℕ) where
  -- In block k, or elsewhere.
  changed_here : k ≡ place / 512 → block_at k (set archive place byte) ≡ set (block_at k archive) (place % 512) byte
  changed_here here =
      let inner = place % 512 in
      let is : place ≡ 512 * k + inner = omega (arith, here) in
      ap (λ p. block_at k (set archive p byte)) is ∙ ap (take 512) (drop-set-add (512 * k) archive inner byte)
      ∙ take-set-lt 512 (drop (512 * k) archive) inner byte (omega arith)

  changed_elsewhere : (k ≡ place / 512 → ⊥) → block_at k (set archive place byte) ≡ block_at k archive
  changed_elsewhere elsewhere =
      elim (dec_lt place (512 * k)) [
        | yes before ↦ ap (take 512) (drop-set-lt (512 * k) archive place byte before)
        | no behind ↦
            let inner = place - 512 * k in
            let is : place ≡ 512 * k + inner = omega arith in
            let beyond : 512 ≤ inner = omega (arith, elsewhere, is) in
            ap (λ p. block_at k (set archive p byte)) is ∙ ap (take 512) (drop-set-add (512 * k) archive inner byte)
            ∙ take-set-le 512 (drop (512 * k) archive) inner byte beyond
      ]

  here_before : k ≡ place / 512 → get_or (block_at k archive) (place % 512) 0 ≡ get_or archive place 0
  here_before here = get_or-take 512 (drop (512 * k) archive) (place % 512) 0 (omega arith) ∙ get_or-drop (512 * k) archive (place % 512) 0 ∙ ap (λ p. get_or archive p 0) (omega (arith, here))

pub one_block_lost : OneBlockLost
one_block_lost text buffer s bytes place byte within below other k few =
    let archive = (stored text buffer).buffer in
    let holds = no_line_split text s.good k [] few in
    let good = bytes_of_block (get_or (contents text) k []) holds.fits (bytes_of_contents text s.good bytes k [] few) in
    let back = block_reads_back text buffer s k few in (
      (λ here.
          ap read_block (changed_here archive place byte k here)
          ∙ changed_byte_refused (block_at k archive) (get_or (contents text) k []) (rw (← block_written text buffer s k few) at good) back (place % 512) byte
          (omega arith) below (λ is. other (is ∙ here_before archive place byte k here))),
      (λ elsewhere. ap read_block (changed_elsewhere archive place byte k elsewhere) ∙ back),
    )
