-- The claims about a run of `pack`.
use Prim.Native.Nat.{ℕ, zero, suc, ◌+◌, ◌≤◌}
use native.Mathlib.Decide.{ℕ_discrete}
use native.Mathlib.Omega.{arith}
use mathlib.Core.Bool.{Bool, true, false}
use mathlib.Core.List.{List, [], ◌++◌, append_assoc, append-nil}
use mathlib.Core.Path.{◌≡◌, refl, sym, ap, ◌∙◌}
use lib.ListN.{length, take, drop, length-append, length-drop}
use lib.Seq.{drop-drop, take-length}
use borrow.Author.Tests.{leb-true, le-leb}
use Rattle.std.specs.Prelude.{flat_map}
use Rattle.std.proofs.lemmas.List.{take-append-le, drop-append-le}
use Rattle.text.specs.LineEnd.{ended}
use Rattle.archive.specs.Block.{block_of}
use Rattle.archive.specs.Packing.{storable, archive_of}
use Rattle.archive.specs.Stream.{last_end, first_length, settled, packed_length, packed_of, unpacked_of, Run, stops, ends_early, reads, packs, finishes, RunWritesArchive, WholePacked, PackedUpToBadLine, NothingTaken, PackedIsStorable}
use Rattle.archive.proofs.Lines.{ended_some}
use Rattle.archive.proofs.Counting.{first_most}
use Rattle.archive.proofs.Packing.{archive_none}
use Rattle.archive.proofs.Settled.{packed_cases, packed_none, packed_more, packed_storable, part_contents}
use Rattle.archive.proofs.Storing.{all_packed}
use Rattle.archive.proofs.Claims.{blocks_few}
use Rattle.text.proofs.LineEnd.{ended_cases}

-- ── at the end of the input ──
-- As many blocks as there are bytes are enough.
packed_enough : (m n : ℕ) (t : List ℕ) → length t ≤ m → length t ≤ n → packed_length m true t ≡ packed_length n true t
packed_enough zero n t few enough = packed_none zero true t (omega (arith, first_most t)) ∙ sym (packed_none n true t (omega (arith, first_most t)))
packed_enough (suc m) zero t few enough =
    packed_none (suc m) true t (omega (arith, first_most t)) ∙ sym (packed_none zero true t (omega (arith, first_most t)))
packed_enough (suc m) (suc n) t few enough =
    elim (ℕ_discrete (first_length t) 0) [
      | yes none ↦ packed_none (suc m) true t none ∙ sym (packed_none (suc n) true t none)
      | no some ↦
          let size = length-drop (first_length t) t in
          let behind = packed_enough m n (drop (first_length t) t) (omega (arith, size)) (omega (arith, size)) in
          packed_more m true t refl ∙ ap (λ k. first_length t + k) behind ∙ sym (packed_more n true t refl)
    ]

abbrev archive_from : ℕ → List ℕ → List ℕ
archive_from most t = archive_of (packed_of most true t)

archive_enough : (m n : ℕ) (t : List ℕ) → length t ≤ m → length t ≤ n → archive_from m t ≡ archive_from n t
archive_enough m n t few enough = ap (λ k. archive_of (take k t)) (packed_enough m n t few enough)

-- ── a block of the bytes at hand ──
archive_more :
    (l : List ℕ) (m : ℕ) → (first_length l ≡ 0 → ⊥) → storable (take m (drop (first_length l) l)) ≡ true
    → archive_of (take (first_length l + m) l) ≡ block_of (take (first_length l) l) ++ archive_of (take m (drop (first_length l) l))
unfolding archive_of
archive_more l m some s = ap (flat_map block_of) (part_contents l m some s)

-- ── a step of a run ──
-- That an archive is what is packed of the bytes at hand, so many of them, and what is packed of the others and of the input.
abbrev Splits : ℕ → List ℕ → List ℕ → ℕ → Type 0
Splits most held input n = archive_from most (held ++ input) ≡ archive_of (take n held) ++ archive_from most (drop n held ++ input)

splits_none : (most : ℕ) (held input : List ℕ) → Splits most held input 0
splits_none most held input = rw archive_none refl

-- The first block is settled: it takes the same of the bytes at hand and of what comes behind them.
first_settled : (held input : List ℕ) → settled false held ≡ true → first_length (held ++ input) ≡ first_length held
first_settled held input known = ap last_end (take-append-le 508 held input (leb-true 508 (length held) known))

splits_first :
    (most m : ℕ) (held input : List ℕ) → first_length (held ++ input) ≡ first_length held → (first_length held ≡ 0 → ⊥) → storable (take m (drop (first_length held) held)) ≡ true
    → length (held ++ input) ≤ suc most → Splits most (drop (first_length held) held) input m → Splits (suc most) held input (first_length held + m)
splits_first most m held input first some s few others =
    let n = first_length held in
    let within : n ≤ length held = first_most held in
    let behind = drop n held in
    let front : take (first_length (held ++ input)) (held ++ input) ≡ take n held = ap (λ k. take k (held ++ input)) first ∙ take-append-le n held input within in
    let rest : drop (first_length (held ++ input)) (held ++ input) ≡ behind ++ input = ap (λ k. drop k (held ++ input)) first ∙ drop-append-le n held input within in
    let block = block_of (take n held) in
    let whole : archive_from (suc most) (held ++ input) ≡ block ++ archive_from most (behind ++ input) =
    ap (λ k. archive_of (take k (held ++ input))) (packed_more most true (held ++ input) refl)
    ∙ archive_more (held ++ input) (packed_length most true (drop (first_length (held ++ input)) (held ++ input))) (λ is. some (sym first ∙ is))
    (packed_storable most true (drop (first_length (held ++ input)) (held ++ input)))
    ∙ ap (λ b. block_of b ++ archive_from most (drop (first_length (held ++ input)) (held ++ input))) front
    ∙ ap (λ t. block ++ archive_from most t) rest in
    let fewer : length (drop m behind ++ input) ≤ most =
    omega (arith, length-append (drop m behind) input, length-drop m behind, length-drop n held, length-append held input, few, some, within) in
    let more : archive_from most (drop m behind ++ input) ≡ archive_from (suc most) (drop (n + m) held ++ input) =
    archive_enough most (suc most) (drop m behind ++ input) (omega (arith, fewer)) (omega (arith, fewer)) ∙ ap (λ t. archive_from (suc most) (t ++ input)) (drop-drop m n held) in
    whole ∙ ap (λ a. block ++ a) others ∙ sym (append_assoc block (archive_of (take m behind)) (archive_from most (drop m behind ++ input)))
    ∙ ap (λ a. a ++ archive_from most (drop m behind ++ input)) (sym (archive_more held m some s)) ∙ ap (λ a. archive_of (take (n + m) held) ++ a) more

-- What the first block takes of bytes at hand, once it is settled, does not change by what comes behind them.
abbrev Unchanged : Bool → List ℕ → Type 0
Unchanged complete input = (l : List ℕ) → settled complete l ≡ true → first_length (l ++ input) ≡ first_length l

splits :
    (complete : Bool) (input : List ℕ) → Unchanged complete input → (blocks most : ℕ) (held : List ℕ) → length (held ++ input) ≤ most
    → Splits most held input (packed_length blocks complete held)
unfolding packed_length
splits complete input same zero most held few = splits_none most held input
splits complete input same (suc blocks) zero held few =
    let none : first_length held ≡ 0 = omega (arith, first_most held, length-append held input, few) in
    rw (packed_none (suc blocks) complete held none) (splits_none zero held input)
splits complete input same (suc blocks) (suc most) held few =
    let n = first_length held in
    let m = packed_length blocks complete (drop n held) in
    packed_cases blocks complete held (Splits (suc most) held input) (splits_none (suc most) held input)
    (λ known some.
    let fewer : length (drop n held ++ input) ≤ most =
    omega (arith, length-append (drop n held) input, length-drop n held, length-append held input, few, some, first_most held) in
    splits_first most m held input (same held known) some (packed_storable blocks complete (drop n held)) few
    (splits complete input same blocks most (drop n held) fewer))

-- What is written and what can be packed of the rest make up the archive, before a step where they do behind it.
module _ (complete : Bool) (held input written rest : List ℕ) (same : Unchanged complete input) (blocks : ℕ) where
  step_writes :
      (written ++ archive_from (length rest) rest
      ≡ archive_from (length (unpacked_of blocks complete held ++ input)) (unpacked_of blocks complete held ++ input))
      → archive_of (packed_of blocks complete held) ++ written ++ archive_from (length rest) rest ≡ archive_from (length (held ++ input)) (held ++ input)
  step_writes others =
      let whole = length (held ++ input) in
      let n = packed_length blocks complete held in
      let behind = drop n held ++ input in
      let fewer : length behind ≤ whole = omega (arith, length-append (drop n held) input, length-drop n held, length-append held input) in
      append_assoc (archive_of (take n held)) written (archive_from (length rest) rest) ∙ ap (λ a. archive_of (take n held) ++ a) others
      ∙ ap (λ a. archive_of (take n held) ++ a) (archive_enough (length behind) whole behind (omega arith) fewer)
      ∙ sym (splits complete input same blocks whole held (omega arith))

run_writes : {held input written rest : List ℕ} → Run held input written rest
    → written ++ archive_from (length rest) rest ≡ archive_from (length (held ++ input)) (held ++ input)
run_writes (stops {held}) = ap (λ t. archive_from (length t) t) (sym (append-nil held))
run_writes (ends_early {held} {input} more none) =
    let whole = held ++ input in
    let known : settled false held ≡ true = le-leb 508 (length held) more in
    let nothing : first_length whole ≡ 0 = first_settled held input known ∙ none in
    let left = ap (λ n. archive_of (take n held)) (packed_none (length held) true held none) in
    left ∙ sym (ap (λ n. archive_of (take n whole)) (packed_none (length whole) true whole nothing))
run_writes (reads {held} {input} {written} {rest} piece run) = run_writes run ∙ ap (λ t. archive_from (length t) t) (append_assoc held piece input)
run_writes (packs {held} {input} {written} {rest} blocks run) =
    step_writes false held input written rest (λ l known. first_settled l input known) blocks (run_writes run)
run_writes (finishes {held} {written} {rest} blocks run) =
    step_writes true held [] written rest (λ l known. ap first_length (append-nil l)) blocks (run_writes run)

pub run_writes_archive : RunWritesArchive
run_writes_archive input written rest run none =
    let nothing : archive_from (length rest) rest ≡ [] = ap (λ n. archive_of (take n rest)) (packed_none (length rest) true rest none) ∙ archive_none in
    sym (append-nil written) ∙ ap (λ a. written ++ a) (sym nothing) ∙ run_writes run

-- ── what is packed of a whole input ──
pub whole_packed : WholePacked
whole_packed input s = ap (λ n. take n input) (all_packed (length input) input s (blocks_few input s)) ∙ take-length input

nothing_left : (most : ℕ) (t : List ℕ) → length t ≤ most → first_length (unpacked_of most true t) ≡ 0
unfolding packed_length
nothing_left zero t few = omega (arith, first_most t, few)
nothing_left (suc most) t few =
    elim (ℕ_discrete (first_length t) 0) [
      | yes none ↦ ap (λ n. first_length (drop n t)) (packed_none (suc most) true t none) ∙ none
      | no some ↦
          let behind = drop (first_length t) t in
          let fewer : length behind ≤ most = omega (arith, length-drop (first_length t) t, some, few) in
          ap (λ n. first_length (drop n t)) (packed_more most true t refl)
          ∙ ap first_length (sym (drop-drop (packed_length most true behind) (first_length t) t)) ∙ nothing_left most behind fewer
    ]

unended_front : (l : List ℕ) → first_length l ≡ 0 → ended (take 508 l) ≡ false
unended_front l none =
    ended_cases (ended (take 508 l) ≡ false) (take 508 l) (λ e. absurd (let no· : ⊥ = omega (arith, ended_some (take 508 l) e, none) in no·)) (λ e. e)

pub packed_up_to_bad_line : PackedUpToBadLine
packed_up_to_bad_line input = unended_front (unpacked_of (length input) true input) (nothing_left (length input) input (omega arith))

pub nothing_taken : NothingTaken
nothing_taken zero complete bytes some none known = absurd (let no· : ⊥ = omega (arith, some) in no·)
nothing_taken (suc most) complete bytes some none known =
    unended_front bytes (omega (arith, packed_more most complete bytes known, none))

pub packed_is_storable : PackedIsStorable
packed_is_storable = packed_storable
