-- Laws of what is packed of the bytes at hand.
use Prim.Native.Nat.{ℕ, zero, suc, ◌+◌, ◌-◌, ◌≤◌}
use native.Mathlib.Decide.{dec_le, ℕ_discrete}
use native.Mathlib.Nat.{zero-add}
use native.Mathlib.Omega.{arith}
use mathlib.Core.Bool.{Bool, true, false}
use mathlib.Core.List.{List, [], ◌∷◌}
use mathlib.Core.Path.{◌≡◌, refl, sym, ap, ◌∙◌}
use lib.ListN.{length, length-replicate, take, drop, length-append, length-take}
use lib.Seq.{take-add, take-length, take-take}
use Rattle.std.proofs.lemmas.List.{take_all, drop-take}
use Rattle.std.specs.Prelude.{replicate}
use Rattle.text.specs.LineEnd.{ended}
use Rattle.basis.proofs.Choice.{cond_cases}
use Rattle.archive.specs.Block.{two_bytes, block_of}
use Rattle.archive.specs.Packing.{storable, contents}
use Rattle.archive.specs.Stream.{last_end, first_length, settled, packed_length, packed_of}
use Rattle.text.proofs.LineEnd.{unended_take}
use Rattle.archive.proofs.Lines.{last_end_most, last_end_unended_behind}
use Rattle.archive.proofs.Packing.{storable_none, first_leaves, first_contents, contents_none}
use Rattle.archive.proofs.Counting.{first_most}

-- ── the first block of a part ──
drop_last_end : (l : List ℕ) → ended (drop (last_end l) l) ≡ false
unfolding last_end ended
drop_last_end [] = refl
drop_last_end (byte ∷ l) = cond_cases (λ n. ended (drop n (byte ∷ l)) ≡ false) (ended (byte ∷ l)) (λ _. drop_last_end l) (λ e. e)

-- So many bytes are the whole lines and bytes without an end.
last_end_take : (l : List ℕ) (k : ℕ) → last_end l ≤ k → last_end (take k l) ≡ last_end (take (last_end l) l)
last_end_take l k h =
    let n = last_end l in
    let behind = k - n in
    let whole : k ≡ n + behind = omega arith in
    rw (whole, take-add n behind l)
    (last_end_unended_behind (take n l) (take behind (drop n l)) (unended_take (drop n l) behind (drop_last_end l)))

last_end_kept : (l : List ℕ) (k : ℕ) → last_end l ≤ k → last_end (take k l) ≡ last_end l
last_end_kept l k h =
    let all = last_end_take l (length l) (last_end_most l) in
    last_end_take l k h ∙ sym all ∙ ap last_end (take-length l)

-- Of a part that has the first block's lines, the first block takes the same.
pub first_prefix : (l : List ℕ) (k : ℕ) → first_length l ≤ k → first_length (take k l) ≡ first_length l
first_prefix l k h =
    elim (dec_le 508 k) [
      | yes most ↦ ap last_end (take-take 508 k l most)
      | no few ↦
          let size : length (take k l) ≤ 508 = omega (arith, length-take k l) in
          ap last_end (take_all 508 (take k l) size ∙ sym (take-take k 508 l (omega arith))) ∙ last_end_kept (take 508 l) k h
    ]

-- ── what is packed ──
pub packed_none : (most : ℕ) (complete : Bool) (bytes : List ℕ) → first_length bytes ≡ 0 → packed_length most complete bytes ≡ 0
unfolding packed_length
packed_none zero complete bytes none = refl
packed_none (suc most) complete bytes none =
    cond_cases (λ n. n ≡ 0) (settled complete bytes) (λ _. rw none (zero-add (packed_length most complete bytes) ∙ packed_none most complete bytes none)) (λ _. refl)

pub packed_unsettled : (most : ℕ) (complete : Bool) (bytes : List ℕ) → settled complete bytes ≡ false → packed_length most complete bytes ≡ 0
unfolding packed_length
packed_unsettled zero complete bytes open· = refl
packed_unsettled (suc most) complete bytes open· = rw open· refl

pub packed_more :
    (most : ℕ) (complete : Bool) (bytes : List ℕ) → settled complete bytes ≡ true
    → packed_length (suc most) complete bytes ≡ first_length bytes + packed_length most complete (drop (first_length bytes) bytes)
unfolding packed_length
packed_more most complete bytes known = rw known refl

-- A part of a text, from its beginning: the lines of the first block and more.
part_first : (l : List ℕ) (m : ℕ) → first_length (take (first_length l + m) l) ≡ first_length l
part_first l m = first_prefix l (first_length l + m) (omega arith)

part_behind : (l : List ℕ) (m : ℕ) → drop (first_length l) (take (first_length l + m) l) ≡ take m (drop (first_length l) l)
part_behind l m = drop-take (first_length l) m l

part_front : (l : List ℕ) (m : ℕ) → take (first_length l) (take (first_length l + m) l) ≡ take (first_length l) l
part_front l m = take-take (first_length l) (first_length l + m) l (omega arith)

part_storable : (l : List ℕ) (m : ℕ) → storable (take m (drop (first_length l) l)) ≡ true → storable (take (first_length l + m) l) ≡ true
part_storable l m s =
    sym (first_leaves (take (first_length l + m) l)) ∙ ap (λ n. storable (drop n (take (first_length l + m) l))) (part_first l m)
    ∙ ap storable (part_behind l m) ∙ s

pub part_contents :
    (l : List ℕ) (m : ℕ) → (first_length l ≡ 0 → ⊥) → storable (take m (drop (first_length l) l)) ≡ true
    → contents (take (first_length l + m) l) ≡ take (first_length l) l ∷ contents (take m (drop (first_length l) l))
part_contents l m some s =
    let part = take (first_length l + m) l in
    let size : first_length l ≤ length part = omega (arith, first_most part, part_first l m) in
    let blocks = first_contents part (part_storable l m s) (omega (arith, size, some)) in
    rw (part_first l m, part_front l m, part_behind l m) at blocks

-- Nothing is packed; or the first block, and what is packed behind it.
pub packed_cases :
    (most : ℕ) (complete : Bool) (bytes : List ℕ) (P : ℕ → Type 0) → P 0
    → (settled complete bytes ≡ true → (first_length bytes ≡ 0 → ⊥) → P (first_length bytes + packed_length most complete (drop (first_length bytes) bytes)))
    → P (packed_length (suc most) complete bytes)
unfolding packed_length
packed_cases most complete bytes P none more =
    elim (ℕ_discrete (first_length bytes) 0) [
      | yes is ↦ rw (packed_none (suc most) complete bytes is) none
      | no some ↦ cond_cases P (settled complete bytes) (λ known. more known some) (λ _. none)
    ]

-- What is packed can be stored, whatever comes behind it.
pub packed_storable : (most : ℕ) (complete : Bool) (bytes : List ℕ) → storable (packed_of most complete bytes) ≡ true
unfolding packed_length
packed_storable zero complete bytes = storable_none
packed_storable (suc most) complete bytes =
    let behind = packed_storable most complete (drop (first_length bytes) bytes) in
    packed_cases most complete bytes (λ n. storable (take n bytes) ≡ true) storable_none
    (λ known some. part_storable bytes (packed_length most complete (drop (first_length bytes) bytes)) behind)

-- The blocks of what is packed: none; or the first block, and those behind it.
packed_blocks :
    (most : ℕ) (complete : Bool) (bytes : List ℕ) (P : List (List ℕ) → Type 0) → P []
    → ((first_length bytes ≡ 0 → ⊥) → P (take (first_length bytes) bytes ∷ contents (packed_of most complete (drop (first_length bytes) bytes))))
    → P (contents (packed_of (suc most) complete bytes))
packed_blocks most complete bytes P none more =
    packed_cases most complete bytes (λ n. P (contents (take n bytes))) (rw contents_none none)
    (λ known some.
    let behind = drop (first_length bytes) bytes in
    rw (part_contents bytes (packed_length most complete behind) some (packed_storable most complete behind)) (more some))

pub packed_few : (most : ℕ) (complete : Bool) (bytes : List ℕ) → length (contents (packed_of most complete bytes)) ≤ most
unfolding packed_length
packed_few zero complete bytes = rw contents_none (omega arith)
packed_few (suc most) complete bytes =
    packed_blocks most complete bytes (λ b. length b ≤ suc most) (omega arith)
    (λ _. omega (arith, packed_few most complete (drop (first_length bytes) bytes)))

-- ── how many bytes the blocks have ──
pub block_length : (lines : List ℕ) → length lines ≤ 508 → length (block_of lines) ≡ 512
unfolding block_of two_bytes
block_length lines fits =
    let zeros : List ℕ = replicate (508 - length lines) 0 in
    omega (arith, length-append lines zeros, length-replicate {A = ℕ} (508 - length lines) 0)

pub first_capacity : (bytes : List ℕ) → first_length bytes ≤ 508
first_capacity bytes = omega (arith, last_end_most (take 508 bytes), length-take 508 bytes)

pub first_short : (bytes : List ℕ) → length (take (first_length bytes) bytes) ≤ 508
first_short bytes = omega (arith, length-take (first_length bytes) bytes, first_capacity bytes)
