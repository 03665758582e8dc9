-- The blocks that `pack` has written so far: what it leaves at the end, in terms of what is left to pack.
use Prim.Native.Nat.{ℕ, zero, suc, ◌+◌, ◌-◌, ◌*◌, ◌/◌, ◌≤◌, ◌<◌}
use native.Mathlib.Omega.{arith}
use mathlib.Core.Bool.{Bool, true}
use mathlib.Core.List.{List, [], ◌∷◌, ◌++◌}
use mathlib.Core.Path.{◌≡◌, refl, ap, ◌∙◌}
use lib.ListN.{length, take, drop, length-drop}
use lib.Seq.{drop-drop}
use borrow.Rule.Slice.PartMut.{put_mid}
use Rattle.std.specs.Prelude.{flat_map}
use Rattle.buffer.specs.Overwrite.{overwrite}
use Rattle.buffer.proofs.Overwrite.{overwrite_length, overwrite_joins, overwrite_none, overwrite_lent}
use Rattle.archive.specs.Block.{block_of}
use Rattle.archive.specs.Packing.{contents, archive_of}
use Rattle.archive.specs.Stream.{first_length, settled, packed_length, packed_of, packed_into}
use Rattle.archive.proofs.Counting.{first_most}
use Rattle.archive.proofs.Packing.{contents_none, archive_none}
use Rattle.archive.proofs.Claims.{archive_length}
use Rattle.archive.proofs.Settled.{part_contents, packed_storable, packed_more, packed_few, block_length, first_short}

-- Of a text, `taken` bytes are in `blocks` blocks, which stand in the buffer, and there is room for `left` more.
pub record Placed (text : List ℕ) (complete : Bool) (before out : List ℕ) (left taken blocks : ℕ) : Type 0 where
  pub within : taken ≤ length text
  pub room : left + blocks ≡ length before / 512
  pub size : length out ≡ length before
  pub bytes : packed_length (length before / 512) complete text ≡ taken + packed_length left complete (drop taken text)
  pub count : length (contents (packed_of (length before / 512) complete text)) ≡ blocks + length (contents (packed_of left complete (drop taken text)))
  pub written :
      overwrite out (512 * blocks) (archive_of (packed_of left complete (drop taken text)))
      ≡ overwrite before 0 (archive_of (packed_of (length before / 512) complete text))

-- Nothing more is packed.
pub placed_done :
    {text : List ℕ} {complete : Bool} {before out : List ℕ} {left taken blocks : ℕ} → Placed text complete before out left taken blocks
    → packed_length left complete (drop taken text) ≡ 0
    → record { progress = record { taken = taken; blocks = blocks }; buffer = out } ≡ packed_into complete text before
unfolding packed_into
placed_done {text} {complete} {before} {out} {left} {taken} {blocks} p none =
    let nothing : packed_of left complete (drop taken text) ≡ [] = ap (λ n. take n (drop taken text)) none in
    let no_blocks : length (contents (packed_of left complete (drop taken text))) ≡ 0 = ap (λ t. length (contents t)) nothing ∙ ap length contents_none in
    let bytes : taken ≡ packed_length (length before / 512) complete text = omega (arith, p.bytes, none) in
    let count : blocks ≡ length (contents (packed_of (length before / 512) complete text)) = omega (arith, p.count, no_blocks) in
    let written : out ≡ overwrite before 0 (archive_of (packed_of (length before / 512) complete text)) =
    rw (nothing, archive_none, overwrite_none out (512 * blocks)) at p.written in
    λ i. record { progress = record { taken = bytes i; blocks = count i }; buffer = written i }

-- One block more.
module _ {text : List ℕ} {complete : Bool} {before out : List ℕ} {left taken blocks : ℕ} (p : Placed text complete before out (suc left) taken blocks)
    (known : settled complete (drop taken text) ≡ true) (some : first_length (drop taken text) ≡ 0 → ⊥) where
  abbrev pub rest : List ℕ
  rest = drop taken text

  abbrev pub first : ℕ
  first = first_length rest

  abbrev pub more : List ℕ
  more = drop first rest

  more_is : more ≡ drop (taken + first) text
  more_is = drop-drop first taken text

  bytes_is : packed_length (suc left) complete rest ≡ first + packed_length left complete more
  bytes_is = packed_more left complete rest known

  blocks_is : contents (packed_of (suc left) complete rest) ≡ take first rest ∷ contents (packed_of left complete more)
  blocks_is = ap (λ m. contents (take m rest)) bytes_is ∙ part_contents rest (packed_length left complete more) some (packed_storable left complete more)

  archive_is : archive_of (packed_of (suc left) complete rest) ≡ block_of (take first rest) ++ archive_of (packed_of left complete more)
  unfolding archive_of
  archive_is = ap (flat_map block_of) blocks_is

  written_is :
      overwrite (overwrite out (512 * blocks) (block_of (take first rest))) (512 * (blocks + 1)) (archive_of (packed_of left complete more))
      ≡ overwrite before 0 (archive_of (packed_of (length before / 512) complete text))
  written_is =
      let block = block_of (take first rest) in
      let others = archive_of (packed_of left complete more) in
      let size : length block ≡ 512 = block_length (take first rest) (first_short rest) in
      let place : 512 * (blocks + 1) ≡ 512 * blocks + length block = omega (arith, size) in
      let fits : 512 * blocks + (length block + length others) ≤ length out =
      omega (arith, size, p.size, p.room, archive_length (packed_of left complete more) (packed_storable left complete more), packed_few left complete more) in
      rw place (overwrite_joins out (512 * blocks) block others fits) ∙ rw archive_is at p.written

  pub placed_first : Placed text complete before (overwrite out (512 * blocks) (block_of (take first rest))) left (taken + first) (blocks + 1)
  placed_first =
      record {
        within = omega (arith, p.within, first_most rest, length-drop taken text);
        room = omega (arith, p.room);
        size = overwrite_length out (512 * blocks) (block_of (take first rest)) ∙ p.size;
        bytes = rw (← more_is) (omega (arith, p.bytes, bytes_is));
        count = rw (← more_is) (omega (arith, p.count, ap length blocks_is));
        written = rw (← more_is) written_is;
      }

-- The same of the part of the buffer that is lent to the block writer and comes back holding the block.
pub placed_lent :
    {text : List ℕ} {complete : Bool} {before out part : List ℕ} {taken blocks n : ℕ}
    → Placed text complete before out (length before / 512 - blocks) taken blocks → blocks < length out / 512 → settled complete (drop taken text) ≡ true
    → n ≡ first_length (drop taken text) → (n ≡ 0 → ⊥) → part ≡ block_of (take n (drop taken text))
    → Placed text complete before (put_mid (512 * blocks) (512 * blocks + 512 - 512 * blocks) out part) (length before / 512 - (blocks + 1)) (taken + n) (blocks + 1)
placed_lent {text} {complete} {before} {out} {part} {taken} {blocks} {n} p room known is some put =
    let rest = drop taken text in
    let one : length before / 512 - blocks ≡ suc (length before / 512 - (blocks + 1)) = omega (arith, ap (λ n. n / 512) p.size, room) in
    let now : Placed text complete before out (suc (length before / 512 - (blocks + 1))) taken blocks = rw one at p in
    let size = block_length (take (first_length rest) rest) (first_short rest) in
    let block = rw is at put in
    let lent =
    overwrite_lent out (512 * blocks) (512 * blocks) (512 * blocks + 512) (block_of (take (first_length rest) rest)) refl (omega (arith, size)) (omega (arith, room))
    block in
    rw (is, lent) (placed_first now known (rw is at some))

pub placed_full :
    {text : List ℕ} {complete : Bool} {before out : List ℕ} {left taken blocks : ℕ} → Placed text complete before out left taken blocks
    → length out / 512 ≤ blocks → packed_length left complete (drop taken text) ≡ 0
unfolding packed_length
placed_full {left = zero} p full = refl
placed_full {before = before} {out = out} {left = suc left} p full = absurd (let no· : ⊥ = omega (arith, p.room, ap (λ n. n / 512) p.size, full) in no·)
