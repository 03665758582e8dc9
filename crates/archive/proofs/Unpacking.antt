-- What `unpack` has written so far, in terms of the blocks that are left.
use Prim.Native.Nat.{ℕ, zero, suc, ◌+◌, ◌-◌, ◌*◌, ◌/◌, ◌≤◌, ◌<◌, min}
use native.Mathlib.Nat.{min_comm, sub-zero}
use native.Mathlib.Omega.{arith}
use mathlib.Core.Bool.{Bool, true, false, cond}
use mathlib.Core.List.{List, [], ◌∷◌, ◌++◌}
use mathlib.Core.Path.{◌≡◌, refl, sym, ap, ◌∙◌}
use lib.ListN.{length, take, drop, length-append, length-drop, length-take}
use lib.Seq.{take_at, drop_at}
use Rattle.std.specs.Prelude.{All, flat_map, Result, Ok, Err}
use Rattle.std.specs.List.{concat}
use Rattle.std.proofs.lemmas.List.{take_min}
use Rattle.std.proofs.lemmas.List.Elements.{All-head, All-tail}
use Rattle.basis.proofs.Choice.{cond_cases}
use Rattle.buffer.specs.Overwrite.{overwrite}
use Rattle.buffer.proofs.Overwrite.{overwrite_length, overwrite_joins, overwrite_none}
use Rattle.archive.specs.declared.Unpacked.{Unpacked}
use Rattle.archive.specs.Block.{block_of, used, valid, used_part, read_block}
use Rattle.archive.specs.Packing.{contents, archive_of}
use Rattle.archive.specs.Claims.{HoldsLines}
use Rattle.archive.specs.Unpacking.{yielding, yielded, UnpackedInto, unpacked_into, UnpackedIsText}
use Rattle.archive.proofs.BlockParts.{Valid, valid_from, valid_parts, read_only_valid}
use Rattle.archive.proofs.BlockClaims.{less_tightly_read}
use Rattle.archive.proofs.Settled.{block_length}
use Rattle.archive.proofs.Claims.{no_line_split, same_bytes}

-- ── bounds ──
yielding_few : (most : ℕ) (archive : List ℕ) → yielding most archive ≤ most
unfolding yielding
yielding_few zero archive = omega arith
yielding_few (suc most) archive = cond_cases (λ n. n ≤ suc most) (valid (take 512 archive)) (λ _. omega (arith, yielding_few most (drop 512 archive))) (λ _. omega arith)

pub used_part_most : (block : List ℕ) → length (used_part block) ≤ length block
unfolding used_part
used_part_most block = omega (arith, length-take (used block) (drop 4 block), length-drop 4 block)

yielded_length : (blocks : ℕ) (archive : List ℕ) → length (yielded blocks archive) ≤ 512 * blocks
unfolding yielded
yielded_length zero archive = omega arith
yielded_length (suc blocks) archive =
    let block = take 512 archive in
    let part = used_part block in
    omega (
      arith,
      length-append part (yielded blocks (drop 512 archive)),
      used_part_most block,
      length-take 512 archive,
      yielded_length blocks (drop 512 archive),
    )

-- A block that yields has its 512 bytes.
yielding_within : (most : ℕ) (archive : List ℕ) → 512 * yielding most archive ≤ length archive
unfolding yielding
yielding_within zero archive = omega arith
yielding_within (suc most) archive =
    cond_cases (λ n. 512 * n ≤ length archive) (valid (take 512 archive))
    (λ good.
    let size = (valid_parts (take 512 archive) good).size in
    omega (arith, size, length-take 512 archive, yielding_within most (drop 512 archive), length-drop 512 archive)) (λ _. omega arith)

-- ── the blocks read so far ──
pub record Unread (archive before out rest : List ℕ) (left blocks written : ℕ) : Type 0 where
  pub room : left + blocks ≡ length before / 512
  pub size : length out ≡ length before
  pub few : written ≤ 512 * blocks
  pub count : yielding (length before / 512) archive ≡ blocks + yielding left rest
  pub bytes : length (yielded (yielding (length before / 512) archive) archive) ≡ written + length (yielded (yielding left rest) rest)
  pub text :
      overwrite out written (yielded (yielding left rest) rest) ≡ overwrite before 0 (yielded (yielding (length before / 512) archive) archive)

pub unread_all : (archive before : List ℕ) → Unread archive before before archive (length before / 512 - 0) 0 0
unread_all archive before = rw sub-zero (record { room = omega arith; size = refl; few = omega arith; count = omega arith; bytes = omega arith; text = refl })

-- The block at the front: 512 bytes, or all where there are fewer.
front_block : (rest : List ℕ) {block : List ℕ} {n : ℕ} → n ≡ min (length rest) 512 → block ≡ take n rest → block ≡ take 512 rest
front_block rest m b = b ∙ rw (m, min_comm (length rest) 512) (take_min 512 rest)

-- A block is refused, or there is no room for more.
pub unread_done :
    {archive before out rest : List ℕ} {left blocks written : ℕ} → Unread archive before out rest left blocks written → yielding left rest ≡ 0
    → record { unpacked = record { blocks = blocks; written = written }; buffer = out } ≡ unpacked_into archive before
unfolding unpacked_into yielded
unread_done {archive} {before} {out} {rest} {left} {blocks} {written} u none =
    let nothing : yielded (yielding left rest) rest ≡ [] = ap (λ n. yielded n rest) none in
    let count : blocks ≡ yielding (length before / 512) archive = omega (arith, u.count, none) in
    let bytes : written ≡ length (yielded (yielding (length before / 512) archive) archive) = omega (arith, u.bytes, ap length nothing) in
    let text : out ≡ overwrite before 0 (yielded (yielding (length before / 512) archive) archive) = rw (nothing, overwrite_none out written) at u.text in
    λ i. record { unpacked = record { blocks = count i; written = bytes i }; buffer = text i }

module _
    {archive before out rest block behind lines : List ℕ} {left blocks written : ℕ} (u : Unread archive before out rest (suc left) blocks written)
    {n : ℕ} (m : n ≡ min (length rest) 512) (b : block ≡ take n rest) (d : behind ≡ drop n rest) (is : Ok lines ≡ read_block block) where
  block_is : block ≡ take 512 rest
  block_is = front_block rest m b

  only : Valid (take 512 rest) × (lines ≡ used_part (take 512 rest))
  only = read_only_valid (take 512 rest) (sym (is ∙ ap read_block block_is))

  behind_is : behind ≡ drop 512 rest
  behind_is =
      let whole : n ≡ 512 = omega (arith, m, only.0.size, length-take 512 rest) in
      d ∙ ap (λ k. drop k rest) whole

  yielding_is : yielding (suc left) rest ≡ suc (yielding left (drop 512 rest))
  unfolding yielding
  yielding_is = rw (← valid_from (take 512 rest) only.0) refl

  abbrev others : List ℕ
  others = yielded (yielding left (drop 512 rest)) (drop 512 rest)

  yielded_is : yielded (yielding (suc left) rest) rest ≡ lines ++ others
  unfolding yielded
  yielded_is = ap (λ n. yielded n rest) yielding_is ∙ ap (λ l. l ++ others) (sym only.1)

  lines_short : length lines ≤ 512
  lines_short = omega (arith, ap length only.1, used_part_most (take 512 rest), length-take 512 rest)

  written_within : written + length lines ≤ length out
  written_within = omega (arith, u.few, u.room, u.size, lines_short)

  unread_more : Unread archive before (overwrite out written lines) behind left (blocks + 1) (written + length lines)
  unread_more =
      let fits : written + (length lines + length others) ≤ length out =
      omega (
        arith,
        u.few,
        u.room,
        u.size,
        lines_short,
        yielded_length (yielding left (drop 512 rest)) (drop 512 rest),
        yielding_few left (drop 512 rest),
      ) in
      rw behind_is
      (record {
        room = omega (arith, u.room);
        size = overwrite_length out written lines ∙ u.size;
        few = omega (arith, u.few, lines_short);
        count = omega (arith, u.count, yielding_is);
        bytes = omega (arith, u.bytes, ap length yielded_is, length-append lines others);
        text = overwrite_joins out written lines others fits ∙ rw yielded_is at u.text;
      })

-- The same as the code counts the blocks that are left.
pub unread_next :
    {archive before out rest block behind lines after : List ℕ} {blocks written n : ℕ}
    → Unread archive before out rest (length before / 512 - blocks) blocks written → blocks < length out / 512 → n ≡ min (length rest) 512
    → block ≡ take n rest → behind ≡ drop n rest → Ok lines ≡ read_block block → after ≡ overwrite out written lines
    → (written + length lines ≤ length out)
    × Unread archive before after behind (length before / 512 - (blocks + 1)) (blocks + 1) (written + length lines)
unread_next {archive} {before} {out} {rest} {block} {behind} {lines} {after} {blocks} {written} {n} u room m b d is put =
    let one : length before / 512 - blocks ≡ suc (length before / 512 - (blocks + 1)) = omega (arith, ap (λ k. k / 512) u.size, room) in
    let now : Unread archive before out rest (suc (length before / 512 - (blocks + 1))) blocks written = rw one at u in
    (written_within now m b d is, rw put (unread_more now m b d is))

pub refused_yields_none :
    (left : ℕ) (rest : List ℕ) {block : List ℕ} {n refusal : ℕ} → n ≡ min (length rest) 512 → block ≡ take n rest → Err refusal ≡ read_block block
    → yielding left rest ≡ 0
unfolding yielding read_block
refused_yields_none zero rest m b is = refl
refused_yields_none (suc left) rest {block} {n} {refusal} m b is = step (valid (take 512 rest)) (is ∙ ap read_block (front_block rest m b))
  where
    step :
        (b : Bool) → Err refusal ≡ cond {A = Result (List ℕ) ℕ} b (Ok (used_part (take 512 rest))) (Err 23)
        → cond b (suc (yielding left (drop 512 rest))) 0 ≡ 0
    step true e = absurd cc
    step false e = refl

pub full_yields_none :
    {archive before out rest : List ℕ} {left blocks written : ℕ} → Unread archive before out rest left blocks written → length out / 512 ≤ blocks → yielding left rest ≡ 0
unfolding yielding
full_yields_none {left = zero} u full = refl
full_yields_none {out = out} {left = suc left} u full = absurd (let no· : ⊥ = omega (arith, u.room, ap (λ n. n / 512) u.size, full) in no·)

-- ── the archive of a text ──
nothing_yields : (most : ℕ) → yielding most [] ≡ 0
unfolding yielding valid
nothing_yields zero = refl
nothing_yields (suc most) = refl

blocks_yield :
    (blocks : List (List ℕ)) → All HoldsLines blocks → (most : ℕ) → length blocks ≤ most
    → (yielding most (flat_map block_of blocks) ≡ length blocks) × (yielded (length blocks) (flat_map block_of blocks) ≡ concat blocks)
unfolding yielding yielded
blocks_yield [] holds most few = (nothing_yields most, refl)
blocks_yield (lines ∷ blocks) holds zero few = absurd (let no· : ⊥ = omega (arith, few) in no·)
blocks_yield (lines ∷ blocks) holds (suc most) few =
    let one = All-head HoldsLines lines blocks holds in
    let block = block_of lines in
    let others = flat_map block_of blocks in
    let size : length block ≡ 512 = block_length lines one.fits in
    let first : take 512 (block ++ others) ≡ block = take_at block others 512 size in
    let behind : drop 512 (block ++ others) ≡ others = drop_at block others 512 size in
    let only = read_only_valid block (less_tightly_read lines one.fits one.whole) in
    let known = blocks_yield blocks (All-tail HoldsLines lines blocks holds) most (omega (arith, few)) in (
      rw (first, behind, ← valid_from block only.0) (ap suc known.0),
      rw (first, behind, ← only.1) (ap (λ l. lines ++ l) known.1),
    )

pub unpacked_is_text : UnpackedIsText
unfolding archive_of
unpacked_is_text text s most few =
    let known = blocks_yield (contents text) (no_line_split text s) most few in
    (known.0, known.1 ∙ same_bytes text s)

-- ── for callers ──
module _
    (archive buffer : List ℕ) {unpacked : Unpacked} {buffer' : List ℕ} (is : record { unpacked = unpacked; buffer = buffer' } ≡ unpacked_into archive buffer) where
  pub blocks_within : 512 * unpacked.blocks ≤ length archive
  unfolding unpacked_into
  blocks_within = omega (arith, ap (λ (p : UnpackedInto). p.unpacked.blocks) is, yielding_within (length buffer / 512) archive)

  pub blocks_room : unpacked.blocks ≤ length buffer / 512
  unfolding unpacked_into
  blocks_room = omega (arith, ap (λ (p : UnpackedInto). p.unpacked.blocks) is, yielding_few (length buffer / 512) archive)

  pub written_at_most : unpacked.written ≤ length buffer
  unfolding unpacked_into
  written_at_most =
      omega (
        arith,
        ap (λ (p : UnpackedInto). p.unpacked.written) is,
        yielded_length (yielding (length buffer / 512) archive) archive,
        yielding_few (length buffer / 512) archive,
      )
