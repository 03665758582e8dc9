-- What `pack_held` leaves: the parts of `held_packed` from what `pack` has packed.
use Prim.Native.Nat.{ℕ, zero, suc, ◌+◌, ◌-◌, ◌/◌, ◌≤◌, min}
use native.Mathlib.Omega.{arith}
use mathlib.Core.Bool.{Bool}
use mathlib.Core.List.{List}
use mathlib.Core.Path.{◌≡◌, sym, ap, ◌∙◌}
use lib.ListN.{length, take, drop, length-drop, length-take}
use lib.Seq.{length-take-le, take-take}
use Rattle.std.specs.List.{copy_within}
use Rattle.std.proofs.lemmas.List.{take_min, drop-take}
use Rattle.basis.proofs.Choice.{cond_cases}
use Rattle.text.specs.LineEnd.{lines_of}
use Rattle.buffer.specs.Overwrite.{overwrite}
use Rattle.buffer.proofs.Overwrite.{stands_first, copied_to_front}
use Rattle.archive.specs.declared.Packed.{Packed}
use Rattle.archive.specs.Packing.{contents, archive_of}
use Rattle.archive.specs.Stream.{first_length, settled, packed_length, packed_of, unpacked_of, PackedInto, packed_into, HeldPacked, held_packed, PackIsStep}
use Rattle.archive.proofs.Counting.{first_most}
use Rattle.archive.proofs.Packing.{storable_whole}
use Rattle.archive.proofs.Settled.{packed_storable, packed_few}
use Rattle.archive.proofs.Claims.{archive_length, line_ends, lines_counted}

pub packed_most : (most : ℕ) (complete : Bool) (bytes : List ℕ) → packed_length most complete bytes ≤ length bytes
unfolding packed_length
packed_most zero complete bytes = omega arith
packed_most (suc most) complete bytes =
    let first = first_length bytes in
    let behind = drop first bytes in
    cond_cases (λ n. n ≤ length bytes) (settled complete bytes)
    (λ _. omega (arith, packed_most most complete behind, first_most bytes, length-drop first bytes)) (λ _. omega arith)

packed_size : (most : ℕ) (complete : Bool) (bytes : List ℕ) → length (packed_of most complete bytes) ≡ packed_length most complete bytes
packed_size most complete bytes = length-take-le (packed_length most complete bytes) bytes (packed_most most complete bytes)

-- The first bytes of the input are at hand, as many as are said to be held, or all.
module _
    (complete : Bool) (input output : List ℕ) (said : ℕ) {held taken blocks : ℕ} {output' : List ℕ} (h : held ≡ min said (length input))
    (p : record { progress = record { taken = taken; blocks = blocks }; buffer = output' } ≡ packed_into complete (take held input) output) where
  abbrev most : ℕ
  most = length output / 512

  bytes_are : take held input ≡ take said input
  bytes_are = rw h (take_min said input)

  taken_is : taken ≡ packed_length most complete (take held input)
  unfolding packed_into
  taken_is = ap (λ (q : PackedInto). q.progress.taken) p

  pub taken_within : taken ≤ held
  taken_within = omega (arith, taken_is, packed_most most complete (take held input), length-take held input)

  pub held_within : held ≤ length input
  held_within = omega (arith, h)

  text_is : take taken input ≡ packed_of most complete (take held input)
  text_is = sym (take-take taken held input taken_within) ∙ ap (λ n. take n (take held input)) taken_is

  moved_is : copy_within input taken held 0 ≡ overwrite input 0 (unpacked_of most complete (take held input))
  moved_is =
      let left = held - taken in
      let whole : held ≡ taken + left = omega (arith, taken_within) in
      let rest : drop taken (take held input) ≡ take left (drop taken input) = ap (λ n. drop taken (take n input)) whole ∙ drop-take taken left input in
      ap (λ n. copy_within input taken n 0) whole ∙ copied_to_front input taken left (omega (arith, whole, held_within))
      ∙ ap (overwrite input 0) (sym rest ∙ ap (λ n. drop n (take held input)) taken_is)

  pub held_is :
      {lines : ℕ} {input' : List ℕ} → lines ≡ line_ends (take taken input) → input' ≡ copy_within input taken held 0
      → record { packed = record { taken = taken; blocks = blocks; lines = lines }; input = input'; output = output' } ≡ held_packed complete input said output
  unfolding packed_into held_packed
  held_is {lines} {input'} l i =
      let bytes = take held input in
      let text = packed_of most complete bytes in
      let taken_all : taken ≡ length text = taken_is ∙ sym (packed_size most complete bytes) in
      let blocks_all : blocks ≡ length (contents text) = ap (λ (q : PackedInto). q.progress.blocks) p in
      let lines_all : lines ≡ length (lines_of text) =
      l ∙ ap line_ends text_is ∙ lines_counted text (storable_whole text (packed_storable most complete bytes)) in
      let input_all : input' ≡ overwrite input 0 (unpacked_of most complete bytes) = i ∙ moved_is in
      let output_all : output' ≡ overwrite output 0 (archive_of text) = ap (λ (q : PackedInto). q.buffer) p in
      rw (← bytes_are)
      (λ j. record {
        packed = record { taken = taken_all j; blocks = blocks_all j; lines = lines_all j };
        input = input_all j;
        output = output_all j;
      })

-- ── a step of a run ──
pub pack_is_step : PackIsStep
unfolding held_packed
pack_is_step complete input held output within =
    let most = length output / 512 in
    let bytes = take held input in
    let text = packed_of most complete bytes in
    let rest = unpacked_of most complete bytes in
    let size : length rest ≡ held - length text =
    omega (arith, length-drop (packed_length most complete bytes) bytes, length-take held input, packed_size most complete bytes, within) in
    let blocks = archive_length text (packed_storable most complete bytes) in
    record {
      rest = ap (λ n. take n (overwrite input 0 rest)) (sym size) ∙ stands_first input rest (omega (arith, size, within));
      blocks = ap (λ n. take n (overwrite output 0 (archive_of text))) (sym blocks) ∙ stands_first output (archive_of text) (omega (arith, blocks, packed_few most complete bytes));
    }

-- ── for callers ──
module _
    (complete : Bool) (input output : List ℕ) (held : ℕ) {packed : Packed} {input' output' : List ℕ}
    (is : record { packed = packed; input = input'; output = output' } ≡ held_packed complete input held output) where
  pub taken_at_most : packed.taken ≤ held
  unfolding held_packed
  taken_at_most =
      let bytes = take held input in
      omega (
        arith,
        ap (λ (p : HeldPacked). p.packed.taken) is,
        packed_size (length output / 512) complete bytes,
        packed_most (length output / 512) complete bytes,
        length-take held input,
      )

  pub blocks_at_most : packed.blocks ≤ length output / 512
  unfolding held_packed
  blocks_at_most = omega (arith, ap (λ (p : HeldPacked). p.packed.blocks) is, packed_few (length output / 512) complete (take held input))
