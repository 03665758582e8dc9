-- The claims about one block.
use Prim.Native.Nat.{ℕ, zero, suc, ◌+◌, ◌-◌, ◌*◌, ◌/◌, ◌%◌, ◌≤◌, ◌<◌}
use native.Mathlib.Omega.{arith}
use mathlib.Core.Bool.{true}
use mathlib.Core.List.{List, [], ◌∷◌, ◌++◌}
use mathlib.Core.Path.{◌≡◌, refl, sym, ap, ◌∙◌}
use lib.ListN.{length, take, drop, get_or, set, length-append, length-drop, length-replicate, take-append-drop}
use lib.Seq.{length-take-le, take-append_seam, drop-append_seam, drop-drop}
use Rattle.std.specs.Prelude.{replicate, sum, Ok}
use Rattle.std.proofs.lemmas.List.Sums.{sum_by-cons, sum_by-set}
use Rattle.archive.specs.Block.{two_bytes, number_at, block_of, used, sum_of_others, used_part, remainder, whole_lines, read_block}
use Rattle.archive.specs.Claims.{Bytes, LessTightlyRead, ReadExactly, YieldsFromByteFour, ChangedByteRefused}
use Rattle.archive.proofs.BlockParts.{Valid, sum_zeros, read_yields, read_only_valid, invalid_refused}

-- ── the parts of the block of some lines ──
module _ (lines : List ℕ) (fits : length lines ≤ 508) where
  abbrev zeros : List ℕ
  zeros = replicate (508 - length lines) 0

  abbrev total : ℕ
  total = (sum (two_bytes (length lines)) + sum (lines ++ zeros)) % 65536

  in_four : block_of lines ≡ length lines % 256 ∷ length lines / 256 ∷ total % 256 ∷ total / 256 ∷ (lines ++ zeros)
  unfolding block_of two_bytes
  in_four = refl

  used_is : used (block_of lines) ≡ length lines
  unfolding used number_at
  used_is = rw in_four (omega arith)

  used_part_is : used_part (block_of lines) ≡ lines
  unfolding used_part
  used_part_is = rw (used_is, in_four) (take-append_seam lines zeros)

  remainder_is : remainder (block_of lines) ≡ zeros
  unfolding remainder
  remainder_is = rw (used_is, ← drop-drop (length lines) 4 (block_of lines), in_four) (drop-append_seam lines zeros)

  block_valid : whole_lines lines ≡ true → Valid (block_of lines)
  unfolding sum_of_others number_at two_bytes
  block_valid whole =
      let front = sum_by-cons (λ n. n) (length lines % 256) (length lines / 256 ∷ []) in
      let others : total ≡ (sum (length lines % 256 ∷ length lines / 256 ∷ []) + sum (lines ++ zeros)) % 65536 = refl in
      record {
        size = rw in_four (omega (arith, length-append lines zeros, length-replicate {A = ℕ} (508 - length lines) 0));
        count = rw used_is fits;
        total = rw in_four (omega arith ∙ others);
        rest = rw remainder_is (sum_zeros (508 - length lines));
        lines = rw used_part_is whole;
      }

pub less_tightly_read : LessTightlyRead
less_tightly_read lines fits whole =
    let s = block_valid lines fits whole in
    sym (read_yields (block_of lines) s) ∙ ap Ok (used_part_is lines fits)

-- ── a block that yields ──
-- A block of the right length is four bytes and 508 more.
in_parts :
    (P : List ℕ → Type 0) → ((b₀ b₁ b₂ b₃ : ℕ) (rest : List ℕ) → length rest ≡ 508 → P (b₀ ∷ b₁ ∷ b₂ ∷ b₃ ∷ rest)) → (block : List ℕ) → length block ≡ 512 → P block
in_parts P all (b₀ ∷ b₁ ∷ b₂ ∷ b₃ ∷ rest) size = all b₀ b₁ b₂ b₃ rest (omega (arith, size))
in_parts P all [] size = absurd (let no· : ⊥ = omega (arith, size) in no·)
in_parts P all (b₀ ∷ []) size = absurd (let no· : ⊥ = omega (arith, size) in no·)
in_parts P all (b₀ ∷ b₁ ∷ []) size = absurd (let no· : ⊥ = omega (arith, size) in no·)
in_parts P all (b₀ ∷ b₁ ∷ b₂ ∷ []) size = absurd (let no· : ⊥ = omega (arith, size) in no·)

zero_bytes : (l : List ℕ) → sum l ≡ 0 → l ≡ replicate (length l) 0
zero_bytes [] none = refl
zero_bytes (byte ∷ l) none =
    let parts = sum_by-cons (λ n. n) byte l in
    let first : byte ≡ 0 = omega (arith, parts, none) in
    rw first (ap (λ m. 0 ∷ m) (zero_bytes l (omega (arith, parts, none))))

-- The sum of a valid block's other bytes, in its parts.
total_is : (b₀ b₁ b₂ b₃ : ℕ) (rest : List ℕ) → Valid (b₀ ∷ b₁ ∷ b₂ ∷ b₃ ∷ rest) → b₂ + 256 * b₃ ≡ (b₀ + b₁ + sum rest) % 65536
unfolding number_at sum_of_others
total_is b₀ b₁ b₂ b₃ rest s = s.total ∙ ap (λ n. (n + sum rest) % 65536) (omega arith)

used_in_parts : (b₀ b₁ : ℕ) (rest : List ℕ) → used (b₀ ∷ b₁ ∷ rest) ≡ b₀ + 256 * b₁
unfolding used number_at
used_in_parts b₀ b₁ rest = refl

used_part_in_parts : (b₀ b₁ b₂ b₃ : ℕ) (rest : List ℕ) → used_part (b₀ ∷ b₁ ∷ b₂ ∷ b₃ ∷ rest) ≡ take (b₀ + 256 * b₁) rest
unfolding used_part
used_part_in_parts b₀ b₁ b₂ b₃ rest = ap (λ n. take n rest) (used_in_parts b₀ b₁ (b₂ ∷ b₃ ∷ rest))

remainder_in_parts : (b₀ b₁ b₂ b₃ : ℕ) (rest : List ℕ) → remainder (b₀ ∷ b₁ ∷ b₂ ∷ b₃ ∷ rest) ≡ drop (b₀ + 256 * b₁) rest
unfolding remainder
remainder_in_parts b₀ b₁ b₂ b₃ rest =
    let block : List ℕ = b₀ ∷ b₁ ∷ b₂ ∷ b₃ ∷ rest in
    sym (drop-drop (used block) 4 block) ∙ ap (λ n. drop n rest) (used_in_parts b₀ b₁ (b₂ ∷ b₃ ∷ rest))

exactly_in_parts :
    (b₀ b₁ b₂ b₃ : ℕ) (rest : List ℕ) → length rest ≡ 508 → Bytes (b₀ ∷ b₁ ∷ b₂ ∷ b₃ ∷ rest) → (lines : List ℕ)
    → read_block (b₀ ∷ b₁ ∷ b₂ ∷ b₃ ∷ rest) ≡ Ok lines
    → (b₀ ∷ b₁ ∷ b₂ ∷ b₃ ∷ rest ≡ block_of lines) × ((length lines ≤ 508) × (whole_lines lines ≡ true))
unfolding two_bytes
exactly_in_parts b₀ b₁ b₂ b₃ rest size bytes lines is =
    let block : List ℕ = b₀ ∷ b₁ ∷ b₂ ∷ b₃ ∷ rest in
    let only = read_only_valid block is in
    let s = only.0 in
    let u = b₀ + 256 * b₁ in
    let few : u ≤ 508 = rw (used_in_parts b₀ b₁ (b₂ ∷ b₃ ∷ rest)) at s.count in
    let lines_is : lines ≡ take u rest = only.1 ∙ used_part_in_parts b₀ b₁ b₂ b₃ rest in
    let count : length lines ≡ u = ap length lines_is ∙ length-take-le u rest (omega (arith, size, few)) in
    let behind = remainder_in_parts b₀ b₁ b₂ b₃ rest in
    let zero_count : length (drop u rest) ≡ 508 - length lines = omega (arith, length-drop u rest, size, count) in
    let zeros_are : drop u rest ≡ replicate (508 - length lines) 0 =
    zero_bytes (drop u rest) (sym (ap sum behind) ∙ s.rest) ∙ ap (λ n. replicate n 0) zero_count in
    let rest_is : rest ≡ lines ++ replicate (508 - length lines) 0 =
    sym (take-append-drop u rest) ∙ ap (λ a. a ++ drop u rest) (sym lines_is) ∙ ap (λ z. lines ++ z) zeros_are in
    let fits : length lines ≤ 508 = omega (arith, count, few) in
    let low : length lines % 256 ≡ b₀ = omega (arith, count, bytes 0 0 (omega (arith, size))) in
    let high : length lines / 256 ≡ b₁ = omega (arith, count, bytes 0 0 (omega (arith, size))) in
    let front : sum (two_bytes (length lines)) ≡ b₀ + b₁ = omega (arith, low, high) in
    let total : (sum (two_bytes (length lines)) + sum (lines ++ replicate (508 - length lines) 0)) % 65536 ≡ b₂ + 256 * b₃ =
    rw (front, ← rest_is) (sym (total_is b₀ b₁ b₂ b₃ rest s)) in
    let whole : ℕ = (sum (two_bytes (length lines)) + sum (lines ++ replicate (508 - length lines) 0)) % 65536 in
    let total_low : whole % 256 ≡ b₂ = omega (arith, total, bytes 2 0 (omega (arith, size))) in
    let total_high : whole / 256 ≡ b₃ = omega (arith, total, bytes 2 0 (omega (arith, size))) in
    let parts : block_of lines ≡ b₀ ∷ b₁ ∷ b₂ ∷ b₃ ∷ rest =
    in_four lines fits ∙ (λ i. low i ∷ high i ∷ total_low i ∷ total_high i ∷ sym rest_is i) in
    (sym parts, (fits, ap whole_lines only.1 ∙ s.lines))

pub read_exactly : ReadExactly
read_exactly block lines bytes is =
    in_parts
    (λ block. Bytes block → read_block block ≡ Ok lines → (block ≡ block_of lines) × ((length lines ≤ 508) × (whole_lines lines ≡ true)))
    (λ b₀ b₁ b₂ b₃ rest size bytes is. exactly_in_parts b₀ b₁ b₂ b₃ rest size bytes lines is) block (read_only_valid block is).0.size bytes is

pub yields_from_byte_four : YieldsFromByteFour
unfolding used_part
yields_from_byte_four block lines is =
    let only = read_only_valid block is in
    let size : length lines ≡ used block =
    ap length only.1 ∙ length-take-le (used block) (drop 4 block) (omega (arith, only.0.count, only.0.size, length-drop 4 block)) in
    only.1 ∙ ap (λ n. take n (drop 4 block)) (sym size)

-- ── a changed byte ──
module _ (b₀ b₁ b₂ b₃ : ℕ) (rest : List ℕ) (size : length rest ≡ 508) (bytes : Bytes (b₀ ∷ b₁ ∷ b₂ ∷ b₃ ∷ rest)) (s : Valid (b₀ ∷ b₁ ∷ b₂ ∷ b₃ ∷ rest)) where
  changed_invalid :
      (place byte : ℕ) → place < 512 → byte < 256 → (byte ≡ get_or (b₀ ∷ b₁ ∷ b₂ ∷ b₃ ∷ rest) place 0 → ⊥)
      → Valid (set (b₀ ∷ b₁ ∷ b₂ ∷ b₃ ∷ rest) place byte) → ⊥
  changed_invalid zero byte within below other t =
      other (omega (arith, total_is b₀ b₁ b₂ b₃ rest s, total_is byte b₁ b₂ b₃ rest t, bytes 0 0 (omega (arith, size))))
  changed_invalid (suc zero) byte within below other t =
      other (omega (arith, total_is b₀ b₁ b₂ b₃ rest s, total_is b₀ byte b₂ b₃ rest t, bytes 1 0 (omega (arith, size))))
  changed_invalid (suc (suc zero)) byte within below other t = other (omega (arith, total_is b₀ b₁ b₂ b₃ rest s, total_is b₀ b₁ byte b₃ rest t))
  changed_invalid (suc (suc (suc zero))) byte within below other t = other (omega (arith, total_is b₀ b₁ b₂ b₃ rest s, total_is b₀ b₁ b₂ byte rest t))
  changed_invalid (suc (suc (suc (suc i)))) byte within below other t =
      other
      (omega (
        arith,
        total_is b₀ b₁ b₂ b₃ rest s,
        total_is b₀ b₁ b₂ b₃ (set rest i byte) t,
        sum_by-set (λ n. n) rest i byte 0 (omega (arith, size, within)),
        bytes (suc (suc (suc (suc i)))) 0 (omega (arith, size, within)),
      ))

pub changed_byte_refused : ChangedByteRefused
changed_byte_refused block lines bytes is place byte within below other =
    let s = (read_only_valid block is).0 in
    invalid_refused (set block place byte)
    (in_parts
    (λ block. Bytes block → Valid block → (byte ≡ get_or block place 0 → ⊥) → Valid (set block place byte) → ⊥)
    (λ b₀ b₁ b₂ b₃ rest size bytes s other. changed_invalid b₀ b₁ b₂ b₃ rest size bytes s place byte within below other) block s.size bytes s other)
