-- The writer stores the whole text, or leaves the buffer alone.
use Prim.Native.Nat.{ℕ, zero, suc, ◌/◌, ◌≤◌, ◌<◌}
use native.Mathlib.Decide.{ℕ_discrete}
use native.Mathlib.Omega.{arith}
use mathlib.Core.Bool.{Bool, true, false, cond, ◌&&◌}
use lib.Dec.{leb}
use mathlib.Core.List.{List}
use mathlib.Core.Path.{◌≡◌, refl, sym, ap, ◌∙◌}
use lib.ListN.{length, take, drop, length-drop}
use lib.Seq.{take-length}
use borrow.Author.Tests.{le-leb, lt-leb}
use Rattle.std.specs.Prelude.{Result, Ok, Err}
use Rattle.buffer.specs.Overwrite.{overwrite}
use Rattle.archive.specs.declared.Progress.{Progress}
use Rattle.archive.specs.Entry.{Stored, stored, block_count}
use Rattle.archive.specs.Packing.{storable, contents, archive_of}
use Rattle.archive.specs.Stream.{first_length, packed_length, packed_of, packed_into}
use Rattle.archive.proofs.Counting.{first_most}
use Rattle.archive.proofs.Packing.{first_leaves, first_contents}
use Rattle.archive.proofs.Settled.{packed_none, packed_more}

-- ── the whole text ──
pub all_packed : (most : ℕ) (text : List ℕ) → storable text ≡ true → length (contents text) ≤ most → packed_length most true text ≡ length text
all_packed zero text s few =
    elim (ℕ_discrete (length text) 0) [
      | yes none ↦ packed_none zero true text (omega (arith, first_most text, none)) ∙ sym none
      | no some ↦ absurd (let no· : ⊥ = omega (arith, few, ap length (first_contents text s (omega arith))) in no·)
    ]
all_packed (suc most) text s few =
    elim (ℕ_discrete (length text) 0) [
      | yes none ↦ packed_none (suc most) true text (omega (arith, first_most text, none)) ∙ sym none
      | no some ↦
          let first = ap length (first_contents text s (omega arith)) in
          let others = all_packed most (drop (first_length text) text) (first_leaves text ∙ s) (omega (arith, few, first)) in
          packed_more most true text refl ∙ omega (arith, others, length-drop (first_length text) text, first_most text)
    ]

-- ── what the writer answers ──
count_parts : (text : List ℕ) {count : ℕ} → Ok count ≡ block_count text → (storable text ≡ true) × (count ≡ length (contents text))
unfolding block_count
count_parts text {count} is = step (storable text) is
  where
    step : (b : Bool) → Ok count ≡ cond {A = Result ℕ ℕ} b (Ok (length (contents text))) (Err 24) → (b ≡ true) × (count ≡ length (contents text))
    step true e = (refl, cc)
    step false e = absurd cc

module _ (text before : List ℕ) where
  pub stored_good :
      {count : ℕ} {progress : Progress} {out : List ℕ} → Ok count ≡ block_count text → count ≤ length before / 512
      → record { progress = progress; buffer = out } ≡ packed_into true text before → record { answer = Ok count; buffer = out } ≡ stored text before
  unfolding stored packed_into
  stored_good {count} {progress} {out} is fits put =
      let parts = count_parts text is in
      let all : packed_of (length before / 512) true text ≡ text =
      ap (λ n. take n text) (all_packed (length before / 512) text parts.0 (omega (arith, parts.1, fits))) ∙ take-length text in
      let buffer : out ≡ overwrite before 0 (archive_of text) = ap (λ p. p.buffer) put ∙ ap (λ t. overwrite before 0 (archive_of t)) all in
      rw (parts.0, le-leb (length (contents text)) (length before / 512) (omega (arith, parts.1, fits)))
      (λ i. record { answer = Ok (parts.1 i); buffer = buffer i })

  pub stored_beyond :
      {count : ℕ} → Ok count ≡ block_count text → length before / 512 < count → ◌≡◌ {A = Stored} (record { answer = Err 24; buffer = before }) (stored text before)
  unfolding stored
  stored_beyond is beyond =
      let parts = count_parts text is in
      rw (parts.0, lt-leb (length (contents text)) (length before / 512) (omega (arith, parts.1, beyond))) refl

  pub stored_never : {refusal : ℕ} → Err refusal ≡ block_count text → ◌≡◌ {A = Stored} (record { answer = Err 24; buffer = before }) (stored text before)
  unfolding block_count stored
  stored_never {refusal} is = step (storable text) is
    where
      step :
          (b : Bool) → Err refusal ≡ cond {A = Result ℕ ℕ} b (Ok (length (contents text))) (Err 24)
          → ◌≡◌ {A = Stored} (record { answer = Err 24; buffer = before })
          (cond (b && leb (length (contents text)) (length before / 512)) (record { answer = Ok (length (contents text)); buffer = overwrite before 0 (archive_of text) })
          (record { answer = Err 24; buffer = before }))
      step true e = absurd cc
      step false e = refl
