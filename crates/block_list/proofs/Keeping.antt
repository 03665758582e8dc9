-- Laws of what is kept: how it lies in the buffer, how much it is, and that the choice depends on nothing else.
use Prim.Native.Nat.{ℕ, zero, suc, ◌+◌, ◌-◌, ◌≤◌, min}
use mathlib.Core.List.{List, [], ◌∷◌, ◌++◌}
use mathlib.Core.Path.{◌≡◌, ◌∙◌, refl, sym, ap, ap₂}
use native.Mathlib.Omega.{arith}
use lib.ListN.{length, take, drop, length-append, length-take, length-drop}
use lib.Seq.{take-nil}
use Rattle.std.specs.List.{copy_within}
use Rattle.std.proofs.lemmas.List.{drop-take}
use Rattle.text.specs.LineEnd.{line_length}
use Rattle.text.proofs.LineEnd.{line_length_most}
use Rattle.buffer.proofs.Overwrite.{overwrite_start}
use Rattle.block_list.specs.Keeping.{kept_of, Kept, kept_in}

pub take_take : (n m k : ℕ) (l : List ℕ) → k ≡ min n m → take m (take n l) ≡ take k l
take_take zero m k l is = let none : 0 ≡ k = omega (arith, is) in take-nil m ∙ ap (λ (i : ℕ). take i l) none
take_take (suc n) zero k l is = let none : 0 ≡ k = omega (arith, is) in ap (λ (i : ℕ). take i l) none
take_take (suc n) (suc m) zero l is = absurd (let no· : ⊥ = omega (arith, is) in no·)
take_take (suc n) (suc m) (suc k) [] is = refl
take_take (suc n) (suc m) (suc k) (byte ∷ l) is = ap (λ (bs : List ℕ). byte ∷ bs) (take_take n m k l (omega (arith, is)))

pub end_held : (buffer : List ℕ) (held end : ℕ) → end ≡ 0 + line_length (take held buffer) → end ≤ held
end_held buffer held end ends = omega (arith, ends, line_length_most (take held buffer), length-take held buffer)

-- The first line ends at `end` of the bytes held; `line` of its bytes are kept, and `list` from its end on.
module _
    (buffer : List ℕ) (held end line list : ℕ) (within : held ≤ length buffer) (ends : end ≡ 0 + line_length (take held buffer))
    (line_is : line ≡ min end 201) (list_is : list ≡ min (held - end) 1282) where
  pub list_within : end + list ≤ length buffer
  list_within = omega (arith, end_held buffer held end ends, within, list_is)

  kept_parts : kept_of (take held buffer) ≡ take line buffer ++ take list (drop end buffer)
  unfolding kept_of
  kept_parts =
      let length· : line_length (take held buffer) ≡ end = omega (arith, ends) in
      let split : held ≡ end + (held - end) = omega (arith, end_held buffer held end ends) in
      let behind : drop end (take held buffer) ≡ take (held - end) (drop end buffer) = ap (λ (n : ℕ). drop end (take n buffer)) split ∙ drop-take end (held - end) buffer in
      ap (λ (n : ℕ). take (min n 201) (take held buffer) ++ take 1282 (drop n (take held buffer))) length·
      ∙ ap₂ (λ (a b : List ℕ). a ++ b)
      (take_take held (min end 201) line buffer (omega (arith, line_is, end_held buffer held end ends)))
      (ap (take 1282) behind ∙ take_take (held - end) 1282 list (drop end buffer) list_is)

  kept_held : line + list ≡ length (kept_of (take held buffer))
  kept_held =
      omega (
        arith,
        ap length kept_parts,
        length-append (take line buffer) (take list (drop end buffer)),
        length-take line buffer,
        length-take list (drop end buffer),
        length-drop end buffer,
        line_is,
        list_within,
        end_held buffer held end ends,
        within,
      )

  pub kept_is : {after : List ℕ} → after ≡ copy_within buffer end (end + list) line →
      ◌≡◌ {A = Kept} (record { buffer = after; held = line + list }) (kept_in buffer held)
  unfolding kept_in
  kept_is after =
      let whole : end + list - end ≡ list = omega arith in
      let fits : length (kept_of (take held buffer)) ≤ length buffer = omega (arith, sym kept_held, line_is, list_within) in
      let holds =
      after
      ∙ ap (λ (n : ℕ). take line buffer ++ take n (drop end buffer) ++ drop (line + n) buffer) whole
      ∙ ap₂ (λ (kept : List ℕ) (n : ℕ). kept ++ drop n buffer) (sym kept_parts) kept_held
      ∙ sym (overwrite_start buffer (kept_of (take held buffer)) fits) in
      λ i. record { buffer = holds i; held = kept_held i }
