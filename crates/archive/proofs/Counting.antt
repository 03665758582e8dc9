-- The count of the blocks of a text, block by block.
use Prim.Native.Nat.{ℕ, ◌+◌, ◌-◌, ◌≤◌, ◌<◌}
use native.Mathlib.Omega.{arith}
use mathlib.Core.Bool.{true}
use mathlib.Core.List.{List, []}
use mathlib.Core.Path.{◌≡◌, refl, sym, ap, ◌∙◌}
use lib.ListN.{length, take, drop, length-drop, length-take, drop_of_length-le}
use lib.Seq.{drop-drop}
use Rattle.std.specs.Prelude.{Result, Ok, Err}
use Rattle.archive.specs.Packing.{storable, contents}
use Rattle.archive.specs.Entry.{block_count}
use Rattle.archive.specs.Stream.{first_length}
use Rattle.archive.proofs.Lines.{last_end_most}
use Rattle.archive.proofs.Packing.{storable_none, first_leaves, first_none, first_contents, contents_none}

pub first_most : (t : List ℕ) → first_length t ≤ length t
first_most t = omega (arith, last_end_most (take 508 t), length-take 508 t)

-- Of a text, `taken` bytes are in `count` blocks: the rest can be stored where the text can, and makes up its other blocks then.
pub record Counted (text : List ℕ) (taken count : ℕ) : Type 0 where
  pub within : taken ≤ length text
  pub few : count ≤ taken
  pub same : storable (drop taken text) ≡ storable text
  pub others : storable text ≡ true → length (contents text) ≡ count + length (contents (drop taken text))

pub counted_none : (text : List ℕ) → Counted text 0 0
counted_none text = record { within = omega arith; few = omega arith; same = refl; others = λ s. omega arith }

pub counted_more :
    {text : List ℕ} {taken count n : ℕ} → Counted text taken count → taken < length text → n ≡ first_length (drop taken text) → (n ≡ 0 → ⊥)
    → Counted text (taken + n) (count + 1)
counted_more {text} {taken} {count} {n} c more is some =
    let rest = drop taken text in
    let size : length rest ≡ length text - taken = length-drop taken text in
    let behind : drop n rest ≡ drop (taken + n) text = drop-drop n taken text in
    record {
      within = omega (arith, first_most rest, size, is, c.within);
      few = omega (arith, c.few, some);
      same = sym (ap storable behind) ∙ rw (← is) at (first_leaves rest) ∙ c.same;
      others =
          λ s.
          let first = ap length (first_contents rest (c.same ∙ s) (omega (arith, size))) in
          c.others s ∙ omega (arith, rw (← is) at first, ap (λ t. length (contents t)) behind);
    }

pub counted_all : {text : List ℕ} {taken count : ℕ} → Counted text taken count → length text ≤ taken → Ok count ≡ block_count text
unfolding block_count
counted_all {text} {taken} {count} c all =
    let none : drop taken text ≡ [] = drop_of_length-le text all in
    let s : storable text ≡ true = sym c.same ∙ ap storable none ∙ storable_none in
    rw s (ap Ok (sym (c.others s ∙ ap (λ t. count + length (contents t)) none ∙ rw contents_none (omega arith))))

pub counted_bad :
    {text : List ℕ} {taken count n : ℕ} → Counted text taken count → taken < length text → n ≡ first_length (drop taken text) → n ≡ 0
    → ◌≡◌ {A = Result ℕ ℕ} (Err 24) (block_count text)
unfolding block_count
counted_bad {text} {taken} c more is none =
    let size : length (drop taken text) ≡ length text - taken = length-drop taken text in
    rw (sym c.same ∙ first_none (drop taken text) (omega (arith, size)) (sym is ∙ none)) refl
