-- Laws of `overwrite`. A buffer into which n bytes fit from byte `at` on is three parts: what lies before, those n bytes, and what lies
-- behind (`in_parts`). Of three such parts `overwrite` replaces the middle one by the text (`overwrite_parts`). The other laws follow.
use Prim.Native.Nat.{ℕ, ◌+◌, ◌-◌, ◌≤◌, ◌<◌}
use native.Mathlib.Decide.{dec_le}
use native.Mathlib.Nat.{add-zero, zero-add}
use native.Mathlib.Omega.{arith}
use mathlib.Core.List.{List, [], ◌++◌, append_assoc, append-nil}
use mathlib.Core.Path.{◌≡◌, refl, sym, ◌∙◌, subst, subst₂}
use lib.ListN.{length, take, drop, length-append, length-take, length-drop, take-append-drop}
use lib.Seq.{length-take-le, take-add, take-append_seam, drop-append_seam, take_at, drop_at}
use borrow.Author.Tests.{le-leb, lt-leb}
use borrow.Rule.Slice.PartMut.{put_mid}
use Rattle.std.proofs.lemmas.Slice.{put_mid-paste}
use Rattle.std.specs.List.{copy_within}
use Rattle.std.proofs.lemmas.List.Edits.{paste_all}
use Rattle.buffer.specs.Overwrite.{overwrite}

-- ── three parts ──
in_parts : (P : List ℕ → ℕ → Type 0) (n : ℕ) → ((a m b : List ℕ) → length m ≡ n → P (a ++ m ++ b) (length a)) → (l : List ℕ) (at : ℕ) → at + n ≤ length l → P l at
in_parts P n all l at h =
    let joined : take at l ++ take n (drop at l) ++ drop (at + n) l ≡ l = rw (← take-add) (take-append-drop (at + n) l) in
    let middle : length (take n (drop at l)) ≡ n = simp (length-take, length-drop) (omega arith) in
    subst₂ P joined (length-take-le at l (omega arith)) (all (take at l) (take n (drop at l)) (drop (at + n) l) middle)

overwrite_parts : (a m b t : List ℕ) → length m ≡ length t → overwrite (a ++ m ++ b) (length a) t ≡ a ++ t ++ b
unfolding overwrite
overwrite_parts a m b t e =
    rw (
      le-leb (length a + length t) (length (a ++ m ++ b)) (simp length-append (omega arith)),
      drop_at (a ++ m) b (length a + length t) (simp length-append (omega arith)),
      append_assoc a m b,
      take-append_seam,
    )

-- ── one text ──
module _ (l : List ℕ) (at : ℕ) (t : List ℕ) where
  pub overwrite_fits : at + length t ≤ length l → overwrite l at t ≡ take at l ++ t ++ drop (at + length t) l
  unfolding overwrite
  overwrite_fits h = simp (le-leb _ _ h)

  pub overwrite_beyond : length l < at + length t → overwrite l at t ≡ l
  unfolding overwrite
  overwrite_beyond h = simp (lt-leb _ _ h)

  overwrite_cases : (P : List ℕ → Type 0) → (at + length t ≤ length l → P (overwrite l at t)) → P l → P (overwrite l at t)
  overwrite_cases P fits beyond =
      elim (dec_le (at + length t) (length l)) [
        | yes h ↦ fits h
        | no h ↦ rw (overwrite_beyond (omega arith)) beyond
      ]

  pub overwrite_length : length (overwrite l at t) ≡ length l
  overwrite_length =
      overwrite_cases (λ k. length k ≡ length l)
      (in_parts (λ k p. length (overwrite k p t) ≡ length k) (length t) (λ a m b e. rw overwrite_parts (simp (length-append, e))) l at) refl

  pub overwrite_before : take at (overwrite l at t) ≡ take at l
  overwrite_before =
      overwrite_cases (λ k. take at k ≡ take at l)
      (in_parts (λ k p. take p (overwrite k p t) ≡ take p k) (length t) (λ a m b e. rw overwrite_parts (simp (append_assoc, take-append_seam))) l at) refl

  pub overwrite_behind : drop (at + length t) (overwrite l at t) ≡ drop (at + length t) l
  overwrite_behind =
      overwrite_cases (λ k. drop (at + length t) k ≡ drop (at + length t) l)
      (in_parts (λ k p. drop (p + length t) (overwrite k p t) ≡ drop (p + length t) k) (length t)
      (λ a m b e. rw (overwrite_parts, ← length-append, drop-append_seam) (sym (drop_at (a ++ m) b (length (a ++ t)) (simp (length-append, e))))) l at)
      refl

pub overwrite_start : (l t : List ℕ) → length t ≤ length l → overwrite l 0 t ≡ t ++ drop (length t) l
overwrite_start l t h = rw (overwrite_fits l 0 t (omega arith), zero-add)

-- A text that fits stands first then.
pub stands_first : (l t : List ℕ) → length t ≤ length l → take (length t) (overwrite l 0 t) ≡ t
stands_first l t fits = rw (overwrite_start l t fits, take-append_seam)

-- ── two texts, one behind the other ──
overwrite_front : (a m n b t : List ℕ) → length m ≡ length t → overwrite (a ++ (m ++ n) ++ b) (length a) t ≡ a ++ (t ++ n) ++ b
overwrite_front a m n b t e = simp append_assoc (simp append_assoc at (overwrite_parts a m (n ++ b) t e))

overwrite_back : (a m n b u : List ℕ) → length n ≡ length u → overwrite (a ++ (m ++ n) ++ b) (length a + length m) u ≡ a ++ (m ++ u) ++ b
overwrite_back a m n b u e = rw (← append_assoc a m n, ← append_assoc a m u, ← length-append) (overwrite_parts (a ++ m) n b u e)

in_two_parts :
    (P : List ℕ → ℕ → Type 0) (n k : ℕ) → ((a m₁ m₂ b : List ℕ) → length m₁ ≡ n → length m₂ ≡ k → P (a ++ (m₁ ++ m₂) ++ b) (length a))
    → (l : List ℕ) (at : ℕ) → at + (n + k) ≤ length l → P l at
in_two_parts P n k all =
    in_parts P (n + k)
    (λ a m b e.
    subst (λ (x : List ℕ). P (a ++ x ++ b) (length a)) (take-append-drop n m)
    (all a (take n m) (drop n m) b (length-take-le n m (omega arith)) (length-drop n m ∙ omega arith)))

pub overwrite_joins :
    (l : List ℕ) (at : ℕ) (t u : List ℕ) → at + (length t + length u) ≤ length l → overwrite (overwrite l at t) (at + length t) u ≡ overwrite l at (t ++ u)
overwrite_joins l at t u =
    in_two_parts (λ k p. overwrite (overwrite k p t) (p + length t) u ≡ overwrite k p (t ++ u)) (length t) (length u)
    (λ a m n b e f. rw (overwrite_front a m n b t, overwrite_back a t n b u, overwrite_parts a (m ++ n) b (t ++ u) (simp (length-append, e, f)))) l at

-- ── none ──
pub overwrite_none : (l : List ℕ) (at : ℕ) → overwrite l at [] ≡ l
overwrite_none l at =
    overwrite_cases l at [] (λ k. k ≡ l) (λ h. rw (overwrite_fits l at [] h, add-zero, append-nil) (take-append-drop at l)) refl

-- ── a lent part ──
overwrite_within : (a m b t : List ℕ) (at : ℕ) → at + length t ≤ length m → overwrite (a ++ (m ++ b)) (length a + at) t ≡ a ++ (overwrite m at t ++ b)
overwrite_within a m b t at =
    in_parts (λ k p. overwrite (a ++ (k ++ b)) (length a + p) t ≡ a ++ (overwrite k p t ++ b)) (length t)
    (λ c x d e. rw (overwrite_parts c x d t e, ← length-append) (simp append_assoc (simp append_assoc at (overwrite_parts (a ++ c) x (d ++ b) t e)))) m at

-- The n bytes from byte `from` on are lent, overwritten and given back: the whole is overwritten at that place.
pub overwrite_part :
    (l : List ℕ) (from n at : ℕ) (t : List ℕ) → from + n ≤ length l → at + length t ≤ n
    → take from l ++ (overwrite (take n (drop from l)) at t ++ drop n (drop from l)) ≡ overwrite l (from + at) t
overwrite_part l from n at t within fits =
    in_parts (λ k p. take p k ++ (overwrite (take n (drop p k)) at t ++ drop n (drop p k)) ≡ overwrite k (p + at) t) n
    (λ a m b e.
    simp (append_assoc a m b, take-append_seam, drop-append_seam, take_at m b n e, drop_at m b n e)
    (sym (overwrite_within a m b t at (omega arith)))) l from within

-- The same where the part, given by its ends, comes back holding a text of its length.
pub overwrite_lent :
    (l : List ℕ) (at start end : ℕ) (t : List ℕ) {part : List ℕ}
    → start ≡ at → end ≡ at + length t → end ≤ length l → part ≡ t → put_mid start (end - start) l part ≡ overwrite l at t
overwrite_lent l at start end t s e within put =
    put_mid-paste start _ l _ t (length t) put (omega arith) refl ∙ paste_all l start t (length t) refl ∙ rw (s, overwrite_fits l at t (omega arith), append_assoc)

-- ── bytes moved to the front ──
-- What the library's `copy_within` does to the front.
pub copied_to_front : (l : List ℕ) (from count : ℕ) → from + count ≤ length l → copy_within l from (from + count) 0 ≡ overwrite l 0 (take count (drop from l))
unfolding overwrite
copied_to_front l from count within =
    let whole : from + count - from ≡ count = omega arith in
    let size : length (take count (drop from l)) ≡ count = length-take-le count (drop from l) (rw length-drop (omega arith)) in
    rw (whole, size, zero-add, le-leb count (length l) (omega arith)) refl
