-- A search for the end of a line by halves: bytes that are passed over have no byte 10, and of a part that has one the half that has it is kept.
use Prim.Native.Nat.{ℕ, ◌+◌, ◌≤◌, ◌<◌}
use native.Mathlib.Omega.{arith}
use mathlib.Core.Bool.{true, false, ◌||◌}
use mathlib.Core.List.{List}
use mathlib.Core.Path.{◌≡◌, sym, ap, ◌∙◌}
use lib.ListN.{length, take, drop, get_or, length-drop, take-append-drop}
use lib.Seq.{take-add, drop-cons, drop-drop, length-take-le}
use borrow.Author.Tests.{ne_eqb}
use Rattle.text.specs.LineEnd.{ended, line_length}
use Rattle.text.proofs.LineEnd.{ended_append, line_length_append}

pub record Passed (l : List ℕ) (from at : ℕ) : Type 0 where
  pub within : at ≤ length l
  pub end : at + line_length (drop at l) ≡ from + line_length (drop from l)

pub passed_more : {l : List ℕ} {from at : ℕ} (n : ℕ) → Passed l from at → at + n ≤ length l → ended (take n (drop at l)) ≡ false → Passed l from (at + n)
passed_more {l} {from} {at} n p within e =
    let rest = drop at l in
    let passed : line_length rest ≡ length (take n rest) + line_length (drop n rest) =
    ap line_length (sym (take-append-drop n rest)) ∙ line_length_append (take n rest) (drop n rest) e in
    let count : length (take n rest) ≡ n = length-take-le n rest (rw length-drop (omega arith)) in
    let there : drop n rest ≡ drop (at + n) l = drop-drop n at l in
    record { within = within; end = omega (arith, p.end, passed, count, ap line_length there) }

pub passed_byte : {l : List ℕ} {from at : ℕ} → Passed l from at → at < length l → (get_or l at 0 ≡ 10 → ⊥) → Passed l from (at + 1)
unfolding ended
passed_byte {l} {from} {at} p within isnt =
    passed_more 1 p (omega arith) (rw (drop-cons l at 0 within, ne_eqb (get_or l at 0) 10 isnt))

-- From byte `from` up to byte `at` there is no byte 10, and the next `width` bytes have one.
pub record Found (l : List ℕ) (from at width : ℕ) : Type 0 where
  pub passed : Passed l from at
  pub fits : at + width ≤ length l
  pub some : ended (take width (drop at l)) ≡ true

-- A test of the first half leaves half as many bytes: where the first half has no byte 10, the second half has one.
module _ {l : List ℕ} {from at : ℕ} (width : ℕ) (f : Found l from at (width + width)) where
  pub found_second : ended (take width (drop at l)) ≡ false → Found l from (at + width) width
  found_second none =
      let first = take width (drop at l) in
      let second = take width (drop width (drop at l)) in
      let either : (ended first || ended second) ≡ true = sym (ap ended (take-add width width (drop at l)) ∙ ended_append first second) ∙ f.some in
      let in_second : ended second ≡ true = rw none at either in
      record {
        passed = passed_more width f.passed (omega (arith, f.fits)) none;
        fits = omega (arith, f.fits);
        some = rw (drop-drop width at l) at in_second;
      }

  pub found_first : ended (take width (drop at l)) ≡ true → Found l from at width
  found_first some = record { passed = f.passed; fits = omega (arith, f.fits); some = some }
