-- Whatever is read as a record is the line of that record: a state other than `wrong` spells out the bytes that lead to it.
-- c is the letter, ns are the numbers before, d and v how many digits there are and their value.
use Rattle.std.proofs.Common.{Some}
use Rattle.std.proofs.lemmas.Option.{none-some, cond_some}
use Prim.Native.Nat.{ℕ, ◌+◌, ◌*◌, ◌^◌, ◌≤◌, ◌<◌, zero, suc}
use mathlib.Core.Bool.{false, cond, ◌&&◌, ◌||◌}
use mathlib.Core.Path.{◌≡◌, sym, ap, ◌∙◌}
use mathlib.Core.List.{List, [], ◌∷◌, ◌++◌, append_assoc, append-nil}
use native.Mathlib.Decide.{dec_lt}
use native.Mathlib.Omega.{arith}
use lib.Dec.{ltb, eqb}
use lib.ListN.{length, length-append}
use borrow.Author.Tests.{eq-eqb, ne_eqb, eqb-true, eqb-false, ltb-true, ltb-false}
use Rattle.walls.specs.declared.Wall.{Wall}
use Rattle.text.specs.Decimal.{decimal}
use Rattle.walls.specs.Check.{numbers_of}
use Rattle.line.specs.Grammar.{fields, NineDigits, count_of, letter_of, line_of}
use Rattle.line.specs.Automaton.{State, start, lettered, inside, wrong, digit_of, next, run}
use Rattle.line.specs.Reading.{wall_of, answer}
use Rattle.basis.proofs.Choice.{and_left, and_right, and_none, or_left, or_right, cond_cases}
use Rattle.text.proofs.Decimal.{decimal_digit}
use Rattle.line.proofs.Decimal.{decimal_snoc, value_grows, value_nine}
use Rattle.line.proofs.Automaton.{byte_digit}
use Rattle.line.proofs.Grammar.{fields_snoc, nine_digits_append, numbers_of_wall_of, letter_of_wall_of}

-- The letter asks for more numbers than these, which have 1 to 9 digits each.
pub record Numbers (c : ℕ) (ns : List ℕ) : Type 0 where
  pub more : length ns < count_of c
  pub nine : NineDigits ns

-- At most nine digits, of this value, with no leading 0.
pub record Digits (d v : ℕ) : Type 0 where
  pub few : d ≤ 9
  pub small : v < 10 ^ d
  pub proper : 1 < d → 0 < v

pub digits_nine : {d v : ℕ} → Digits d v → v < 10 ^ 9
digits_nine {d = d} {v = v} h = value_nine d v h.few h.small

no_digits : Digits 0 0
no_digits = record { few = omega arith; small = omega arith; proper = λ some. omega arith }

-- The bytes of these digits.
abbrev pub written : ℕ → ℕ → List ℕ
written d v = cond (eqb d 0) [] (decimal v)

-- The bytes l lead to the state.
abbrev pub Spells : State → List ℕ → Type 0
Spells start l = l ≡ []
Spells (lettered c) l = (0 < count_of c) × (l ≡ c ∷ [])
Spells (inside c ns d v) l = Numbers c ns × Digits d v × (l ≡ c ∷ fields ns ++ 32 ∷ written d v)
Spells wrong l = Unit {0}

written_snoc : (d v x : ℕ) → Digits d v → (0 < d → 0 < v) → x < 10 → written d v ++ (48 + x) ∷ [] ≡ written (d + 1) (10 * v + x)
written_snoc zero v x h positive digit =
    let first : 10 * v + x ≡ x = omega (arith, h.small) in
    rw first (sym (decimal_digit x digit))
written_snoc (suc d) v x h positive digit =
    rw (ne_eqb (suc d) 0 (λ e. omega arith), ne_eqb (suc d + 1) 0 (λ e. omega arith))
    (sym (decimal_snoc v x (positive (omega arith)) digit))

-- One digit more: no tenth, and with no leading 0 before it.
module _ (d v x : ℕ) (h : Digits d v) (room : d ≡ 9 → ⊥) (lone : (eqb d 1 && eqb v 0) ≡ false) (digit : x < 10) where
  positive : 0 < d → 0 < v
  positive some =
      elim (dec_lt 1 d) [
        | yes more ↦ h.proper more
        | no one ↦ omega (arith, eqb-false v 0 (and_none (eqb d 1) (eqb v 0) lone (eq-eqb d 1 (omega arith))))
      ]

  digits_more : Digits (d + 1) (10 * v + x)
  digits_more =
      record {
        few = omega arith;
        small = value_grows d v x h.small digit;
        proper = λ some. omega (arith, positive (omega arith));
      }

  bytes_digit : (c : ℕ) (ns l : List ℕ) → l ≡ c ∷ fields ns ++ 32 ∷ written d v
      → l ++ (48 + x) ∷ [] ≡ c ∷ fields ns ++ 32 ∷ written (d + 1) (10 * v + x)
  bytes_digit c ns l e = rw (e, append_assoc) (ap (λ (m : List ℕ). c ∷ fields ns ++ 32 ∷ m) (written_snoc d v x h positive digit))

bytes_space : (d v c : ℕ) (ns l : List ℕ) → 0 < d → l ≡ c ∷ fields ns ++ 32 ∷ written d v
    → l ++ 32 ∷ [] ≡ c ∷ fields (ns ++ v ∷ []) ++ 32 ∷ []
bytes_space d v c ns l some e = rw (e, fields_snoc, ne_eqb d 0 (λ z. omega arith))

next_spells : (s : State) (l : List ℕ) (b : ℕ) → Spells s l → Spells (next s b) (l ++ b ∷ [])
unfolding next fields
next_spells start l b h =
    cond_cases (λ (s : State). Spells s (l ++ b ∷ [])) (eqb (count_of b) 0)
    (λ none. tt)
    (λ some. (omega (arith, eqb-false (count_of b) 0 some), rw h))
next_spells (lettered c) l b h =
    cond_cases (λ (s : State). Spells s (l ++ b ∷ [])) (eqb b 32)
    (λ space. (record { more = h.0; nine = tt }, no_digits, rw (h.1, eqb-true b 32 space)))
    (λ other. tt)
next_spells (inside c ns d v) l b h =
    cond_cases (λ (s : State). Spells s (l ++ b ∷ [])) (eqb b 32 && ltb 0 d && ltb (length ns + 1) (count_of c))
    (λ t.
    let space : b ≡ 32 = search (and_left, eqb-true) in
    let some : 0 < d = search (and_left, and_right, ltb-true) in
    let more : length ns + 1 < count_of c = search (and_right, ltb-true) in (
      record { more = rw length-append more; nine = nine_digits_append ns (v ∷ []) h.0.nine (digits_nine h.1, tt) },
      no_digits,
      rw space (bytes_space d v c ns l some h.2),
    ))
    (λ _. cond_cases (λ (s : State). Spells s (l ++ b ∷ [])) (ltb 9 (digit_of b) || eqb d 9 || eqb d 1 && eqb v 0)
    (λ fault. tt)
    (λ t.
    let digit : digit_of b ≤ 9 = search (or_left, ltb-false) in
    let room : eqb d 9 ≡ false = search (or_left, or_right) in
    let lone : (eqb d 1 && eqb v 0) ≡ false = search or_right in (
      h.0,
      digits_more d v (digit_of b) h.1 (eqb-false d 9 room) lone (omega arith),
      ap (λ (x : ℕ). l ++ x ∷ []) (byte_digit b (omega arith))
          ∙ bytes_digit d v (digit_of b) h.1 (eqb-false d 9 room) lone (omega arith) c ns l h.2,
    )))
next_spells wrong l b h = tt

pub run_spells : (m : List ℕ) (s : State) (l : List ℕ) → Spells s l → Spells (run m s) (l ++ m)
unfolding run
run_spells [] s l h = rw append-nil h
run_spells (b ∷ m) s l h = rw append_assoc at (run_spells m (next s b) (l ++ b ∷ []) (next_spells s l b h))

pub answer_spells : (s : State) (l : List ℕ) (w : Wall) → Spells s l → answer s ≡ Some w → (l ≡ line_of w) × NineDigits (numbers_of w)
unfolding answer
answer_spells start l w h e = absurd (none-some w e)
answer_spells (lettered c) l w h e = absurd (none-some w e)
answer_spells (inside c ns d v) l w h e =
    let read = cond_some (ltb 0 d && eqb (length ns + 1) (count_of c)) (wall_of c (ns ++ v ∷ [])) w e in
    let ended = read.0 in
    let digits : 0 < d = search (and_left, ltb-true) in
    let last : length ns + 1 ≡ count_of c = search (and_right, eqb-true) in
    let all = ns ++ v ∷ [] in
    let count : length all ≡ count_of c = rw length-append last in
    let some : 0 < count_of c = omega (arith, h.0.more) in
    let letter : letter_of w ≡ c = ap letter_of (sym read.1) ∙ letter_of_wall_of all c some in
    let numbers : numbers_of w ≡ all = ap numbers_of (sym read.1) ∙ numbers_of_wall_of all c some count in (
      h.2 ∙ rw (ne_eqb d 0 (λ e. omega arith), letter, numbers, fields_snoc),
      rw numbers (nine_digits_append ns (v ∷ []) h.0.nine (digits_nine h.1, tt)),
    )
answer_spells wrong l w h e = absurd (none-some w e)
