-- Laws of the automaton: s and t are states, b a byte, c a letter, ns the numbers before, d and v how many digits there are and their value.
use Prim.Native.Nat.{ℕ, zero, suc, ◌+◌, ◌-◌, ◌*◌, ◌/◌, ◌%◌, ◌^◌, ◌≤◌, ◌<◌}
use mathlib.Core.Bool.{Bool, true, false, false≢true, not, cond, ◌&&◌}
use mathlib.Core.Path.{◌≡◌, refl, ap, subst, ◌∙◌}
use mathlib.Core.List.{List, [], ◌∷◌, ◌++◌}
use native.Mathlib.Decide.{dec_lt}
use native.Mathlib.Nat.{pow-succ'}
use native.Mathlib.Omega.{arith}
use lib.Dec.{leb, ltb, eqb}
use lib.ListN.{length, get_or, drop}
use lib.Seq.{drop-cons}
use native.Mathlib.Numerals.{add-one}
use borrow.Author.Tests.{lt-ltb, le-ltb, le-leb, leb-true, eqb-true, ne_eqb}
use Rattle.text.specs.Decimal.{decimal}
use Rattle.line.specs.Grammar.{count_of}
use Rattle.line.specs.Automaton.{State, start, lettered, inside, wrong, is_wrong, digit_of, next, run}
use Rattle.line.specs.Reading.{taken_from}
use Rattle.text.proofs.Decimal.{decimal_digit}
use Rattle.line.proofs.Decimal.{decimal_snoc}
use Rattle.std.specs.Char.{is_ascii_digit}
use Rattle.basis.proofs.Choice.{and_left, and_right, cond_cases}

pub run_append : (l m : List ℕ) (s : State) → run (l ++ m) s ≡ run m (run l s)
unfolding run
run_append [] m s = refl
run_append (b ∷ l) m s = run_append l m (next s b)

pub is_wrong_lem : (s : State) → is_wrong s ≡ true → s ≡ wrong
is_wrong_lem start e = absurd (false≢true e)
is_wrong_lem (lettered c) e = absurd (false≢true e)
is_wrong_lem (inside c ns d v) e = absurd (false≢true e)
is_wrong_lem wrong e = refl

-- No byte leads out of `wrong`.
pub run_wrong : (l : List ℕ) → run l wrong ≡ wrong
unfolding run next
run_wrong [] = refl
run_wrong (b ∷ l) = run_wrong l

-- One byte more.
taken_drop : (l : List ℕ) (at : ℕ) (s : State) → at < length l → is_wrong s ≡ false
    → taken_from (drop at l) s ≡ 1 + taken_from (drop (at + 1) l) (next s (get_or l at 0))
unfolding taken_from
taken_drop l at s h fine = rw (add-one, drop-cons l at 0, fine)

-- Behind a wrong byte none is taken.
pub taken_wrong : (l : List ℕ) (s : State) → is_wrong s ≡ true → taken_from l s ≡ 0
unfolding taken_from
taken_wrong [] s e = refl
taken_wrong (b ∷ l) s e = rw e

-- The byte of a digit has the digit's value.
pub digit_byte : (x : ℕ) → x < 10 → digit_of (48 + x) ≡ x
unfolding digit_of
digit_byte x h = simp (le-leb 48 (48 + x) (omega arith), le-leb (48 + x) 57 (omega arith)) (omega arith)

-- No other byte has it.
pub byte_digit : (b : ℕ) → digit_of b < 10 → b ≡ 48 + digit_of b
unfolding digit_of
byte_digit b =
    cond_cases (λ (x : ℕ). x < 10 → b ≡ 48 + x) (leb 48 b && leb b 57)
    (λ t h. omega (arith, leb-true 48 b (and_left (leb 48 b) (leb b 57) t)))
    (λ t h. omega arith)

-- What a byte's class says of its digit.
pub digit_of_digit : (b : ℕ) → is_ascii_digit b ≡ true → (digit_of b ≡ b - 48) × (b - 48 ≤ 9)
unfolding digit_of
digit_of_digit b e = (rw e, omega (arith, leb-true b 57 (and_right (leb 48 b) (leb b 57) e)))

pub digit_of_other : (b : ℕ) → is_ascii_digit b ≡ false → digit_of b ≡ 10
unfolding digit_of
digit_of_other b e = rw e

-- So the definition's test of a byte is its class.
pub no_digit : (b : ℕ) → ltb 9 (digit_of b) ≡ not (is_ascii_digit b)
no_digit b = cases (is_ascii_digit b) refl
  where
    cases : (x : Bool) → is_ascii_digit b ≡ x → ltb 9 (digit_of b) ≡ not x
    cases true e = le-ltb 9 (digit_of b) (omega (arith, digit_of_digit b e))
    cases false e = rw (digit_of_other b e)

-- The letter of a line.
pub next_letter : (c : ℕ) → 0 < count_of c → next start c ≡ lettered c
unfolding next
next_letter c h = rw (ne_eqb (count_of c) 0 (λ e. omega arith))

-- A digit and a space behind the digits of a number.
module _ (c : ℕ) (ns : List ℕ) (d v : ℕ) where
  pub next_digit : (x : ℕ) → d < 9 → (0 < d → 0 < v) → x < 10 → next (inside c ns d v) (48 + x) ≡ inside c ns (d + 1) (10 * v + x)
  unfolding next
  next_digit x few proper h =
      rw (ne_eqb (48 + x) 32 (λ e. omega arith), digit_byte x h, le-ltb 9 x (omega arith), ne_eqb d 9 (λ e. omega arith))
      (lone (eqb d 1) refl)
    where
      lone : (one : Bool) → eqb d 1 ≡ one
          → cond (one && eqb v 0) wrong (inside c ns (d + 1) (10 * v + x)) ≡ inside c ns (d + 1) (10 * v + x)
      lone true e = rw (ne_eqb v 0 (λ z. omega (arith, proper (omega (arith, eqb-true d 1 e)))))
      lone false e = refl

  pub next_space : 0 < d → length ns + 1 < count_of c → next (inside c ns d v) 32 ≡ inside c (ns ++ v ∷ []) 0 0
  unfolding next
  next_space some another = rw (lt-ltb 0 d some, lt-ltb (length ns + 1) (count_of c) another)

-- The digits of n have been taken, at most `most` of them.
pub record Taken (c : ℕ) (ns : List ℕ) (n most : ℕ) : Type 0 where
  pub size : ℕ
  pub some : 0 < size
  pub few : size ≤ most
  pub taken : run (decimal n) (inside c ns 0 0) ≡ inside c ns size n

module _ (c : ℕ) (ns : List ℕ) where
  taken_first : (x most : ℕ) → x < 10 → Taken c ns x (suc most)
  unfolding run
  taken_first x most h =
      record {
        size = 1;
        some = omega arith;
        few = omega arith;
        taken =
            rw (decimal_digit x h)
            (next_digit c ns 0 0 x (omega arith) (λ none. omega arith) h ∙ ap (inside c ns 1) (omega arith));
      }

  taken_last : (n x most : ℕ) → Taken c ns n most → most < 9 → 0 < n → x < 10 → Taken c ns (10 * n + x) (suc most)
  unfolding run
  taken_last n x most t room positive h =
      record {
        size = t.size + 1;
        some = omega arith;
        few = omega arith;
        taken =
            ap (λ (l : List ℕ). run l (inside c ns 0 0)) (decimal_snoc n x positive h)
            ∙ run_append (decimal n) ((48 + x) ∷ []) (inside c ns 0 0)
            ∙ ap (λ (s : State). next s (48 + x)) t.taken
            ∙ next_digit c ns t.size n x (omega arith) (λ some. positive) h;
      }

  -- A number of at most nine digits is read as itself: its tenth is, and then its last digit.
  pub decimal_taken : (most n : ℕ) → most < 9 → n < 10 ^ suc most → Taken c ns n (suc most)
  decimal_taken zero n nine h = taken_first n zero h
  decimal_taken (suc most) n nine h =
      elim (dec_lt n 10) [
        | yes small ↦ taken_first n (suc most) small
        | no large ↦
            let parts : 10 * (n / 10) + n % 10 ≡ n = omega arith in
            let tenth = decimal_taken most (n / 10) (omega arith) (omega (arith, pow-succ' 10 (suc most))) in
            subst (λ (m : ℕ). Taken c ns m (suc (suc most))) parts
            (taken_last (n / 10) (n % 10) (suc most) tenth nine (omega arith) (omega arith))
      ]
