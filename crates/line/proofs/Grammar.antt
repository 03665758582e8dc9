-- Laws of the grammar: the fields of a line, and the record that a list of numbers is.
use Prim.Native.Nat.{ℕ, zero, suc, ◌≤◌, ◌<◌}
use mathlib.Core.Path.{◌≡◌, refl, sym, ap, subst}
use mathlib.Core.List.{List, [], ◌∷◌, ◌++◌, append_assoc, append-nil}
use native.Mathlib.Nat.{not-suc-le-zero}
use native.Mathlib.Omega.{arith}
use lib.Dec.{eqb}
use lib.ListN.{length, take, replicate}
use borrow.Author.Tests.{eqb-true}
use Rattle.text.specs.Decimal.{decimal}
use Rattle.walls.specs.Check.{numbers_of}
use Rattle.line.specs.declared.kind.Kind.{Kind}
use Rattle.line.specs.declared.kind.Kind.TheVariants.{Storey, Cellar}
use Rattle.line.specs.Kind.{kind_letter}
use Rattle.line.specs.Grammar.{fields, NineDigits, count_of, letter_of}
use Rattle.line.specs.Reading.{wall_of}
use Rattle.basis.proofs.Choice.{cond_cases}
use Rattle.basis.proofs.Listed.{listed, listed_take, listed_all}
use Rattle.storey.proofs.Record.{numbers_of_storey_of}

pub fields_append : (ns ms : List ℕ) → fields (ns ++ ms) ≡ fields ns ++ fields ms
unfolding fields
fields_append [] ms = refl
fields_append (n ∷ ns) ms = rw (fields_append ns ms, append_assoc)

pub fields_snoc : (ns : List ℕ) (n : ℕ) → fields (ns ++ n ∷ []) ≡ fields ns ++ 32 ∷ decimal n
unfolding fields
fields_snoc ns n = rw (fields_append ns (n ∷ []), append-nil (decimal n))

pub nine_digits_append : (ns ms : List ℕ) → NineDigits ns → NineDigits ms → NineDigits (ns ++ ms)
nine_digits_append [] ms all more = more
nine_digits_append (n ∷ ns) ms all more = (all.0, nine_digits_append ns ms all.1 more)

pub nine_digits_zeros : (n : ℕ) → NineDigits (replicate n 0)
nine_digits_zeros zero = tt
nine_digits_zeros (suc n) = (omega arith, nine_digits_zeros n)

-- A letter that numbers follow is one of the two.
pub letter_cases : (P : ℕ → Type 0) → P 83 → P 67 → (c : ℕ) → 0 < count_of c → P c
unfolding count_of
letter_cases P storey cellar c =
    cond_cases (λ (n : ℕ). 0 < n → P c) (eqb c 83)
    (λ e h. subst P (sym (eqb-true c 83 e)) storey)
    (λ e. cond_cases (λ (n : ℕ). 0 < n → P c) (eqb c 67)
    (λ e h. subst P (sym (eqb-true c 67 e)) cellar)
    (λ e h. absurd (not-suc-le-zero h)))

-- Numbers follow the letter of each kind.
pub kind_some : (kind : Kind) → 0 < count_of (kind_letter kind)
unfolding count_of
kind_some Storey = omega arith
kind_some Cellar = omega arith

-- No letter has more numbers than `S`.
pub count_most : (c : ℕ) → count_of c ≤ count_of 83
unfolding count_of
count_most c =
    cond_cases (λ (n : ℕ). n ≤ count_of 83) (eqb c 83) (λ e. omega arith)
    (λ e. cond_cases (λ (n : ℕ). n ≤ count_of 83) (eqb c 67) (λ e. omega arith) (λ e. omega arith))

module _ (l : List ℕ) where
  -- A record takes as many numbers of a list as its letter says, from the front.
  pub wall_of_take : (c : ℕ) → 0 < count_of c → count_of c ≤ length l → wall_of c (take (count_of c) l) ≡ wall_of c l
  unfolding count_of wall_of listed
  wall_of_take =
      letter_cases (λ (c : ℕ). count_of c ≤ length l → wall_of c (take (count_of c) l) ≡ wall_of c l)
      (λ h. ap (wall_of 83) (sym (listed_take (count_of 83) 0 l h)))
      (λ h. ap (wall_of 67) (sym (listed_take (count_of 67) 0 l h)))

  -- The line of that record has the letter and the numbers.
  pub numbers_of_wall_of : (c : ℕ) → 0 < count_of c → length l ≡ count_of c → numbers_of (wall_of c l) ≡ l
  unfolding count_of wall_of listed
  numbers_of_wall_of =
      letter_cases (λ (c : ℕ). length l ≡ count_of c → numbers_of (wall_of c l) ≡ l)
      (numbers_of_storey_of l)
      (listed_all (count_of 67) l)

  pub letter_of_wall_of : (c : ℕ) → 0 < count_of c → letter_of (wall_of c l) ≡ c
  unfolding wall_of
  letter_of_wall_of = letter_cases (λ (c : ℕ). letter_of (wall_of c l) ≡ c) refl refl
