-- The claims on the bytes taken. Bytes begin a line of the form exactly if they do not lead to `wrong`: those that do not are completed by zeros, for
-- the number that is asked for next and for all behind it; those that do would make that line malformed.
-- c is the letter, ns are the numbers before, d and v how many digits there are and their value.
use Rattle.std.proofs.lemmas.Option.{none-some}
use Rattle.std.proofs.Common.{None}
use Prim.Native.Nat.{ℕ, zero, suc, ◌+◌, ◌-◌, ◌^◌, ◌<◌}
use mathlib.Core.Bool.{Bool, true, false, false≢true}
use mathlib.Core.List.{List, [], ◌∷◌, ◌++◌, append_assoc}
use mathlib.Core.Logic.{◌⊎◌, inl, inr, ⊎_elim}
use mathlib.Core.Path.{◌≡◌, refl, sym, ap, ◌∙◌}
use native.Mathlib.Nat.{not-suc-le-zero}
use native.Mathlib.Numerals.{add-one}
use native.Mathlib.Omega.{arith}
use lib.ListN.{length, length-append, length-replicate, take, drop, take-append-drop, replicate}
use borrow.Author.Tests.{ne_eqb}
use Rattle.text.specs.Decimal.{decimal}
use Rattle.line.specs.Grammar.{fields, count_of, line_of}
use Rattle.line.specs.Beginning.{Begins, Wrong}
use Rattle.line.specs.Automaton.{State, start, lettered, inside, wrong, is_wrong, next, run}
use Rattle.line.specs.Reading.{wall_of, answer, read_line, taken_from, taken}
use Rattle.line.specs.Claims.{TakenExactly, FirstWrongTaken, NoneWrongTaken, LineTaken}
use Rattle.line.proofs.Grammar.{fields_append, nine_digits_append, nine_digits_zeros, numbers_of_wall_of, letter_of_wall_of}
use Rattle.line.proofs.Automaton.{is_wrong_lem, run_append, run_wrong, taken_wrong}
use Rattle.line.proofs.Soundness.{Numbers, digits_nine, Spells, run_spells}
use Rattle.line.proofs.Claims.{reading_complete}

-- ---- What begins a line does not lead to `wrong`

begins_fine : (l : List ℕ) → Begins l → is_wrong (run l start) ≡ true → ⊥
unfolding read_line answer
begins_fine l b e =
    let ends : run (l ++ b.rest) start ≡ wrong = run_append l b.rest start ∙ ap (run b.rest) (is_wrong_lem _ e) ∙ run_wrong b.rest in
    let malformed : read_line (line_of b.wall) ≡ None = ap read_line b.line ∙ ap answer ends in
    none-some b.wall (sym malformed ∙ reading_complete b.wall b.nine)

-- ---- What does not lead to `wrong` begins a line

begins_front : (l m : List ℕ) → Begins (l ++ m) → Begins l
begins_front l m b =
    record {
      wall = b.wall;
      nine = b.nine;
      rest = m ++ b.rest;
      line = b.line ∙ append_assoc l m b.rest;
    }

-- The letter, numbers and one more number, with zeros in all places behind it.
begins_number : (c : ℕ) (ns : List ℕ) (v : ℕ) → Numbers c ns → v < 10 ^ 9 → Begins (c ∷ fields ns ++ 32 ∷ decimal v)
unfolding fields
begins_number c ns v h small =
    let zeros : List ℕ = replicate (count_of c - (length ns + 1)) 0 in
    let all = ns ++ v ∷ zeros in
    let some : 0 < count_of c = omega (arith, h.more) in
    let count : length all ≡ count_of c =
    length-append ns (v ∷ zeros) ∙ omega (arith, h.more, length-replicate {A = ℕ} (count_of c - (length ns + 1)) 0) in
    let numbers = numbers_of_wall_of all c some count in
    let letter = letter_of_wall_of all c some in
    record {
      wall = wall_of c all;
      nine = rw numbers (nine_digits_append ns (v ∷ zeros) h.nine (small, nine_digits_zeros (count_of c - (length ns + 1))));
      rest = fields zeros;
      line = rw (letter, numbers, fields_append ns (v ∷ zeros), append_assoc);
    }

begins_letter : (c : ℕ) → 0 < count_of c → Begins (c ∷ [])
unfolding fields
begins_letter c some =
    begins_front (c ∷ []) (32 ∷ decimal 0) (begins_number c [] 0 (record { more = some; nine = tt }) (omega arith))

begins_spelled : (s : State) (l : List ℕ) → Spells s l → is_wrong s ≡ false → Begins l
unfolding count_of
begins_spelled start l h fine = rw h (begins_front [] (83 ∷ []) (begins_letter 83 (omega arith)))
begins_spelled (lettered c) l h fine = rw h.1 (begins_letter c h.0)
begins_spelled (inside c ns zero v) l h fine =
    rw h.2 (begins_front (c ∷ fields ns ++ 32 ∷ []) (decimal v)
    (rw append_assoc (begins_number c ns v h.0 (digits_nine h.1))))
begins_spelled (inside c ns (suc d) v) l h fine =
    rw (h.2, ne_eqb (suc d) 0 (λ e. omega arith)) (begins_number c ns v h.0 (digits_nine h.1))
begins_spelled wrong l h fine = absurd (false≢true (sym fine))

fine_begins : (l : List ℕ) → is_wrong (run l start) ≡ false → Begins l
fine_begins l = begins_spelled (run l start) l (run_spells l start [] refl)

-- ---- The bytes taken

-- None of the first n bytes leads from the state s to `wrong`.
abbrev Fine : List ℕ → State → ℕ → Type 0
Fine l s n = (m : ℕ) → m < n → is_wrong (run (take (suc m) l) s) ≡ false

-- All bytes are taken, and none leads to `wrong`.
record Ends (l : List ℕ) (s : State) : Type 0 where
  fine : Fine l s (length l)
  count : taken_from l s ≡ length l

-- The first byte that leads to `wrong` is the last one taken.
record Stops (l : List ℕ) (s : State) : Type 0 where
  place : ℕ
  left : place < length l
  fine : Fine l s place
  stops : is_wrong (run (take (suc place) l) s) ≡ true
  count : taken_from l s ≡ suc place

taken_cases : (l : List ℕ) (s : State) → is_wrong s ≡ false → Ends l s ⊎ Stops l s
unfolding taken_from run
taken_cases [] s fine = inl (record { fine = λ m h. absurd (not-suc-le-zero h); count = refl })
taken_cases (b ∷ l) s fine = after (taken_cases l (next s b)) (is_wrong (next s b)) refl
  where
    more : taken_from (b ∷ l) s ≡ 1 + taken_from l (next s b)
    more = rw fine

    fine_more : (n : ℕ) → is_wrong (next s b) ≡ false → Fine l (next s b) n → Fine (b ∷ l) s (suc n)
    fine_more n e behind zero h = e
    fine_more n e behind (suc m) h = behind m (omega arith)

    after : (is_wrong (next s b) ≡ false → Ends l (next s b) ⊎ Stops l (next s b)) → (x : Bool) → is_wrong (next s b) ≡ x
        → Ends (b ∷ l) s ⊎ Stops (b ∷ l) s
    after behind true e =
        inr (record {
          place = 0;
          left = omega arith;
          fine = λ m h. absurd (not-suc-le-zero h);
          stops = e;
          count = more ∙ omega (arith, taken_wrong l (next s b) e);
        })
    after behind false e =
        ⊎_elim
        (λ all. inl (record { fine = fine_more (length l) e all.fine; count = more ∙ omega (arith, all.count) }))
        (λ part. inr (record {
          place = suc part.place;
          left = omega (arith, part.left);
          fine = fine_more part.place e part.fine;
          stops = part.stops;
          count = more ∙ omega (arith, part.count);
        }))
        (behind e)

-- ---- The claims

module _ (l : List ℕ) where
  -- A byte that leads to `wrong` is a wrong one, and no other is.
  leads_wrong : (place : ℕ) → place < length l → is_wrong (run (take (suc place) l) start) ≡ true → Wrong l place
  leads_wrong place left e = record { within = left; none = rw add-one (λ b. begins_fine (take (suc place) l) b e) }

  fine_right : (place : ℕ) → is_wrong (run (take (suc place) l) start) ≡ false → Wrong l place → ⊥
  fine_right place e w = w.none (rw add-one (fine_begins (take (suc place) l) e))

pub taken_exactly : TakenExactly
unfolding taken
taken_exactly l =
    ⊎_elim
    (λ all. inr (record {
      none = λ place w. fine_right l place (all.fine place w.within) w;
      all = all.count;
    }))
    (λ part. inl (record {
      place = part.place;
      wrong = record {
        wrong = leads_wrong l part.place part.left part.stops;
        first = λ before h. fine_right l before (part.fine before h);
      };
      ends = part.count ∙ omega arith;
    }))
    (taken_cases l start refl)

-- No line has two first wrong bytes.
pub first_wrong_taken : FirstWrongTaken
first_wrong_taken l place f =
    ⊎_elim
    (λ upto.
    let none_before : upto.place < place → ⊥ = λ before. f.first upto.place before upto.wrong.wrong in
    let none_behind : place < upto.place → ⊥ = λ before. upto.wrong.first place before f.wrong in
    omega (arith, upto.ends, none_before, none_behind))
    (λ all. absurd (all.none place f.wrong))
    (taken_exactly l)

pub none_wrong_taken : NoneWrongTaken
none_wrong_taken l none =
    ⊎_elim (λ upto. absurd (none upto.place upto.wrong.wrong)) (λ all. all.all) (taken_exactly l)

-- Every part in front of a line of the form begins that line.
pub line_taken : LineTaken
line_taken wall nine =
    none_wrong_taken (line_of wall) (λ place w. w.none (record {
      wall = wall;
      nine = nine;
      rest = drop (place + 1) (line_of wall);
      line = sym (take-append-drop (place + 1) (line_of wall));
    }))
