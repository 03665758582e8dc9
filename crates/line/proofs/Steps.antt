-- The reader's steps: what holds at the head of each loop, and that each way through the code keeps it.
-- From a state the bytes that are left decide what is read, and how many more of them are taken.
use Rattle.std.proofs.Common.{Option, Some, None}
use Rattle.std.proofs.lemmas.Bool.{not-false}
use Prim.Native.Nat.{ℕ, ◌+◌, ◌-◌, ◌*◌, ◌^◌, ◌≤◌, ◌<◌}
use mathlib.Core.Bool.{true, false, not, cond, ◌&&◌, ◌||◌}
use mathlib.Core.List.{List, [], ◌∷◌, ◌++◌}
use mathlib.Core.Path.{◌≡◌, refl, sym, ap, ◌∙◌}
use native.Mathlib.Numerals.{add-one}
use native.Mathlib.Omega.{arith}
use lib.Dec.{ltb, eqb}
use lib.ListN.{length, take, set, length-set}
use lib.Seq.{length-take-le, take-suc-set}
use borrow.Author.Tests.{lt-ltb, eq-eqb, ne_eqb, ltb-true, eqb-false}
use Rattle.walls.specs.declared.Wall.{Wall}
use Rattle.line.specs.declared.kind.Kind.{Kind}
use Rattle.line.specs.Grammar.{count_of}
use Rattle.line.specs.Kind.{kind_letter}
use Rattle.line.specs.declared.cursor.Cursor.{Cursor}
use Rattle.line.specs.Cursor.{rest, Takes, Ended}
use Rattle.line.specs.Automaton.{State, start, lettered, inside, wrong, is_wrong, digit_of, next, run}
use Rattle.line.specs.declared.CountedReading.{CountedReading}
use Rattle.line.specs.Reading.{wall_of, answer, read_line, taken, taken_from, counted_reading, ReadFrom}
use Rattle.basis.proofs.Choice.{and_left, and_right, or_left, or_right, cond_cases}
use Rattle.line.proofs.Decimal.{value_grows}
use Rattle.line.proofs.Grammar.{kind_some, count_most, wall_of_take}
use Rattle.std.specs.Char.{is_ascii_digit}
use Rattle.line.proofs.Automaton.{run_wrong, taken_wrong, digit_of_digit, no_digit, next_letter}

-- What a reader does in the state s at the place from, it does in the state t at the place to.
pub record Continues (s : State) (from : Cursor) (t : State) (to : Cursor) : Type 0 where
  pub reads : answer (run (rest from) s) ≡ answer (run (rest to) t)
  pub takes : from.taken + taken_from (rest from) s ≡ to.taken + taken_from (rest to) t

pub continues_here : (s : State) (from : Cursor) → Continues s from s from
continues_here s from = record { reads = refl; takes = refl }

module _ {s : State} {from : Cursor} {t : State} {to : Cursor} (c : Continues s from t to) where
  -- One byte more.
  pub continues_next : {u : State} {b : ℕ} {new : Cursor} → is_wrong t ≡ false → Takes to b new → next t b ≡ u → Continues s from u new
  unfolding run taken_from
  continues_next {u = u} {b = b} {new = new} fine step e =
      let more : taken_from (rest to) t ≡ 1 + taken_from (rest new) u = ap (λ (x : List ℕ). taken_from x t) step.first ∙ rw (fine, e) in
      record {
        reads = c.reads ∙ ap (λ (x : List ℕ). answer (run x t)) step.first ∙ ap (λ (x : State). answer (run (rest new) x)) e;
        takes = omega (arith, c.takes, more, step.count);
      }

  pub continues_read : {r : Option Wall} {new : Cursor} → ReadFrom t to r new → ReadFrom s from r new
  continues_read f = record { answers = f.answers ∙ sym c.reads; takes = f.takes ∙ sym c.takes }

  -- Behind a wrong byte none is taken.
  pub read_wrong : t ≡ wrong → ReadFrom s from None to
  unfolding answer
  read_wrong e =
      record {
        answers = sym (c.reads ∙ ap (λ (x : State). answer (run (rest to) x)) e ∙ ap answer (run_wrong (rest to)));
        takes = omega (arith, c.takes, taken_wrong (rest to) t (rw e));
      }

  -- At the end of the line the state decides.
  pub read_end : {new : Cursor} → Ended to new → ReadFrom s from (answer t) new
  unfolding run taken_from
  read_end end =
      record {
        answers = sym (c.reads ∙ ap (λ (x : List ℕ). answer (run x t)) end.none);
        takes = omega (arith, c.takes, ap (λ (x : Cursor). x.taken) end.same, ap (λ (x : List ℕ). taken_from x t) end.none);
      }

-- ---- The letter and the first space

pub no_letter : {from new : Cursor} → Ended from new → ReadFrom start from None new
unfolding answer
no_letter = read_end (continues_here start _)

module _ {from to : Cursor} {letter : ℕ} (step : Takes from letter to) where
  pub letter_wrong : count_of letter ≡ 0 → ReadFrom start from None to
  unfolding next
  letter_wrong none = read_wrong (continues_next (continues_here start from) refl step refl) (rw (eq-eqb (count_of letter) 0 none))

  pub letter_taken : (kind : Kind) → kind_letter kind ≡ letter → Continues start from (lettered (kind_letter kind)) to
  letter_taken kind e = continues_next (continues_here start from) refl step (rw (← e) (next_letter (kind_letter kind) (kind_some kind)))

module _ {letter : ℕ} {from to : Cursor} (c : Continues start from (lettered letter) to) where
  pub no_space : {new : Cursor} → Ended to new → ReadFrom start from None new
  unfolding answer
  no_space = read_end c

  module _ {byte : ℕ} {new : Cursor} (step : Takes to byte new) where
    pub space_wrong : (byte ≡ 32 → ⊥) → ReadFrom start from None new
    unfolding next
    space_wrong other = read_wrong (continues_next c refl step refl) (rw (ne_eqb byte 32 other))

    pub space_taken : byte ≡ 32 → Continues start from (inside letter [] 0 0) new
    unfolding next
    space_taken space = continues_next c refl step (rw (eq-eqb byte 32 space))

-- ---- The numbers

-- Between two numbers: k of those that the letter asks for are in the array.
pub record Between (letter wanted : ℕ) (from : Cursor) (numbers : List ℕ) (k : ℕ) (to : Cursor) : Type 0 where
  pub count : wanted ≡ count_of letter
  pub some : 0 < wanted
  pub room : wanted ≤ length numbers
  pub more : k < wanted → Continues (inside letter [] 0 0) from (inside letter (take k numbers) 0 0) to
  pub done : k ≡ wanted → ReadFrom (inside letter [] 0 0) from (Some (wall_of letter (take k numbers))) to

-- Inside a number: so many of its digits have been taken, and their value is this.
pub record Inside (letter : ℕ) (from : Cursor) (numbers : List ℕ) (k digits value : ℕ) (to : Cursor) : Type 0 where
  pub few : digits ≤ 9
  pub small : value < 10 ^ digits
  pub continues : Continues (inside letter [] 0 0) from (inside letter (take k numbers) digits value) to

-- No space ends a number without digits.
pub no_digit_before : (byte digits k wanted : ℕ) → (eqb byte 32 && ltb 0 digits && ltb (k + 1) wanted) ≡ true → digits ≡ 0 → ⊥
no_digit_before byte digits k wanted space none = let some : 0 < digits = search (and_left, and_right, ltb-true) in omega arith

pub opened : (kind : Kind) (wanted : ℕ) (from : Cursor) (numbers : List ℕ) → wanted ≡ count_of (kind_letter kind) → count_of 83 ≤ length numbers
    → Between (kind_letter kind) wanted from numbers 0 from
opened kind wanted from numbers count room =
    let some : 0 < wanted = omega (arith, kind_some kind) in
    record {
      count = count;
      some = some;
      room = omega (arith, count_most (kind_letter kind));
      more = λ _. continues_here _ from;
      done = λ none. absurd (omega arith);
    }

module _ {letter wanted : ℕ} {from : Cursor} {numbers : List ℕ} {k : ℕ} {last : Cursor}
    (b : Between letter wanted from numbers k last) (wanting : k < wanted) where
  -- The array has a place for it.
  pub index : k < count_of 83
  index = omega (arith, b.count, count_most letter)

  placed : length (take k numbers) ≡ k
  placed = length-take-le k numbers (omega (arith, b.room))

  module _ {digits value : ℕ} {to : Cursor} (i : Inside letter from numbers k digits value to) where
    -- The array with the number put in its place.
    stored : take (k + 1) (set numbers k value) ≡ take k numbers ++ value ∷ []
    stored = rw add-one (take-suc-set numbers k value (omega (arith, b.room)))

    -- The line ends where a number is wanted.
    pub number_missing : {new : Cursor} → Ended to new → digits ≡ 0 → ReadFrom (inside letter [] 0 0) from None new
    unfolding answer
    number_missing end none =
        let e : answer (inside letter (take k numbers) digits value) ≡ None = rw none in
        let f = read_end i.continues end in record { answers = sym e ∙ f.answers; takes = f.takes }

    -- The line ends behind a number: every number has been read, or one is missing.
    pub line_ended : {new : Cursor} → Ended to new → 0 < digits → Between letter wanted from (set numbers k value) (k + 1) new
    unfolding answer run taken_from
    line_ended {new = new} end some =
        let f = read_end i.continues end in
        let none : rest new ≡ [] = ap rest end.same ∙ end.none in
        record {
          count = b.count;
          some = b.some;
          room = rw length-set b.room;
          more = λ short. record {
            reads =
                sym f.answers
                ∙ rw (lt-ltb 0 digits some, ne_eqb (length (take k numbers) + 1) (count_of letter) (λ e. omega (arith, placed, b.count)), none);
            takes = rw none (omega (arith, f.takes));
          };
          done = λ all. record {
            answers =
                sym (rw (lt-ltb 0 digits some, eq-eqb (length (take k numbers) + 1) (count_of letter) (omega (arith, placed, b.count)), stored))
                ∙ f.answers;
            takes = f.takes;
          };
        }

    module _ {byte : ℕ} {new : Cursor} (step : Takes to byte new) where
      -- A space, with another number to come.
      pub number_ended : (eqb byte 32 && ltb 0 digits && ltb (k + 1) wanted) ≡ true → Between letter wanted from (set numbers k value) (k + 1) new
      unfolding next
      number_ended space =
          let another : k + 1 < wanted = search (and_right, ltb-true) in
          let e : next (inside letter (take k numbers) digits value) byte ≡ inside letter (take k numbers ++ value ∷ []) 0 0 =
          rw (placed, ← b.count, space) in
          record {
            count = b.count;
            some = b.some;
            room = rw length-set b.room;
            more = λ _. rw stored (continues_next i.continues refl step e);
            done = λ all. absurd (omega arith);
          }

      -- Any other byte.
      module _ (other : (eqb byte 32 && ltb 0 digits && ltb (k + 1) wanted) ≡ false) where
        next_digit : next (inside letter (take k numbers) digits value) byte
            ≡ cond (not (is_ascii_digit byte) || eqb digits 9 || eqb digits 1 && eqb value 0) wrong
            (inside letter (take k numbers) (digits + 1) (10 * value + digit_of byte))
        unfolding next
        next_digit = rw (placed, ← b.count, other, no_digit byte)

        pub digit_wrong : (not (is_ascii_digit byte) || eqb digits 9 || eqb digits 1 && eqb value 0) ≡ true
            → ReadFrom (inside letter [] 0 0) from None new
        digit_wrong fault = read_wrong (continues_next i.continues refl step refl) (next_digit ∙ rw fault)

        pub digit_taken : (not (is_ascii_digit byte) || eqb digits 9 || eqb digits 1 && eqb value 0) ≡ false
            → Inside letter from numbers k (digits + 1) (10 * value + (byte - 48)) new
        digit_taken fine =
            let none : not (is_ascii_digit byte) ≡ false = search or_left in
            let room : eqb digits 9 ≡ false = search (or_left, or_right) in
            let digit = digit_of_digit byte (not-false (is_ascii_digit byte) none) in
            record {
              few = omega (arith, i.few, eqb-false digits 9 room);
              small = value_grows digits value (byte - 48) i.small (omega (arith, digit.1));
              continues = continues_next i.continues refl step (next_digit ∙ rw (fine, digit.0));
            }

-- Every number has been read.
pub all_read : {letter wanted : ℕ} {from : Cursor} {numbers : List ℕ} {k : ℕ} {to : Cursor} {wall : Wall} → Between letter wanted from numbers k to
    → wanted ≡ k → wall ≡ wall_of letter numbers → ReadFrom (inside letter [] 0 0) from (Some wall) to
all_read {letter = letter} {numbers = numbers} {k = k} b all e =
    let count : k ≡ count_of letter = omega (arith, b.count) in
    let same : wall_of letter (take k numbers) ≡ wall_of letter numbers =
    rw count (wall_of_take numbers letter (omega (arith, b.count, b.some)) (omega (arith, b.count, b.room))) in
    let f = b.done (sym all) in record { answers = ap Some (e ∙ sym same) ∙ f.answers; takes = f.takes }

abbrev counted : Option Wall → ℕ → CountedReading
counted reading count = record { reading = reading; taken = count }

-- A line of fewer than two bytes: all are taken, and it is not a line of the form.
pub short_line : (line : List ℕ) → length line < 2 → counted_reading line ≡ counted None (length line)
unfolding counted_reading read_line taken taken_from run next answer
short_line [] h = refl
short_line (b ∷ []) h = cond_cases (λ (s : State). counted (answer s) 1 ≡ counted None 1) (eqb (count_of b) 0) (λ e. refl) (λ e. refl)
short_line (b ∷ b' ∷ l) h = absurd (omega arith)
