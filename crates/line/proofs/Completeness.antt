-- The line of a record is read as that record: each of its fields is read as its number. c is the letter, and ns are the numbers before.
use Rattle.std.proofs.Common.{Some}
use Prim.Native.Nat.{ℕ, suc, ◌+◌}
use mathlib.Core.Path.{◌≡◌, ap, ◌∙◌}
use mathlib.Core.List.{List, [], ◌∷◌, ◌++◌, append_assoc, append-nil}
use native.Mathlib.Omega.{arith}
use lib.ListN.{length, length-append}
use borrow.Author.Tests.{lt-ltb, eq-eqb}
use Rattle.text.specs.Decimal.{decimal}
use Rattle.line.specs.Grammar.{fields, NineDigits, count_of}
use Rattle.line.specs.Automaton.{State, inside, next, run}
use Rattle.line.specs.Reading.{wall_of, answer, read_line}
use Rattle.line.proofs.Automaton.{run_append, next_letter, next_space, decimal_taken}

-- The number m and the fields ms behind it, where ns have been read.
answer_numbers : (c : ℕ) (ms ns : List ℕ) (m : ℕ) → NineDigits (m ∷ ms) → length ns + suc (length ms) ≡ count_of c
    → answer (run (decimal m ++ fields ms) (inside c ns 0 0)) ≡ Some (wall_of c (ns ++ m ∷ ms))
unfolding answer run fields
answer_numbers c [] ns m nine e =
    let t = decimal_taken c ns 8 m (omega arith) nine.0 in
    rw (append-nil (decimal m), t.taken, lt-ltb 0 t.size t.some, eq-eqb (length ns + 1) (count_of c) e)
answer_numbers c (n ∷ ms) ns m nine e =
    let t = decimal_taken c ns 8 m (omega arith) nine.0 in
    ap answer (run_append (decimal m) (fields (n ∷ ms)) (inside c ns 0 0))
    ∙ ap (λ (s : State). answer (run (fields (n ∷ ms)) s)) t.taken
    ∙ ap (λ (s : State). answer (run (decimal n ++ fields ms) s)) (next_space c ns t.size m t.some (omega arith))
    ∙ answer_numbers c ms (ns ++ m ∷ []) n nine.1 (rw length-append (omega arith))
    ∙ ap (λ (l : List ℕ). Some (wall_of c l)) (append_assoc ns (m ∷ []) (n ∷ ms))

-- The letter, the number m and the fields ms behind it.
pub answer_line : (c : ℕ) (ms : List ℕ) (m : ℕ) → NineDigits (m ∷ ms) → suc (length ms) ≡ count_of c
    → read_line (c ∷ fields (m ∷ ms)) ≡ Some (wall_of c (m ∷ ms))
unfolding read_line run fields next
answer_line c ms m nine e =
    ap (λ (s : State). answer (run (fields (m ∷ ms)) s)) (next_letter c (omega arith))
    ∙ answer_numbers c ms [] m nine (omega arith)
