-- Laws of the records between two: to try every list of numbers between the ends is to try every record between.
use Prim.Native.Nat.{ℕ, zero, suc, ◌+◌, ◌≤◌, ◌<◌}
use mathlib.Core.Bool.{Bool, true}
use mathlib.Core.List.{List, [], ◌∷◌}
use mathlib.Core.Path.{◌≡◌, refl, sym, ap, ap₂, subst}
use native.Mathlib.Decide.{dec_le}
use native.Mathlib.Nat.{le_antisymm}
use native.Mathlib.Omega.{arith}
use lib.ListN.{length}
use Rattle.basis.proofs.Choice.{and_left, and_right}
use Rattle.storey.specs.declared.StoreyWall.{StoreyWall}
use Rattle.storey.specs.Record.{numbers, storey_of}
use Rattle.storey.proofs.Record.{numbers_of_storey_of}
use Rattle.early_design.specs.Between.{paired, ends, EachBetween, Between, every_from, every_list, every_record, EveryRecordExactly}

every_from_true : (first count : ℕ) (test : ℕ → Bool) → every_from first count test ≡ true → (n : ℕ) → first ≤ n → n < first + count → test n ≡ true
unfolding every_from
every_from_true first zero test every n from to = absurd (let no· : ⊥ = omega arith in no·)
every_from_true first (suc count) test every n from to =
    go (dec_le (suc first) n) (every_from_true (suc first) count test (and_right (test first) (every_from (suc first) count test) every) n)
  where
    go : Dec (suc first ≤ n) → (suc first ≤ n → n < suc first + count → test n ≡ true) → test n ≡ true
    go (yes above) others = others above (omega arith)
    go (no not_above) others =
        let same : first ≡ n = omega arith in
        subst (λ (m : ℕ). test m ≡ true) same (and_left (test first) (every_from (suc first) count test) every)

true_every_from : (first count : ℕ) (test : ℕ → Bool) → ((n : ℕ) → first ≤ n → n < first + count → test n ≡ true) → every_from first count test ≡ true
unfolding every_from
true_every_from first zero test all = refl
true_every_from first (suc count) test all =
    rw (all first (omega arith) (omega arith)) (true_every_from (suc first) count test (λ n from to. all n (omega (arith, from)) (omega (arith, to))))

every_list_true : (es : List (ℕ × ℕ)) (test : List ℕ → Bool) → every_list es test ≡ true → (ns : List ℕ) → EachBetween es ns → test ns ≡ true
unfolding every_list
every_list_true [] test every [] between = every
every_list_true [] test every (n ∷ ns) between = absurd between
every_list_true (e ∷ es) test every [] between = absurd between
every_list_true (e ∷ es) test every (n ∷ ns) between =
    every_list_true es (λ ms. test (n ∷ ms))
    (every_from_true e.0 _ (λ m. every_list es (λ ms. test (m ∷ ms))) every n between.0 (omega (arith, between.0, between.1))) ns between.2

true_every_list : (es : List (ℕ × ℕ)) (test : List ℕ → Bool) → ((ns : List ℕ) → EachBetween es ns → test ns ≡ true) → every_list es test ≡ true
unfolding every_list
true_every_list [] test all = all [] tt
true_every_list (e ∷ es) test all =
    true_every_from e.0 _ (λ m. every_list es (λ ms. test (m ∷ ms)))
    (λ n from to. true_every_list es (λ ms. test (n ∷ ms)) (λ ns between. all (n ∷ ns) (from, omega (arith, from, to), between)))

-- As many numbers as ends.
each_between_length : (es : List (ℕ × ℕ)) (ns : List ℕ) → EachBetween es ns → length ns ≡ length es
each_between_length [] [] between = refl
each_between_length [] (n ∷ ns) between = absurd between
each_between_length (e ∷ es) [] between = absurd between
each_between_length (e ∷ es) (n ∷ ns) between = ap suc (each_between_length es ns between.2)

pub every_record_exactly : EveryRecordExactly
unfolding every_record
every_record_exactly low high test =
    let tried : List ℕ → Bool = λ ns. test (storey_of ns) in (
      (λ every wall between. every_list_true (ends low high) tried every (numbers wall) between),
      (λ all. true_every_list (ends low high) tried
          (λ ns between. all (storey_of ns)
          (subst (EachBetween (ends low high)) (sym (numbers_of_storey_of ns (each_between_length (ends low high) ns between))) between))),
    )

-- Between two equal ends there is one number.
pinned : (ms ns : List ℕ) → EachBetween (paired ms ms) ns → ms ≡ ns
pinned [] [] between = refl
pinned [] (n ∷ ns) between = absurd between
pinned (m ∷ ms) [] between = absurd between
pinned (m ∷ ms) (n ∷ ns) between = ap₂ (λ (k : ℕ) (ks : List ℕ). k ∷ ks) (le_antisymm between.0 between.1) (pinned ms ns between.2)

-- So a record between another and itself is that one.
pub between_itself : (w w' : StoreyWall) → Between w w w' → w ≡ w'
between_itself w w' between = ap storey_of (pinned (numbers w) (numbers w') between)
