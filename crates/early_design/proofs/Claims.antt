-- Proofs of the three answers; the claims about refusals are proved in Check.antt, those about the records between in WorstAndBest.antt.
use Prim.Native.Nat.{ℕ}
use mathlib.Core.Bool.{Bool, true, false, true≢false, cond, not}
use mathlib.Core.List.{[], ◌∷◌}
use mathlib.Core.Logic.{◌↔◌}
use mathlib.Core.Path.{◌≡◌, ◌∙◌, refl, sym, ap}
use native.Mathlib.Omega.{arith}
use lib.Dec.{ltb}
use borrow.Author.Tests.{ltb-true, eqb-true, eq-eqb}
use Rattle.std.specs.Prelude.{get_or, Err}
use Rattle.basis.specs.Refusal.{NoneApplies}
use Rattle.basis.specs.Result.{Accepted}
use Rattle.basis.proofs.FirstRefusal.{first_or_cases, first_or_none}
use Rattle.storey.specs.declared.StoreyWall.{StoreyWall}
use Rattle.storey.specs.Check as StoreyCheck
use Rattle.early_design.specs.declared.RangeAnswer.{RangeAnswer}
use Rattle.early_design.specs.declared.RangeAnswer.TheVariants.{AllAccepted, NoneAccepted, SomeAccepted}
use Rattle.early_design.specs.declared.RangeResult.{RangeResult}
use Rattle.early_design.specs.Between.{every_record}
use Rattle.early_design.specs.Check.{refusals, accepted, answer, number_of_answer, range_result}
use Rattle.early_design.specs.WorstAndBest.{worst_of, best_of}
use Rattle.early_design.specs.Claims.{EveryAccepted, NotOneAccepted, Answers, EveryAcceptedAnswers1, NotOneAcceptedAnswers2, OtherwiseAnswers3}
use Rattle.early_design.proofs.Between.{every_record_exactly}
use Rattle.early_design.proofs.WorstAndBest.{two_records_decide}

-- What is handed back is the answer's number exactly if no refusal applies and it is the answer.
answers_exactly : (low high : StoreyWall) (n : ℕ) → Answers low high n ↔ (NoneApplies (refusals low high) × (number_of_answer (answer low high) ≡ n))
answers_exactly low high n = (
  first_or_cases Err (λ given. range_result given ≡ record { refusal = 0; answer = n } → NoneApplies (refusals low high) × (number_of_answer (answer low high) ≡ n))
      (λ k. ltb 0 k) (refusals low high) refl
      (λ k above is. absurd (let no· : ⊥ = omega (arith, ltb-true 0 k above, ap (λ (r : RangeResult). r.refusal) is) in no·))
      (λ none is. (none, ap (λ (r : RangeResult). r.answer) is)),
  (λ all. ap range_result (first_or_none Err (refusals low high) all.0) ∙ ap (λ (k : ℕ). record { refusal = 0; answer = k }) all.1),
)

-- The two tests of the answer, and what each says of all records between.

every_test : (low high : StoreyWall) → (every_record low high accepted ≡ true) ↔ EveryAccepted low high
every_test low high =
    let exactly = every_record_exactly low high accepted in (
      (λ every wall between. eqb-true (StoreyCheck.check wall).refusal 0 (exactly.0 every wall between)),
      (λ all. exactly.1 (λ wall between. eq-eqb (StoreyCheck.check wall).refusal 0 (all wall between))),
    )

refused_test : (w : StoreyWall) → (not (accepted w) ≡ true) ↔ (Accepted (StoreyCheck.check w) → ⊥)
refused_test w = by_test (accepted w) refl
  where
    by_test : (b : Bool) → accepted w ≡ b → (not b ≡ true) ↔ (Accepted (StoreyCheck.check w) → ⊥)
    by_test true is = ((λ isnt. absurd (true≢false (sym isnt))), (λ refused. absurd (refused (eqb-true (StoreyCheck.check w).refusal 0 is))))
    by_test false isnt = ((λ _ is. true≢false (sym (eq-eqb (StoreyCheck.check w).refusal 0 is) ∙ isnt)), (λ _. refl))

not_one_test : (low high : StoreyWall) → (every_record low high (λ wall. not (accepted wall)) ≡ true) ↔ NotOneAccepted low high
not_one_test low high =
    let exactly = every_record_exactly low high (λ wall. not (accepted wall)) in (
      (λ every wall between. (refused_test wall).0 (exactly.0 every wall between)),
      (λ none. exactly.1 (λ wall between. (refused_test wall).1 (none wall between))),
    )

-- The number of the answer, by both tests.
abbrev number_by : (every not_one : Bool) → ℕ
number_by every not_one = number_of_answer (cond every AllAccepted (cond not_one NoneAccepted SomeAccepted))

-- What each number says of the tests: where every record is accepted, one between is, so that both tests never hold at once.
every_number : (every not_one : Bool) → (number_by every not_one ≡ 1) ↔ (every ≡ true)
every_number true not_one = ((λ _. refl), (λ _. refl))
every_number false true = ((λ is. absurd (let no· : ⊥ = omega (arith, is) in no·)), (λ is. absurd (true≢false (sym is))))
every_number false false = ((λ is. absurd (let no· : ⊥ = omega (arith, is) in no·)), (λ is. absurd (true≢false (sym is))))

not_one_number : (every not_one : Bool) → (every ≡ true → not_one ≡ true → ⊥) → (number_by every not_one ≡ 2) ↔ (not_one ≡ true)
not_one_number true not_one apart = ((λ is. absurd (let no· : ⊥ = omega (arith, is) in no·)), (λ is. absurd (apart refl is)))
not_one_number false true apart = ((λ _. refl), (λ _. refl))
not_one_number false false apart = ((λ is. absurd (let no· : ⊥ = omega (arith, is) in no·)), (λ is. absurd (true≢false (sym is))))

otherwise_number : (every not_one : Bool) → (number_by every not_one ≡ 3) ↔ ((every ≡ true → ⊥) × (not_one ≡ true → ⊥))
otherwise_number true not_one = ((λ is. absurd (let no· : ⊥ = omega (arith, is) in no·)), (λ both. absurd (both.0 refl)))
otherwise_number false true = ((λ is. absurd (let no· : ⊥ = omega (arith, is) in no·)), (λ both. absurd (both.1 refl)))
otherwise_number false false = ((λ _. ((λ is. true≢false (sym is)), (λ is. true≢false (sym is)))), (λ _. refl))

module _ (low high : StoreyWall) where
  abbrev every : Bool
  every = every_record low high accepted

  abbrev not_one : Bool
  not_one = every_record low high (λ wall. not (accepted wall))

  never_both : NoneApplies (refusals low high) → every ≡ true → not_one ≡ true → ⊥
  never_both none is isnt =
      let between = (two_records_decide low high none).0 in
      (not_one_test low high).0 isnt (worst_of low high) between ((every_test low high).0 is (worst_of low high) between)

pub every_accepted_answers_1 : EveryAcceptedAnswers1
unfolding answer
every_accepted_answers_1 low high =
    let exactly = answers_exactly low high 1 in
    let number = every_number (every low high) (not_one low high) in
    let test = every_test low high in (
      (λ is. let all = exactly.0 is in (all.0, test.0 (number.0 all.1))),
      (λ all. exactly.1 (all.0, number.1 (test.1 all.1))),
    )

pub not_one_accepted_answers_2 : NotOneAcceptedAnswers2
unfolding answer
not_one_accepted_answers_2 low high =
    let exactly = answers_exactly low high 2 in
    let test = not_one_test low high in (
      (λ is.
          let all = exactly.0 is in
          (all.0, test.0 ((not_one_number (every low high) (not_one low high) (never_both low high all.0)).0 all.1))),
      (λ all. exactly.1 (all.0, (not_one_number (every low high) (not_one low high) (never_both low high all.0)).1 (test.1 all.1))),
    )

pub otherwise_answers_3 : OtherwiseAnswers3
unfolding answer
otherwise_answers_3 low high =
    let exactly = answers_exactly low high 3 in
    let number = otherwise_number (every low high) (not_one low high) in
    let test = every_test low high in
    let test' = not_one_test low high in (
      (λ is.
          let all = exactly.0 is in
          let neither = number.0 all.1 in
          (all.0, ((λ each. neither.0 (test.1 each)), (λ none. neither.1 (test'.1 none))))),
      (λ all. exactly.1 (all.0, number.1 ((λ is. all.1.0 (test.0 is)), (λ is. all.1.1 (test'.0 is))))),
    )

-- What the two records say of the answer.

-- A number stands for one answer only.
answer_of : ℕ → RangeAnswer
answer_of n = get_or (SomeAccepted ∷ AllAccepted ∷ NoneAccepted ∷ []) n SomeAccepted

found_again : (given : RangeAnswer) → answer_of (number_of_answer given) ≡ given
unfolding answer_of
found_again AllAccepted = refl
found_again NoneAccepted = refl
found_again SomeAccepted = refl

pub answer_by : (low high : StoreyWall) (given : RangeAnswer) → Answers low high (number_of_answer given) → given ≡ answer low high
answer_by low high given is =
    let number = ((answers_exactly low high (number_of_answer given)).0 is).1 in
    sym (found_again given) ∙ ap answer_of (sym number) ∙ found_again (answer low high)

module _ (low high : StoreyWall) (none : NoneApplies (refusals low high)) where
  abbrev WorstAccepted : Type 0
  WorstAccepted = Accepted (StoreyCheck.check (worst_of low high))

  abbrev BestAccepted : Type 0
  BestAccepted = Accepted (StoreyCheck.check (best_of low high))

  pub answers_all : WorstAccepted → Answers low high 1
  answers_all worst = (every_accepted_answers_1 low high).1 (none, (two_records_decide low high none).2.1 worst)

  pub answers_none : (BestAccepted → ⊥) → Answers low high 2
  answers_none best = (not_one_accepted_answers_2 low high).1 (none, (two_records_decide low high none).3.1 best)

  pub answers_some : (WorstAccepted → ⊥) → BestAccepted → Answers low high 3
  answers_some worst best =
      let decide = two_records_decide low high none in
      (otherwise_answers_3 low high).1 (none, ((λ every. worst (decide.2.0 every)), (λ not_one. decide.3.0 not_one best)))
