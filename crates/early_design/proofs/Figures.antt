-- The examples: of each pair the worst and the best record are computed.
use mathlib.Core.Path.{refl}
use native.Mathlib.Omega.{arith}
use Rattle.walls.proofs.Computes.{computes}
use Rattle.early_design.specs.Check.{low_above_high, another_differs, two_way_span_differs, not_low_and_high}
use Rattle.early_design.specs.Figures.{example_a_with, WorkedAnswers, GivenRecordsDoNotDecide}
use Rattle.early_design.proofs.Claims.{answers_all, answers_none, answers_some}

pub worked_answers : WorkedAnswers
unfolding computes low_above_high another_differs two_way_span_differs not_low_and_high
worked_answers = (
  answers_all (example_a_with 50000 60000 400) (example_a_with 70000 90000 600) (refl, (refl, (refl, tt))) refl,
  answers_none (example_a_with 120000 60000 300) (example_a_with 130000 60000 350) (refl, (refl, (refl, tt))) (λ is. omega (arith, is)),
  answers_some (example_a_with 50000 60000 300) (example_a_with 70000 90000 600) (refl, (refl, (refl, tt))) (λ is. omega (arith, is)) refl,
)

pub given_records_do_not_decide : GivenRecordsDoNotDecide
unfolding computes low_above_high another_differs two_way_span_differs not_low_and_high
given_records_do_not_decide = (
  (
    refl,
    refl,
    answers_some (example_a_with 10000 50000 200) (example_a_with 100000 90000 500) (refl, (refl, (refl, tt))) (λ is. omega (arith, is)) refl,
  ),
  (λ is. omega (arith, is)),
  (λ is. omega (arith, is)),
  answers_some (example_a_with 110000 0 200) (example_a_with 160000 0 300) (refl, (refl, (refl, tt))) (λ is. omega (arith, is)) refl,
)
