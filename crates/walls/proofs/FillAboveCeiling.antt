-- Fill above the cellar ceiling: figures, computed; the results that stay; instances of the comparison of records.
use Prim.Native.Nat.{ℕ, ◌*◌, ◌≤◌}
use mathlib.Core.Logic.{◌⊎◌, inl, inr}
use mathlib.Core.Bool.{true}
use mathlib.Core.Path.{◌≡◌, ◌∙◌, refl, sym}
use native.Mathlib.Omega.{arith}
use borrow.Author.Tests.{lt-ltb, le-ltb}
use lib.Dec.{ltb}
use Rattle.basis.specs.Result.{Accepted}
use Rattle.cellar.specs.declared.CellarWall.{CellarWall}
use Rattle.cellar.specs.Record.{with_fill, with_dead, with_imposed}
use Rattle.cellar.specs.Limits.{fill_too_high}
use Rattle.cellar.specs.Check.{check}
use Rattle.cellar.proofs.Limits.{fill_test, fill_too_high_exactly}
use Rattle.walls.specs.Examples.{example_k}
use Rattle.walls.specs.FillAboveCeiling.{ExamplesOf16, ExampleSixAccepted, FillsAtTheLimit, OtherFillsStay, AcceptedBetween, BetweenAboveAndBelow}
use Rattle.walls.proofs.Comparison.{cellar_comparison}
use Rattle.walls.proofs.Computes.{computes}

pub examples_of_16 : ExamplesOf16
unfolding computes
examples_of_16 = (refl, refl, refl)

pub example_six_accepted : ExampleSixAccepted
unfolding computes
example_six_accepted = refl

pub fills_at_the_limit : FillsAtTheLimit
unfolding computes
fills_at_the_limit = refl

-- Up to the ceiling neither test refuses; above 1.15h both do.
tests_agree : (w : CellarWall) → (w.fill ≤ w.height) ⊎ (fill_too_high w ≡ true) → fill_too_high w ≡ ltb w.height w.fill
tests_agree w (inl below) = sym (fill_test w) ∙ le-ltb (23 * w.height) (20 * w.fill) (omega (arith, below)) ∙ sym (le-ltb _ _ below)
tests_agree w (inr refused) = refused ∙ sym (lt-ltb w.height w.fill (omega (arith, (fill_too_high_exactly w).0 refused)))

pub other_fills_stay : OtherFillsStay
other_fills_stay w stays = rw (tests_agree w stays)

-- K with another fill and other loads.
abbrev loaded_k : (e G Q : ℕ) → CellarWall
loaded_k e G Q = with_imposed (with_dead (with_fill example_k e) G) Q

-- If the two ends are accepted, so is what lies between them.
between_ends : (e G Q G' Q' : ℕ) → Accepted (check (loaded_k e G Q)) → Accepted (check (loaded_k e G' Q')) → AcceptedBetween e G Q G' Q'
between_ends e G Q G' Q' low high dead imposed dead_from dead_to imposed_from imposed_to =
    cellar_comparison (loaded_k e G Q) (loaded_k e G' Q') (loaded_k e dead imposed) low high
    (record {
      ends = refl;
      inside = refl;
      dead_from = dead_from;
      dead_to = dead_to;
      imposed_from = imposed_from;
      imposed_to = imposed_to;
    })

pub between_above_and_below : BetweenAboveAndBelow
unfolding computes
between_above_and_below = (between_ends 2875 56614 0 188682 60000 refl refl, between_ends 2000 27398 0 188682 60000 refl refl)
