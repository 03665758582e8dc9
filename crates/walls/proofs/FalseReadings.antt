-- Counterexamples to the plausible readings that are false.
use mathlib.Core.Path.{refl}
use native.Mathlib.Omega.{arith}
use Rattle.storey.specs.Record.{with_strength, with_bonded, with_dead}
use Rattle.walls.specs.Examples.{example_a, example_held}
use Rattle.walls.specs.FalseReadings.{LowerIsShorter, LowerStaysAccepted, NarrowerIsStiffer, ThickerIsStronger, LengthToNearest, RoundedBeforeReduction}
use Rattle.walls.proofs.Computes.{computes}

-- E is 7500 at h=2000 and 7378 at h=2400, with c=500.
pub lower_is_not_shorter : LowerIsShorter → ⊥
unfolding computes
lower_is_not_shorter reading = omega (arith, reading (example_held 2400 3 500) 2000 refl (omega arith))

-- With G=204771, N is 411441: A on three sides with c=500 is accepted at h=2400, with resistance 411763, and refused at h=2000, with 411440.
pub lower_can_be_refused : LowerStaysAccepted → ⊥
unfolding computes
lower_can_be_refused reading = omega (arith, reading (with_dead (example_held 2400 3 500) 204771) 2000 refl (omega arith) refl)

-- E is 12600 at c=2625 and 13120 at c=2624, with h=2625.
pub narrower_is_not_stiffer : NarrowerIsStiffer → ⊥
unfolding computes
narrower_is_not_stiffer reading = omega (arith, reading (example_held 2625 4 2625) 2624 refl (omega arith))

-- At 176 mm r jumps to 18: 325029 N/m after 352425 N/m at 175 mm.
pub thicker_is_not_stronger : ThickerIsStronger → ⊥
unfolding computes
thicker_is_not_stronger reading = omega (arith, reading (example_held 2625 2 0) 176 refl (omega arith))

-- Four sides with c=3000: 13761 and a small fraction, reported as 13762.
pub length_is_not_nearest : LengthToNearest → ⊥
unfolding computes
length_is_not_nearest reading = omega (arith, reading (example_held 2625 4 3000))

-- A with F=182 and bonded=1: 102626 N/m, and 102625 rounded before the factor.
pub reduction_comes_before_rounding : RoundedBeforeReduction → ⊥
unfolding computes
reduction_comes_before_rounding reading = omega (arith, reading (with_bonded (with_strength example_a 182) 1))
