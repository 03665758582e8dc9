-- What a block's F decides: below the bound of refusal 11 it is never accepted, and where a block is accepted so is each stronger one.
use native.Mathlib.Omega.{arith}
use borrow.Author.Tests.{ltb-false}
use Rattle.storey.specs.Record.{with_strength as storey_with_strength}
use Rattle.storey.specs.Limits.{too_weak as storey_too_weak}
use Rattle.cellar.specs.Record.{with_strength as cellar_with_strength}
use Rattle.cellar.specs.Limits.{too_weak as cellar_too_weak}
use Rattle.cellar.proofs.Strength as CellarStrength
use Rattle.walls.specs.declared.Wall.TheVariants.{Storey, Cellar}
use Rattle.walls.proofs.Claims.{accepted_within_limits}
use Rattle.walls.proofs.Comparison.{stronger_no_worse, storey_comparison}
use Rattle.selection.specs.Claims.{WeakNeverAccepted, StrongerAccepted}
use Rattle.selection.proofs.Refusals.{strength_range_lem}

-- 11 stands ninth of a storey record's limits and fifth of a cellar record's.
pub weak_never_accepted : WeakNeverAccepted
unfolding storey_too_weak cellar_too_weak
weak_never_accepted (Storey wall) block weak is =
    let limits = (accepted_within_limits (Storey (storey_with_strength wall block.strength)) is).1 in
    omega (arith, weak, ltb-false block.strength 180 limits.1.1.1.1.1.1.1.1.0)
weak_never_accepted (Cellar wall) block weak is =
    let limits = (accepted_within_limits (Cellar (cellar_with_strength wall block.strength)) is).1 in
    omega (arith, weak, ltb-false block.strength 180 limits.1.1.1.1.0)

-- By demand 3's storey part, and by the law of the cellar.
pub stronger_accepted : StrongerAccepted
stronger_accepted (Storey wall) block other within stronger is =
    let w = storey_with_strength wall block.strength in
    let passed = (accepted_within_limits (Storey w) is).0 in
    let passed' = (strength_range_lem (Storey w) other.strength passed).1 (within.0, within.1, tt) in
    (storey_comparison w (storey_with_strength w other.strength) passed passed' (stronger_no_worse w other.strength stronger) is).0
stronger_accepted (Cellar wall) block other within stronger is =
    let w = cellar_with_strength wall block.strength in
    let passed = (accepted_within_limits (Cellar w) is).0 in
    let passed' = (strength_range_lem (Cellar w) other.strength passed).1 (within.0, within.1, tt) in
    CellarStrength.stronger_accepted w other.strength stronger passed' is
