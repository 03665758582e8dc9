-- Laws of the minimum load: behind the ordinary check its divisor is above 0, and its products are bounded.
use Prim.Native.Nat.{ℕ, ◌*◌, ◌≤◌, ◌<◌}
use mathlib.Core.Bool.{false}
use mathlib.Core.Path.{◌≡◌}
use native.Mathlib.Omega.{arith}
use native.Mathlib.Nat.{mul-le-mul}
use borrow.Author.Tests.{leb-false}
use Rattle.basis.specs.Result.{Accepted}
use Rattle.basis.proofs.Choice.{or_left}
use Rattle.basis.proofs.Fraction.{ceil_least, ceil_rounds_up}
use Rattle.storey.specs.declared.StoreyWall.{StoreyWall}
use Rattle.storey.specs.Limits.{bearing_too_shallow}
use Rattle.storey.specs.Check as StoreyCheck
use Rattle.storey.proofs.Claims as StoreyClaims
use Rattle.storey.proofs.Range.{in_ranges}
use Rattle.minimum_load.specs.declared.TopStoreyWall.{TopStoreyWall}
use Rattle.minimum_load.specs.MinimumLoad.{exact_minimum_load, minimum_load}
use Rattle.minimum_load.specs.Claims.{DivisorPositive, MinimumLoadRoundedUp}

-- What passes 10 has a bearing above 100 mm.
bearing_above : (w : StoreyWall) → bearing_too_shallow w ≡ false → 100 < w.bearing
unfolding bearing_too_shallow
bearing_above w passed =
    leb-false w.bearing 100 (or_left _ _ (or_left _ _ passed))

module _ (w : StoreyWall) (accepted : Accepted (StoreyCheck.check w)) where
  pub height_most : w.height ≤ 20000
  height_most = omega (arith, in_ranges w ((StoreyClaims.accepted_exactly w).0 accepted).0)

  pub bearing_most : w.bearing ≤ 1000
  bearing_most = omega (arith, in_ranges w ((StoreyClaims.accepted_exactly w).0 accepted).0)

  pub bearing_least : 100 < w.bearing
  bearing_least =
      let limits = ((StoreyClaims.accepted_exactly w).0 accepted).1 in
      bearing_above w limits.1.1.1.1.1.1.1.0

pub divisor_positive : DivisorPositive
divisor_positive w accepted = (bearing_least w accepted, omega (arith, bearing_least w accepted, height_most w accepted))

exact_den : (w : TopStoreyWall) → Accepted (StoreyCheck.check w.wall) → 0 < (exact_minimum_load w).den
unfolding exact_minimum_load
exact_den w accepted = omega (arith, (divisor_positive w.wall accepted).1)

pub minimum_load_rounded_up : MinimumLoadRoundedUp
unfolding minimum_load
minimum_load_rounded_up w accepted = ceil_rounds_up (exact_minimum_load w) (exact_den w accepted)

-- The products of the code.

pub height_square_most : (h : ℕ) → h ≤ 20000 → h * h ≤ 400000000
height_square_most h most = mul-le-mul {n₂ = 20000} {m₂ = 20000} most most

pub wind_part_most : (W h : ℕ) → W ≤ 10000 → h ≤ 20000 → 9 * W * (h * h) ≤ 36000000000000
wind_part_most W h wind height = mul-le-mul {n₂ = 90000} {m₂ = 400000000} (omega arith) (height_square_most h height)

-- What the code rests on.
pub ruleset minimum_load_steps = (height_most, bearing_most, bearing_least, height_square_most, wind_part_most)

-- W is at most 10000, h at most 20000, and 300a - h at least 10300.
pub minimum_load_most : (w : TopStoreyWall) → Accepted (StoreyCheck.check w.wall) → w.designwind ≤ 10000 → minimum_load w ≤ 22000000
unfolding minimum_load exact_minimum_load
minimum_load_most w accepted wind =
    ceil_least (exact_minimum_load w) 22000000 (exact_den w accepted)
    (omega (arith, wind_part_most w.designwind w.wall.height wind (height_most w.wall accepted), bearing_least w.wall accepted, height_most w.wall accepted))
