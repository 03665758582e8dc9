-- Laws of the load.
use Prim.Native.Nat.{◌≤◌, ◌<◌}
use mathlib.Core.Bool.{true}
use mathlib.Core.Path.{◌≡◌}
use native.Mathlib.Omega.{arith}
use Rattle.basis.specs.Load.{LoadRounded}
use Rattle.basis.proofs.Load as loads
use Rattle.cellar.specs.declared.CellarWall.{CellarWall}
use Rattle.cellar.specs.Range.{in_range}
use Rattle.cellar.specs.Load.{exact_load, load}
use Rattle.cellar.proofs.Range.{in_ranges}

pub exact_load_den : (w : CellarWall) → 0 < (exact_load w).den
unfolding exact_load
exact_load_den w = omega arith

pub load_is_rounded : (w : CellarWall) → LoadRounded (load w) (exact_load w)
unfolding load
load_is_rounded w = loads.load_rounded (exact_load w) (exact_load_den w)

-- Neither load falling, the load does not fall.
pub load_grows : (w w' : CellarWall) → w.dead ≤ w'.dead → w.imposed ≤ w'.imposed → load w ≤ load w'
unfolding load exact_load
load_grows w w' dead imposed = loads.load_mono (exact_load w) (exact_load w') (omega arith) (omega arith) (omega arith)

-- Loads of at most 10^7 N/m each give at most 28500000 N/m.
pub load_most : (w : CellarWall) → in_range w ≡ true → load w ≤ 28500000
unfolding load exact_load
load_most w passed = loads.load_most (exact_load w) 28500000 (omega arith) (omega (arith, in_ranges w passed))
