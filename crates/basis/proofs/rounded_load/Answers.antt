-- `basis::rounded_load` meets its contract: a load is rounded to the nearest, an exact half upwards.
use native.Mathlib.Omega.{arith}
use Rattle.basis.specs.Fraction.{floor, nearest}
use Rattle.basis.specs.Load.{rounded_load}
use Rattle.basis.proofs.rounded_load.Goals as goal

pub returns : goal.returns
unfolding rounded_load nearest floor
returns c = omega arith
