-- What a passed range test says of the record.
use mathlib.Core.Bool.{true}
use mathlib.Core.List.{map}
use mathlib.Core.Path.{◌≡◌}
use native.Mathlib.Omega.{arith}
use Rattle.basis.specs.Range.{within, AllWithin, AllBelow}
use Rattle.basis.proofs.Choice.{chain}
use Rattle.basis.proofs.Range.{within_all, chain_within}
use Rattle.cellar.specs.declared.CellarWall.{CellarWall}
use Rattle.cellar.specs.Record.{numbers}
use Rattle.cellar.specs.Range.{ranges, in_range}

-- The test as the code writes it, from left to right.
pub in_range_chain : (w : CellarWall) → chain true (map within (ranges w)) ≡ in_range w
unfolding in_range
in_range_chain w = chain_within true (ranges w)

module _ (w : CellarWall) (passed : in_range w ≡ true) where
  -- Each number between the ends of its range.
  pub in_ranges : AllWithin (ranges w)
  unfolding in_range
  in_ranges = within_all (ranges w) passed

  -- Every number of a record in range is below 10^8, so it has at most 8 digits.
  pub numbers_small : AllBelow 100000000 (numbers w)
  numbers_small = let all = in_ranges in omega arith
