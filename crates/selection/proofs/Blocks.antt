-- Laws of a block's ranges.
use mathlib.Core.Bool.{true}
use mathlib.Core.List.{map}
use mathlib.Core.Path.{◌≡◌}
use Rattle.basis.specs.Range.{within}
use Rattle.basis.proofs.Choice.{chain}
use Rattle.basis.proofs.Range.{chain_within}
use Rattle.selection.specs.declared.Block.{Block}
use Rattle.selection.specs.Blocks.{ranges, in_range}

-- The code's chain of tests is the list's.
pub in_range_chain : (block : Block) → chain true (map within (ranges block)) ≡ in_range block
unfolding in_range
in_range_chain block = chain_within true (ranges block)
