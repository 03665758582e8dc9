-- A record of either kind: its numbers and their ranges, the parts of its check, its range test and its result.
use Rattle.std.specs.Prelude.{ℕ, Bool, List}
use Rattle.basis.specs.declared.CheckResult.{CheckResult}
use Rattle.basis.specs.Range.{Range}
use Rattle.basis.specs.Check.{Parts, result_of}
use Rattle.storey.specs.Record as StoreyRecord
use Rattle.storey.specs.Range as StoreyRange
use Rattle.storey.specs.Check as StoreyCheck
use Rattle.cellar.specs.Record as CellarRecord
use Rattle.cellar.specs.Range as CellarRange
use Rattle.cellar.specs.Check as CellarCheck
use Rattle.walls.specs.declared.Wall.{Wall}
use Rattle.walls.specs.declared.Wall.TheVariants.{Storey, Cellar}

-- In document 01's order.
abbrev pub numbers_of : Wall → List ℕ
numbers_of (Storey w) = StoreyRecord.numbers w
numbers_of (Cellar w) = CellarRecord.numbers w

abbrev pub ranges_of : Wall → List Range
ranges_of (Storey w) = StoreyRange.ranges w
ranges_of (Cellar w) = CellarRange.ranges w

abbrev pub parts : Wall → Parts
parts (Storey w) = StoreyCheck.parts w
parts (Cellar w) = CellarCheck.parts w

abbrev pub in_range : Wall → Bool
in_range wall = (parts wall).in_range

abbrev pub check : Wall → CheckResult
check wall = result_of (parts wall)
