-- Document 01, "The two lines": the numbers that stand for kinds.
use Rattle.std.specs.Prelude.{ℕ}
use Rattle.storey.specs.declared.in_range.Usage.{Usage}
use Rattle.storey.specs.declared.in_range.Usage.TheVariants.{Inner, OuterLeaf, BearingLeaf, Garage}
use Rattle.storey.specs.declared.in_range.Support.{Support}
use Rattle.storey.specs.declared.in_range.Support.TheVariants.{Intermediate, UnderFloor, UnderRoof, CentringStrip}
use Rattle.storey.specs.declared.in_range.Holding.{Holding}
use Rattle.storey.specs.declared.in_range.Holding.TheVariants.{TwoSides, ThreeSides, FourSides}

-- "use"
abbrev pub usage_number : Usage → ℕ
usage_number Inner = 1
usage_number OuterLeaf = 2
usage_number BearingLeaf = 3
usage_number Garage = 4

-- "support"
abbrev pub support_number : Support → ℕ
support_number Intermediate = 1
support_number UnderFloor = 2
support_number UnderRoof = 3
support_number CentringStrip = 4

-- "held"
abbrev pub held_number : Holding → ℕ
held_number TwoSides = 2
held_number (ThreeSides c) = 3
held_number (FourSides c) = 4

-- "c, 0 if held is 2"
abbrev pub distance_number : Holding → ℕ
distance_number TwoSides = 0
distance_number (ThreeSides c) = c
distance_number (FourSides c) = c
