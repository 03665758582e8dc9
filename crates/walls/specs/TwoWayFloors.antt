-- Document 02, #101: why the comparison of records has a condition on L where M is above 0.
use Rattle.std.specs.Prelude.{true, false, ◌≡◌}
use Rattle.storey.specs.declared.StoreyWall.{StoreyWall}
use Rattle.storey.specs.Span.{span_reduced}
use Rattle.storey.specs.Resistance.{resistance}
use Rattle.storey.specs.Record.{with_support, with_span, with_other_span}
use Rattle.walls.specs.Examples.{example_a}

-- "A shorter span can now lose the reduction: L=4500, M=9000 has it, L=4499 doesn't."
abbrev pub ShorterLosesReduction : Type 0
ShorterLosesReduction = (span_reduced 4500 9000 ≡ true) × (span_reduced 4499 9000 ≡ false)

-- A with support 2 and M=12000.
abbrev pub two_way_a : StoreyWall
two_way_a = with_other_span (with_support example_a 2) 12000

-- A shorter span that loses the reduction can lose resistance. This is about the definition of the resistance, whatever the range of M.
abbrev pub ShorterLosesResistance : Type 0
ShorterLosesResistance = (resistance (with_span two_way_a 6000) ≡ 352425) × (resistance (with_span two_way_a 5999) ≡ 297582)
