-- Document 02, #106, for an `S` record and a design wind W: the parts of the check, and the five numbers of every record.
use Rattle.std.specs.Prelude.{ℕ, Bool, ◌&&◌, List, [], ◌∷◌, ◌++◌, ltb}
use Rattle.basis.specs.declared.CheckResult.{CheckResult}
use Rattle.basis.specs.Range.{Range, ◌from◌to◌, within}
use Rattle.basis.specs.Refusal.{first_or}
use Rattle.basis.specs.Check.{Parts, result_of}
use Rattle.storey.specs.BucklingLength.{buckling_length}
use Rattle.storey.specs.Load.{load}
use Rattle.storey.specs.Resistance.{resistance}
use Rattle.storey.specs.Limits.{limits}
use Rattle.storey.specs.Range as StoreyRange
use Rattle.storey.specs.Check as StoreyCheck
use Rattle.minimum_load.specs.declared.TopStoreyWall.{TopStoreyWall}
use Rattle.minimum_load.specs.MinimumLoad.{minimum_load}

-- "a design wind W, 1..10000 N/m²"
abbrev pub wind_range : (W : ℕ) → Range
wind_range W = W from 1 to 10000

-- "A W out of range is refusal 2 in that refusal's place"
unfoldable pub in_range : TopStoreyWall → Bool
in_range w = within (wind_range w.designwind) && StoreyRange.in_range w.wall

-- "The ordinary check comes first", so 13 as it asks it; "21, tested last, is given when G is below the need"
abbrev pub measures : TopStoreyWall → List (ℕ × Bool)
measures w = StoreyCheck.measures w.wall ++ (21, ltb w.wall.dead (minimum_load w)) ∷ []

-- The ordinary refusal "is passed on as it is": 13 carries E. "The second number of an accepted result is the need"; 21 "fills the result as 19 does", with the need.
unfoldable pub second : TopStoreyWall → ℕ
second w = first_or (λ _. buckling_length w.wall) (StoreyCheck.measures w.wall) (minimum_load w)

-- 2, the ordinary limits 3 to 12, then 13 and 21; and what is reported.
abbrev pub parts : TopStoreyWall → Parts
parts w =
    record {
      in_range = in_range w;
      limits = limits w.wall;
      measures = measures w;
      second = second w;
      load = load w.wall;
      resistance = resistance w.wall;
    }

-- The five numbers of every record: refusal, need or E, N, resistance, spare.
abbrev pub check : TopStoreyWall → CheckResult
check w = result_of (parts w)
