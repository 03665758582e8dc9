-- Document 01, "Results and refusals", for a `C` record: the parts of its check, and the five numbers of every record.
use Rattle.std.specs.Prelude.{ℕ, Bool, List, [], ◌∷◌, ltb}
use Rattle.basis.specs.Check.{Parts, result_of}
use Rattle.basis.specs.declared.CheckResult.{CheckResult}
use Rattle.cellar.specs.declared.CellarWall.{CellarWall}
use Rattle.cellar.specs.Range.{in_range}
use Rattle.cellar.specs.RequiredLoad.{required_load}
use Rattle.cellar.specs.Resistance.{resistance}
use Rattle.cellar.specs.Load.{load}
use Rattle.cellar.specs.Limits.{limits}

-- 18: "N > resistance"; 19: "G < need"
abbrev pub measures : CellarWall → List (ℕ × Bool)
measures w = (18, ltb (resistance w) (load w)) ∷ (19, ltb w.dead (required_load w)) ∷ []

-- "The first that applies is given": 2, the limits 14 to 17 and 11, then 18 and 19; and the need, N and resistance.
abbrev pub parts : CellarWall → Parts
parts w =
    record {
      in_range = in_range w;
      limits = limits w;
      measures = measures w;
      second = required_load w;
      load = load w;
      resistance = resistance w;
    }

-- The five numbers of every record: refusal, need, N, resistance, spare.
abbrev pub check : CellarWall → CheckResult
check w = result_of (parts w)
