-- Document 01, "Results and refusals", for an `S` record: the parts of its check, and the five numbers of every record.
use Rattle.std.specs.Prelude.{ℕ, Bool, true, not, List, [], ◌∷◌, ◌≡◌, ltb, Result, Ok, Err}
use Rattle.basis.specs.Refusal.{first_or, NoneApplies}
use Rattle.basis.specs.Result.{refused_with}
use Rattle.basis.specs.Check.{Parts, result_of}
use Rattle.basis.specs.declared.CheckResult.{CheckResult}
use Rattle.storey.specs.declared.StoreyWall.{StoreyWall}
use Rattle.storey.specs.declared.Assessment.{Assessment}
use Rattle.storey.specs.Range.{in_range}
use Rattle.storey.specs.BucklingLength.{buckling_length}
use Rattle.storey.specs.Resistance.{reduction_fifths, resistance}
use Rattle.storey.specs.Load.{load}
use Rattle.storey.specs.Limits.{limits_up_to_11, limits}

-- 13: "N > resistance"
abbrev pub measures : StoreyWall → List (ℕ × Bool)
measures w = (13, ltb (resistance w) (load w)) ∷ []

-- "The first that applies is given": 2, the limits 3 to 12, then 13; and E, N and resistance.
abbrev pub parts : StoreyWall → Parts
parts w =
    record {
      in_range = in_range w;
      limits = limits w;
      measures = measures w;
      second = buckling_length w;
      load = load w;
      resistance = resistance w;
    }

-- The five numbers of every record: refusal, E, N, resistance, spare.
abbrev pub check : StoreyWall → CheckResult
check w = result_of (parts w)

-- What every check of a storey wall begins with: the refusal up to 11 that applies or, if none does, E, N and the reduction in fifths.
unfoldable pub assessment : StoreyWall → Result Assessment ℕ
assessment w =
    first_or Err ((2, not (in_range w)) ∷ limits_up_to_11 w) (Ok (record { buckling = buckling_length w; load = load w; fifths = reduction_fifths w }))

-- What an assessment stands for in a result: its refusal with four zeros, or whatever the check asks next.
abbrev pub behind : (next : CheckResult) → Result Assessment ℕ → CheckResult
behind next (Err n) = refused_with n
behind next (Ok assessed) = next

-- What a record has that no refusal up to 11 applies to.
pub record Assessed (w : StoreyWall) (E N fifths : ℕ) : Type 0 where
  pub in_range : in_range w ≡ true
  pub within_limits : NoneApplies (limits_up_to_11 w)
  pub buckling_length : E ≡ buckling_length w
  pub load : N ≡ load w
  pub reduction : fifths ≡ reduction_fifths w
