-- Demand 2 for a record of either kind: "Buckling length, load, resistance, required cellar load and verdict are those of document 01."
use Rattle.std.specs.Prelude.{ℕ, ◌≤◌, true, map, ◌↔◌, ◌≡◌}
use Rattle.basis.specs.declared.CheckResult.{CheckResult}
use Rattle.basis.specs.Fraction.{Fraction, whole, LeastAtOrAbove, LessThanOneBelow}
use Rattle.basis.specs.Load.{LoadRounded}
use Rattle.basis.specs.Range.{Range, AllBelow}
use Rattle.basis.specs.Refusal.{NoneApplies}
use Rattle.basis.specs.Result.{Accepted, Below, SpareSigned}
use Rattle.storey.specs.BucklingLength.{exact_length}
use Rattle.storey.specs.Load as StoreyLoad
use Rattle.storey.specs.Resistance as StoreyResistance
use Rattle.cellar.specs.RequiredLoad.{exact_required_load}
use Rattle.cellar.specs.Load as CellarLoad
use Rattle.cellar.specs.Resistance as CellarResistance
use Rattle.walls.specs.declared.Wall.{Wall}
use Rattle.walls.specs.declared.Wall.TheVariants.{Storey, Cellar}
use Rattle.walls.specs.Check.{numbers_of, ranges_of, parts, in_range, check}

-- The exact values behind the reported numbers.

-- "E or for a cellar the need"
abbrev pub exact_second : Wall → Fraction
exact_second (Storey w) = exact_length w
exact_second (Cellar w) = exact_required_load w

abbrev pub exact_load : Wall → Fraction
exact_load (Storey w) = StoreyLoad.exact_load w
exact_load (Cellar w) = CellarLoad.exact_load w

-- With the reported second number: E enters the resistance of a storey wall.
abbrev pub exact_resistance : Wall → (second : ℕ) → Fraction
exact_resistance (Storey w) E = StoreyResistance.exact_resistance w (whole E)
exact_resistance (Cellar w) need = CellarResistance.exact_resistance w

-- "the reported load is at most the reported resistance (cellar: G also reaches the required load)"
abbrev pub Covered : Wall → CheckResult → Type 0
Covered (Storey w) result = result.load ≤ result.resistance
Covered (Cellar w) result = (result.load ≤ result.resistance) × (result.second ≤ w.dead)

-- The five numbers are document 01's, and the verdict is the comparison of those reported.
pub record Numbers (wall : Wall) (result : CheckResult) : Type 0 where
  pub second_rounded_up : LeastAtOrAbove result.second (exact_second wall)
  pub load_rounded : LoadRounded result.load (exact_load wall)
  pub resistance_rounded_down : LessThanOneBelow result.resistance (exact_resistance wall result.second)
  pub verdict : Accepted result ↔ Covered wall result
  pub spare_signed : SpareSigned result

-- Within the ranges and every limit.
abbrev pub NumbersReported : Type 0
NumbersReported = (wall : Wall) → in_range wall ≡ true → NoneApplies (parts wall).limits → Numbers wall (check wall)

-- Out of range or beyond a limit it is refused.
abbrev pub AcceptedWithinLimits : Type 0
AcceptedWithinLimits = (wall : Wall) → Accepted (check wall) → (in_range wall ≡ true) × NoneApplies (parts wall).limits

-- Refusal 1 is about a line: no record has it.
abbrev pub NeverRefusal1 : Type 0
NeverRefusal1 = (wall : Wall) → (check wall).refusal ≡ 1 → ⊥

-- Every reported number is below 10^9.
abbrev pub ResultIsBounded : Type 0
ResultIsBounded = (wall : Wall) → Below 1000000000 (check wall)

-- Every number of a record has a range, in the record's order.
abbrev pub EveryNumberHasRange : Type 0
EveryNumberHasRange = (wall : Wall) → map (λ (r : Range). r.number) (ranges_of wall) ≡ numbers_of wall

-- Every number of a record in range is below 10^8, so it has at most 8 digits and is held by an f64.
abbrev pub NumbersAreSmall : Type 0
NumbersAreSmall = (wall : Wall) → in_range wall ≡ true → AllBelow 100000000 (numbers_of wall)
