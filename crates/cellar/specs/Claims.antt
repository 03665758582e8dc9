-- Demand 2 for a cellar wall, as claims about the definitions; their proofs stand in proofs/Claims.antt, that about 16 in proofs/Limits.antt.
-- What holds of any check stands in basis, what holds of both kinds in walls.
use Rattle.std.specs.Prelude.{◌*◌, ◌≤◌, ◌<◌, true, ◌↔◌, ◌≡◌}
use Rattle.basis.specs.Fraction.{LeastAtOrAbove, LessThanOneBelow}
use Rattle.basis.specs.Refusal.{NoneApplies}
use Rattle.basis.specs.Result.{Accepted}
use Rattle.cellar.specs.declared.CellarWall.{CellarWall}
use Rattle.cellar.specs.Range.{in_range}
use Rattle.cellar.specs.RequiredLoad.{exact_required_load, required_load}
use Rattle.cellar.specs.Resistance.{exact_resistance, resistance}
use Rattle.cellar.specs.Load.{load}
use Rattle.cellar.specs.Limits.{fill_too_high, limits}
use Rattle.cellar.specs.Check.{check}

-- The need is the exact required load rounded up.
abbrev pub RequiredLoadRoundedUp : Type 0
RequiredLoadRoundedUp = (w : CellarWall) → in_range w ≡ true → LeastAtOrAbove (required_load w) (exact_required_load w)

-- "That resistance never exceeds the exact fraction (0 where negative) and is less than 1 N/m below it."
abbrev pub ResistanceRoundedDown : Type 0
ResistanceRoundedDown = (w : CellarWall) → LessThanOneBelow (resistance w) (exact_resistance w)

-- Document 02, #105: "e > 1.15h, compared without rounding". In whole numbers: 16 applies exactly where 20e > 23h.
abbrev pub FillTooHighExactly : Type 0
FillTooHighExactly = (w : CellarWall) → (fill_too_high w ≡ true) ↔ (23 * w.height < 20 * w.fill)

-- "Accepted exactly when every limit holds and the reported load is at most the reported resistance (cellar: G also reaches the required load)."
abbrev pub AcceptedExactly : Type 0
AcceptedExactly =
    (w : CellarWall) →
    Accepted (check w) ↔ ((in_range w ≡ true) × NoneApplies (limits w) × (load w ≤ resistance w) × (required_load w ≤ w.dead))
