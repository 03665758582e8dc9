-- `CellarWall::reported` meets its contract: where the limits give no error, none of them applies.
use mathlib.Core.Path.{sym}
use Rattle.basis.proofs.FirstRefusal.{none_without_err}
use Rattle.cellar.specs.Limits.{limits}
use Rattle.cellar.proofs.CellarWall.reported.Goals as goal

pub invariant_of-reported : goal.invariant_of-reported
invariant_of-reported c = record { within_limits = none_without_err (limits c.args.self) _ _ (sym c.in_ok-limits.ensures) }
