-- `WallInRange::checked` meets its contract: a refusal up to 11 is the check's.
use Rattle.std.proofs.Common.{arith}
use Rattle.std.proofs.lemmas.Grind.{common_steps}
use Rattle.storey.proofs.Check.{check_refused}
use Rattle.storey.proofs.in_range.WallInRange.checked.Goals as goal

pub returns-in_err-buckling : goal.returns-in_err-buckling
returns-in_err-buckling c = grind (arith, common_steps, check_refused)
