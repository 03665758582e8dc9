-- `selection::with_strength` meets its contract: the record with its F changed, and no other number.
use Rattle.std.proofs.Common.{refl}
use Rattle.selection.proofs.with_strength.Goals as goal

pub returns-in-Storey : goal.returns-in-Storey
returns-in-Storey c = rw c.in-Storey.is refl

pub returns-in-Cellar : goal.returns-in-Cellar
returns-in-Cellar c = rw c.in-Cellar.is refl
