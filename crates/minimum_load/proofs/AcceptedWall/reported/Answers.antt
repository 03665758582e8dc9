-- The load and the resistance of an ordinary result fit 32 bits.
use native.Mathlib.Omega.{arith}
use Rattle.minimum_load.proofs.Check.{load_fits, resistance_fits}
use Rattle.minimum_load.proofs.AcceptedWall.reported.Goals as goal

pub overflow_cast-load : goal.overflow_cast-load
overflow_cast-load c = omega (arith, load_fits c.args.self.top c.args.self.ordinary c.args.self.ordinary_result)

pub overflow_cast-resistance : goal.overflow_cast-resistance
overflow_cast-resistance c = omega (arith, resistance_fits c.args.self.top c.args.self.ordinary c.args.self.ordinary_result)
