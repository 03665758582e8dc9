-- `pack::Input::pack` is safe: no more is taken than is held, and the blocks lie within the output.
use Rattle.std.proofs.Common.{arith, ◌≤◌}
use Rattle.archive.proofs.Held.{taken_at_most, blocks_at_most}
use Rattle.pack.proofs.Input.pack.Goals as goal
use Rattle.pack.proofs.Input.pack.Goals.{After-pack_held-packed}

taken : (c : After-pack_held-packed) → c.pack_held-packed.result.taken ≤ c.args.self.now.held
taken c = taken_at_most c.args.complete c.args.self.now.buffer.now c.args.output.now c.args.self.now.held c.pack_held-packed.ensures

pub overflow_sub-self : goal.overflow_sub-self
overflow_sub-self c = taken (goal.at.overflow_sub-self c).After-pack_held-packed

pub returns-clause-taken : goal.returns-clause-taken
returns-clause-taken c = omega (arith, taken (goal.at.returns-clause-taken c).After-pack_held-packed)

pub returns-clause-blocks : goal.returns-clause-blocks
returns-clause-blocks c =
    omega (
      arith,
      blocks_at_most c.args.complete c.args.self.now.buffer.now c.args.output.now c.args.self.now.held c.pack_held-packed.ensures,
      c.told-output,
    )
