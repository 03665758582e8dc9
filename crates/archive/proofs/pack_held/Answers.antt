-- `archive::pack_held` meets its contract: its calls give what the laws of `Held` ask for.
use Rattle.std.proofs.Common.{arith, length-take, ◌≤◌}
use Rattle.archive.proofs.Held.{taken_within, held_is}
use Rattle.archive.proofs.pack_held.Goals as goal
use Rattle.archive.proofs.pack_held.Goals.{After-pack-progress}

taken : (c : After-pack-progress) → c.pack-progress.result.taken ≤ c.min-held.result
taken c = taken_within c.args.complete c.args.input.now c.args.output.now c.args.held c.min-held.ensures c.pack-progress.ensures

pub slice_bounds-count_line_ends-end : goal.slice_bounds-count_line_ends-end
slice_bounds-count_line_ends-end c = omega (arith, taken (goal.at.slice_bounds-count_line_ends-end c).After-pack-progress, c.min-held.ensures)

pub slice_bounds-count_line_ends-end-2 : goal.slice_bounds-count_line_ends-end-2
slice_bounds-count_line_ends-end-2 c =
    omega (
      arith,
      taken (goal.at.slice_bounds-count_line_ends-end-2 c).After-pack-progress,
      c.min-held.ensures,
      length-take c.pack-progress.result.taken c.args.input.now,
    )

pub copy_within-requires-clause-start_le_end : goal.copy_within-requires-clause-start_le_end
copy_within-requires-clause-start_le_end c = taken (goal.at.copy_within-requires-clause-start_le_end c).After-pack-progress

pub returns : goal.returns
returns c =
    held_is c.args.complete c.args.input.now c.args.output.now c.args.held c.min-held.ensures c.pack-progress.ensures c.count_line_ends-lines.ensures
    c.copy_within.ensures.after
