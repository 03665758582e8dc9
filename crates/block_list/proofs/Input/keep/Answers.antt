-- `Input::keep` meets its contract.
use Rattle.std.proofs.Common.{arith}
use Rattle.block_list.proofs.Keeping.{end_held, list_within, kept_is}
use Rattle.block_list.proofs.Input.keep.Goals as goal

pub overflow_sub-held : goal.overflow_sub-held
overflow_sub-held c = end_held c.args.self.now.buffer.now c.args.self.now.held c.line_end-end.result c.line_end-end.ensures

pub copy_within-requires-clause-in_bounds : goal.copy_within-requires-clause-in_bounds
copy_within-requires-clause-in_bounds c =
    list_within c.args.self.now.buffer.now c.args.self.now.held _ _ _ c.args.self.now.within c.line_end-end.ensures c.min-line.ensures c.min-list.ensures

pub copy_within-requires-clause-dest_in_bounds : goal.copy_within-requires-clause-dest_in_bounds
copy_within-requires-clause-dest_in_bounds c =
    let bound = list_within c.args.self.now.buffer.now c.args.self.now.held _ _ _ c.args.self.now.within c.line_end-end.ensures c.min-line.ensures c.min-list.ensures in
    omega (arith, bound, c.min-line.ensures)

pub invariant_of-self : goal.invariant_of-self
invariant_of-self c =
    let bound = list_within c.args.self.now.buffer.now c.args.self.now.held _ _ _ c.args.self.now.within c.line_end-end.ensures c.min-line.ensures c.min-list.ensures in
    record { within = omega (arith, bound, c.min-line.ensures, c.copy_within.ensures.len) }

pub returns : goal.returns
returns c =
    kept_is c.args.self.now.buffer.now c.args.self.now.held _ _ _ c.args.self.now.within c.line_end-end.ensures c.min-line.ensures c.min-list.ensures c.copy_within.ensures.after
