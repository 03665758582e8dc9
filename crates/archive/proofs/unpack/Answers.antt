-- `archive::unpack` meets its contract: each turn reads the block that `rest` begins with.
use Rattle.std.proofs.Common.{arith}
use Rattle.archive.proofs.Unpacking.{unread_all, unread_done, unread_next, refused_yields_none, full_yields_none}
use Rattle.archive.proofs.unpack.Goals as goal

pub loop-blocks-init : goal.loop-blocks-init
loop-blocks-init c = unread_all c.args.archive.now c.args.out.now

pub loop-blocks-preserved : goal.loop-blocks-preserved
loop-blocks-preserved c =
    (unread_next c.loop-blocks.invariant c.loop-blocks-test.true c.min.ensures c.split_at.ensures.front c.split_at.ensures.back c.in-Ok.ensures c.copy.ensures).1

pub overflow_add-written : goal.overflow_add-written
overflow_add-written c =
    let next = unread_next c.loop-blocks.invariant c.loop-blocks-test.true c.min.ensures c.split_at.ensures.front c.split_at.ensures.back c.in-Ok.ensures c.copy.ensures in
    omega (arith, next.0, c.loop-blocks.auto.out)

pub returns-after-loop-blocks : goal.returns-after-loop-blocks
returns-after-loop-blocks c = unread_done c.loop-blocks.invariant (full_yields_none c.loop-blocks.invariant c.loop-blocks-test.false)

pub returns-in_default : goal.returns-in_default
returns-in_default c =
    unread_done c.loop-blocks.invariant (refused_yields_none _ c.loop-blocks.rest.now c.min.ensures c.split_at.ensures.front c.in_default.ensures)
