-- `unpack::unpack_blocks` is safe: the lines lie within the output, and no more blocks are unpacked than there are.
use Rattle.std.proofs.Common.{arith}
use Rattle.archive.proofs.Unpacking.{blocks_room, blocks_within, written_at_most}
use Rattle.unpack.proofs.unpack_blocks.Goals as goal

pub shared_ref_as_front-write_all : goal.shared_ref_as_front-write_all
shared_ref_as_front-write_all g c =
    omega (arith, written_at_most c.loop-rest.rest.now c.loop-rest.output c.unpack-unpacked.ensures, c.unpack-unpacked.auto.out)

pub overflow_mul-taken : goal.overflow_mul-taken
overflow_mul-taken g c = omega (arith, blocks_room c.loop-rest.rest.now c.loop-rest.output c.unpack-unpacked.ensures, c.unpack-unpacked.auto.out)

pub split_at-requires : goal.split_at-requires
split_at-requires g c = omega (arith, blocks_within c.loop-rest.rest.now c.loop-rest.output c.unpack-unpacked.ensures)
