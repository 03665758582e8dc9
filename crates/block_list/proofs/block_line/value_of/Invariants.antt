-- The loop of `block_list::block_line::value_of`: the value of the digits so far, and a bound, since any byte counts as a digit there.
use Rattle.std.proofs.Common.{◌≡◌, ◌≤◌, ◌+◌, ◌*◌, take}
use Prim.Native.Nat.{◌^◌}
use Rattle.block_list.specs.Reading.{value_of}
use Rattle.block_list.proofs.block_line.value_of.Given as goal

abbrev pub invariant-loop-digit : goal.invariant-loop-digit
invariant-loop-digit l = record { value : l.value ≡ value_of (take l.digit-index l.fn.digits); small : l.value + 23 ≤ 23 * 10 ^ l.digit-index }
