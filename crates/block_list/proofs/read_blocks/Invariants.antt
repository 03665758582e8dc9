-- The loop of `block_list::read_blocks`: the blocks of the lines so far stand first.
use Rattle.std.proofs.Common.{◌≡◌, ◌≤◌, ◌-◌, take, drop, length}
use Rattle.text.specs.LineEnd.{lines_of}
use Rattle.block_list.specs.Reading.{read_blocks}
use Rattle.block_list.proofs.Lines.{behind}
use Rattle.block_list.proofs.read_blocks.Given as goal

abbrev pub invariant-loop-taken : goal.invariant-loop-taken
invariant-loop-taken l =
    record {
      few : l.count ≤ 64;
      size : length l.blocks ≡ 64;
      read : read_blocks (lines_of l.lines) ≡ behind (take l.count l.blocks) (read_blocks (lines_of (drop l.taken l.lines)));
    }

abbrev pub decreases-loop-taken : goal.decreases-loop-taken
decreases-loop-taken l = length l.lines - l.taken
