-- `block_list::read_blocks` meets its contract: each turn reads the line that begins at `taken`.
use Rattle.std.proofs.Common.{◌≡◌, ◌∙◌, ◌+◌, ◌<◌, ℕ, List, ◌++◌, [], ◌∷◌, take, drop, set, length, ap, sym, arith, add-one, length-append, length-take, length-set}
use Rattle.std.proofs.Math.Seq.{take-suc-set}
use Rattle.text.specs.LineEnd.{lines_of}
use Rattle.selection.specs.declared.Block.{Block}
use Rattle.block_list.specs.Reading.{read_blocks}
use Rattle.block_list.proofs.Lines.{behind, behind_none, line_within, none_read, block_read, behind_longer, all_read}
use Rattle.block_list.proofs.read_blocks.Goals as goal

one_more : (blocks : List Block) (i : ℕ) (block : Block) → i < length blocks → take (i + 1) (set blocks i block) ≡ take i blocks ++ block ∷ []
one_more blocks i block within = rw add-one (take-suc-set blocks i block within)

pub loop-taken-init : goal.loop-taken-init
loop-taken-init c = record { few = omega arith; size = c.told-blocks; read = behind_none (read_blocks (lines_of c.args.lines.now)) }

pub slice_bounds-read_block-end : goal.slice_bounds-read_block-end
slice_bounds-read_block-end c = search (line_within _ _ _ c.loop-taken-test.true c.line_end-end.ensures)

pub returns-in_err-block : goal.returns-in_err-block
returns-in_err-block c =
    rw c.from_residual.ensures
    (λ found is. absurd (none_read _ _ _ c.loop-taken-test.true c.line_end-end.ensures _ c.loop-taken.invariant.read c.in_err-block.ensures found is))

pub returns-then-count-eq-MOST_BLOCKS : goal.returns-then-count-eq-MOST_BLOCKS
returns-then-count-eq-MOST_BLOCKS c =
    λ found is.
    let read = block_read _ _ _ c.loop-taken-test.true c.line_end-end.ensures _ c.loop-taken.invariant.read c.in_ok-block.block c.in_ok-block.ensures in
    omega (
      arith,
      behind_longer _ _ found (sym read ∙ is),
      length-append (take c.loop-taken.count c.loop-taken.blocks) (c.in_ok-block.block ∷ []),
      length-take c.loop-taken.count c.loop-taken.blocks,
      c.loop-taken.invariant.size,
      c.if-count-eq-MOST_BLOCKS.true,
    )

pub loop-taken-preserved : goal.loop-taken-preserved
loop-taken-preserved c =
    let fewer : c.loop-taken.count < 64 = omega (arith, c.loop-taken.invariant.few, c.if-count-eq-MOST_BLOCKS.false) in
    record {
      few = omega (arith, fewer);
      size = length-set _ _ _ ∙ c.loop-taken.invariant.size;
      read =
          block_read _ _ _ c.loop-taken-test.true c.line_end-end.ensures _ c.loop-taken.invariant.read c.in_ok-block.block c.in_ok-block.ensures
          ∙ ap (λ (found : List Block). behind found (read_blocks (lines_of (drop (c.line_end-end.result + 1) c.args.lines.now))))
          (sym (one_more c.loop-taken.blocks c.loop-taken.count c.in_ok-block.block (omega (arith, fewer, c.loop-taken.invariant.size))));
    }

pub returns : goal.returns
returns c = (c.loop-taken.invariant.few, all_read _ _ _ c.loop-taken-test.false c.loop-taken.invariant.read)
