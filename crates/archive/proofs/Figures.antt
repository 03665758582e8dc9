-- The figures compute.
use mathlib.Core.Path.{refl}
use Rattle.text.specs.LineEnd.{in_front, lines_of}
use Rattle.text.specs.Quoted.{bytes}
use Rattle.archive.specs.Block.{two_bytes, number_at, block_of, used, sum_of_others, used_part, remainder, whole_lines, valid, read_block}
use Rattle.archive.specs.Packing.{ended_lines, storable, packed_behind, packed, contents, archive_of}
use Rattle.archive.specs.Figures.{ZeroBlock, EmptyText, FullBlock, LineBounds, FilledBlock}

pub zero_block : ZeroBlock
unfolding read_block valid used sum_of_others used_part remainder whole_lines number_at
zero_block = refl

pub empty_text : EmptyText
unfolding storable whole_lines ended_lines lines_of archive_of contents packed
empty_text = (refl, refl)

pub full_block : FullBlock
unfolding read_block valid used sum_of_others used_part remainder whole_lines number_at block_of two_bytes
full_block = (refl, (refl, refl))

pub line_bounds : LineBounds
unfolding storable whole_lines ended_lines lines_of in_front bytes
line_bounds = (refl, (refl, (refl, refl)))

pub filled_block : FilledBlock
unfolding contents packed packed_behind ended_lines lines_of in_front
filled_block = refl
