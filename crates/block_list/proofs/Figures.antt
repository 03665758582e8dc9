-- The inputs of the program `choose`, computed.
use mathlib.Core.List.{flat_map}
use mathlib.Core.Path.{refl}
use Rattle.text.specs.Decimal.{decimal, decimal_within}
use Rattle.text.specs.LineEnd.{in_front, lines_of}
use Rattle.text.specs.Quoted.{bytes}
use Rattle.report.specs.Text.{numbers_text}
use Rattle.walls.proofs.Computes.{computes}
use Rattle.line.specs.Grammar.{count_of}
use Rattle.line.specs.Automaton.{digit_of, next, run}
use Rattle.line.specs.Reading.{wall_of, answer, read_line}
use Rattle.selection.specs.Blocks.{in_range, bad_list}
use Rattle.selection.specs.Choice.{accepted, price_competes, better, is_best, before_best, is_checked, checked_behind}
use Rattle.block_list.specs.Reading.{read_number, read_block, read_blocks}
use Rattle.block_list.specs.Choice.{choice_of_text}
use Rattle.block_list.specs.Figures.{WorkedTexts}

pub worked_texts : WorkedTexts
unfolding flat_map computes decimal decimal_within in_front lines_of bytes numbers_text count_of digit_of next run wall_of answer read_line in_range bad_list accepted price_competes better is_best before_best is_checked checked_behind read_number read_block read_blocks choice_of_text
worked_texts = (refl, refl, refl, refl, refl, refl, refl, refl, refl)
