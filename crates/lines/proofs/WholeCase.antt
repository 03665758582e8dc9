-- The whole case, computed.
use mathlib.Core.List.{flat_map}
use mathlib.Core.Path.{refl}
use Rattle.walls.proofs.Computes.{computes}
use Rattle.line.specs.Grammar.{count_of}
use Rattle.line.specs.Automaton.{digit_of, next, run}
use Rattle.line.specs.Reading.{wall_of, answer, read_line}
use Rattle.text.specs.Decimal.{decimal, decimal_within}
use Rattle.report.specs.Text.{signed, result_text}
use Rattle.text.specs.Quoted.{bytes}
use Rattle.text.specs.LineEnd.{in_front, lines_of}
use Rattle.wallcheck.specs.Entry.{line_result}
use Rattle.lines.specs.Output.{schedule_result, line_text, output_of}
use Rattle.lines.specs.WholeCase.{WholeCase}

pub whole_case_lem : WholeCase
unfolding output_of line_text schedule_result lines_of in_front flat_map line_result read_line run next answer digit_of count_of wall_of computes result_text signed decimal decimal_within bytes
whole_case_lem = refl
