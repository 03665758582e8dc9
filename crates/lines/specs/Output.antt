-- Document 01: "The schedule program reads lines ended by byte 10 from standard input and prints one result line each, no header.
-- A line over 200 bytes is refusal 1; nonempty input behind the last byte 10 counts as a line."
use Rattle.std.specs.Prelude.{ℕ, cond, ltb, length}
use mathlib.Core.List.{List, flat_map}
use Rattle.basis.specs.declared.CheckResult.{CheckResult}
use Rattle.basis.specs.Result.{refused_with}
use Rattle.text.specs.LineEnd.{lines_of}
use Rattle.report.specs.Text.{result_text}
use Rattle.wallcheck.specs.Entry.{line_result}

-- "A line over 200 bytes is refusal 1".
unfoldable pub schedule_result : List ℕ → CheckResult
schedule_result line = cond (ltb 200 (length line)) (refused_with 1) (line_result line)

-- ".. one result line each".
unfoldable pub line_text : List ℕ → List ℕ
line_text line = result_text (schedule_result line)

-- What the program prints for an input.
unfoldable pub output_of : List ℕ → List ℕ
output_of input = flat_map line_text (lines_of input)
