-- The five lines of the whole case, computed.
use mathlib.Core.Path.{refl}
use Rattle.text.specs.Decimal.{decimal, decimal_within}
use Rattle.text.specs.Quoted.{bytes}
use Rattle.report.specs.Text.{signed, result_text}
use Rattle.report.specs.WholeCase.{WholeCasePrints}

pub whole_case_prints : WholeCasePrints
unfolding result_text signed decimal decimal_within bytes
whole_case_prints = refl
