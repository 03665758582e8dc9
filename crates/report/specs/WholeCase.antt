-- The five lines that document 01's whole case prints, the first two with N and spare of document 02, #103.
use Rattle.std.specs.Prelude.{ℕ, List, [], ◌∷◌, map, ◌≡◌, ℤ, pos, negsuc}
use Prim.Native.String.{String}
use Rattle.basis.specs.declared.CheckResult.{CheckResult}
use Rattle.text.specs.Quoted.{bytes}
use Rattle.report.specs.Text.{result_text}

abbrev result : ℕ → ℕ → ℕ → ℕ → ℤ → CheckResult
result refusal second load resistance spare = record { refusal = refusal; second = second; load = load; resistance = resistance; spare = spare }

-- -52575 is `negsuc 52574`.
abbrev pub whole_case : List (CheckResult × String)
whole_case =
    (result 0 19688 210000 352425 (pos 142425), "0 19688 210000 352425 142425\n")
    ∷ (result 0 19688 210000 297500 (pos 87500), "0 19688 210000 297500 87500\n")
    ∷ (result 13 19688 405000 352425 (negsuc 52574), "13 19688 405000 352425 -52575\n")
    ∷ (result 0 27398 69000 344722 (pos 275722), "0 27398 69000 344722 275722\n")
    ∷ (result 1 0 0 0 (pos 0), "1 0 0 0 0\n")
    ∷ []

abbrev pub WholeCasePrints : Type 0
WholeCasePrints = map (λ line. result_text line.0) whole_case ≡ map (λ line. bytes line.1) whole_case
