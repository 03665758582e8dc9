-- `lines::answer_last` meets its contract: nothing for an empty line, else the line's result, written.
use Prim.Native.Nat.{ℕ}
use native.Mathlib.Omega.{arith}
use mathlib.Core.List.{List, [], ◌∷◌}
use mathlib.Core.Path.{◌≡◌, refl, sym, ap, ◌∙◌}
use lib.ListN.{length}
use Rattle.basis.specs.declared.CheckResult.{CheckResult}
use Rattle.report.specs.Written.{written}
use Rattle.lines.specs.Output.{schedule_result}
use Rattle.lines.specs.Answer.{answered_last}
use Rattle.lines.proofs.LongLine.{schedule_result_lem}
use Rattle.lines.proofs.answer_last.Goals as goal

last_none : (line output : List ℕ) → length line ≡ 0 → record { buffer = output; count = 0 } ≡ answered_last line output
unfolding answered_last
last_none [] output none = refl
last_none (byte ∷ line) output none = absurd (omega arith)

last_line : (line output : List ℕ) → (length line ≡ 0 → ⊥) → written (schedule_result line) output ≡ answered_last line output
unfolding answered_last
last_line [] output some = absurd (some refl)
last_line (byte ∷ line) output some = refl

pub returns-then-line-eq0 : goal.returns-then-line-eq0
returns-then-line-eq0 c = last_none _ _ c.if-line-eq0.true

pub returns : goal.returns
returns c =
    let result = c.check.ensures ∙ sym (schedule_result_lem c.args.line.now) in
    c.write.ensures ∙ ap (λ (r : CheckResult). written r c.args.output.now) result ∙ last_line _ _ c.if-line-eq0.false
