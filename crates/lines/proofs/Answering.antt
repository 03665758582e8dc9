-- Ended lines answered one after the other, as `answer_lines` does it. What is answered so far is whole lines (`Whole`), so its text is the
-- output for it, and the text of the next line joins that of the lines before.
use Prim.Native.Nat.{ℕ, suc, ◌+◌, ◌-◌, ◌*◌, ◌≤◌, ◌<◌}
use native.Mathlib.Nat.{zero-add, add-zero}
use native.Mathlib.Omega.{arith}
use mathlib.Core.Bool.{true, false}
use mathlib.Core.List.{List, [], ◌∷◌, ◌++◌, append-nil}
use mathlib.Core.Path.{◌≡◌, sym, ap, ◌∙◌}
use lib.ListN.{length, take, drop, length-append, length-drop}
use lib.Seq.{take-add, drop-drop, length-take-le}
use Rattle.basis.specs.declared.CheckResult.{CheckResult}
use Rattle.text.specs.LineEnd.{ended, line_length}
use Rattle.text.proofs.LineEnd.{line_unended, line_with_end, line_length_ended, Whole, whole_none, whole_line, whole_append}
use Rattle.buffer.specs.Overwrite.{overwrite}
use Rattle.buffer.proofs.Overwrite.{overwrite_none, overwrite_joins, overwrite_length, overwrite_part}
use Rattle.report.specs.Text.{result_text}
use Rattle.report.specs.Written.{Written, written}
use Rattle.report.proofs.Written.{written_count}
use Rattle.wallcheck.specs.Entry.{line_result}
use Rattle.wallcheck.proofs.Entry.{line_below, text_within_64}
use Rattle.lines.specs.Output.{line_text, output_of}
use Rattle.lines.specs.Answer.{ended_length, answered_of, room_for}
use Rattle.lines.proofs.Output.{output_none, output_line, output_whole}
use Rattle.lines.proofs.EndedLines.{ended_length_more, answered_cases}
use Rattle.lines.proofs.LongLine.{schedule_result_lem}

-- ── the length of the text ──
pub text_short : (line : List ℕ) → length (line_text line) ≤ 64
unfolding line_text
text_short line = rw (schedule_result_lem line) (text_within_64 _ (line_below line))

pub answered_fits : (most : ℕ) (bytes : List ℕ) → length (output_of (answered_of most bytes)) ≤ 64 * most
answered_fits =
    answered_cases (λ most l. length (output_of l) ≤ 64 * most) (λ most. rw output_none (omega arith))
    (λ most line rest e fits. rw (output_line line rest e, length-append) (omega (arith, text_short line)))

-- ── the state between two lines ──
-- The first `taken` bytes of the block are answered in the first `filled` bytes of the output, which has room for `left` lines more.
pub record Answering (block output₀ output : List ℕ) (left taken filled : ℕ) : Type 0 where
  pub within : taken ≤ length block
  pub bytes : taken + ended_length left (drop taken block) ≡ ended_length (room_for output₀) block
  pub whole : Whole (take taken block)
  pub text : output ≡ overwrite output₀ 0 (output_of (take taken block))
  pub size : filled ≡ length (output_of (take taken block))
  pub room : filled + 64 * left ≤ length output₀

pub answering_none : (block output : List ℕ) → Answering block output output (room_for output) 0 0
answering_none block output =
    record {
      within = omega arith;
      bytes = zero-add _;
      whole = whole_none;
      text = rw output_none (sym (overwrite_none output 0));
      size = ap length (sym output_none);
      room = omega arith;
    }

pub output_length : {block output₀ output : List ℕ} {left taken filled : ℕ} → Answering block output₀ output left taken filled → length output ≡ length output₀
output_length {block} {output₀} a = ap length a.text ∙ overwrite_length output₀ 0 _

-- No line more: there is no room for one, or none is ended.
pub answering_done :
    {block output₀ output : List ℕ} {left taken filled : ℕ} → Answering block output₀ output left taken filled → ended_length left (drop taken block) ≡ 0
    → (taken ≡ ended_length (room_for output₀) block)
    × ((filled ≡ length (output_of (answered_of (room_for output₀) block))) × (output ≡ overwrite output₀ 0 (output_of (answered_of (room_for output₀) block))))
answering_done {block} {output₀} {taken = taken} a none =
    let all : taken ≡ ended_length (room_for output₀) block = omega (arith, a.bytes) in
    (all, (a.size ∙ ap (λ (n : ℕ). length (output_of (take n block))) all, a.text ∙ ap (λ (n : ℕ). overwrite output₀ 0 (output_of (take n block))) all))

-- ── one line more ──
-- A text that is written to the part of the output from byte `at` on.
written_part :
    (result : CheckResult) (output : List ℕ) (at : ℕ) {part : List ℕ} {count : ℕ} → at + length (result_text result) ≤ length output
    → record { buffer = part; count = count } ≡ written result (take (length output - at) (drop at output))
    → (take at output ++ (part ++ drop (length output - at) (drop at output)) ≡ overwrite output at (result_text result)) × (count ≡ length (result_text result))
written_part result output at fits wrote =
    let room : length (take (length output - at) (drop at output)) ≡ length output - at = length-take-le _ _ (rw length-drop (omega arith)) in (
      rw (ap (λ (w : Written). w.buffer) wrote, overwrite_part output at (length output - at) 0 (result_text result) (omega arith) (omega arith), add-zero),
      ap (λ (w : Written). w.count) wrote ∙ written_count result (take (length output - at) (drop at output)) (omega arith),
    )

-- The line begins at `taken` and ends at `end`; behind it there is room for `rest` lines.
module _
    {block output₀ output : List ℕ} {left rest taken filled : ℕ} (end : ℕ) (a : Answering block output₀ output left taken filled) (one : left ≡ suc rest)
    (at : end ≡ taken + line_length (drop taken block)) (e : ended (drop taken block) ≡ true) where
  pub line_within : end < length block
  line_within = omega (arith, line_length_ended (drop taken block) e, length-drop taken block, a.within)

  line_taken : take (end + 1) block ≡ take taken block ++ (take (end - taken) (drop taken block) ++ 10 ∷ [])
  line_taken =
      let next : end + 1 ≡ taken + (line_length (drop taken block) + 1) = omega arith in
      let here : end - taken ≡ line_length (drop taken block) = omega arith in
      rw (next, here, take-add, line_with_end (drop taken block) e)

  line_is_unended : ended (take (end - taken) (drop taken block)) ≡ false
  line_is_unended = let here : end - taken ≡ line_length (drop taken block) = omega arith in rw here (line_unended (drop taken block) e)

  line_output : output_of (take (end + 1) block) ≡ output_of (take taken block) ++ line_text (take (end - taken) (drop taken block))
  line_output = rw (line_taken, output_whole _ _ a.whole, output_line _ [] line_is_unended, output_none, append-nil)

  answering_line :
      Answering block output₀ (overwrite output filled (line_text (take (end - taken) (drop taken block)))) rest (end + 1)
      (filled + length (line_text (take (end - taken) (drop taken block))))
  answering_line =
      let line = take (end - taken) (drop taken block) in
      let next : taken + (line_length (drop taken block) + 1) ≡ end + 1 = omega arith in
      let behind : drop (line_length (drop taken block) + 1) (drop taken block) ≡ drop (end + 1) block = rw (drop-drop, next) in
      let fits : 0 + (length (output_of (take taken block)) + length (line_text line)) ≤ length output₀ = omega (arith, a.room, a.size, text_short line) in
      record {
        within = omega (arith, line_within);
        bytes =
            omega (
              arith,
              a.bytes,
              ap (λ (n : ℕ). ended_length n (drop taken block)) one,
              ended_length_more rest (drop taken block) e,
              ap (ended_length rest) behind,
            );
        whole = rw line_taken (whole_append _ _ a.whole (whole_line line [] line_is_unended whole_none));
        text = rw (line_output, a.text, a.size, ← overwrite_joins output₀ 0 (output_of (take taken block)) (line_text line) fits, zero-add);
        size = rw (line_output, length-append) (omega (arith, a.size));
        room = omega (arith, a.room, text_short line);
      }

  -- The same with what `report::write` has done to the part of the output that is not filled yet.
  pub answering_write :
      (result : CheckResult) {part : List ℕ} {count : ℕ} → result ≡ line_result (take (end - taken) (drop taken block))
      → record { buffer = part; count = count } ≡ written result (take (length output - filled) (drop filled output))
      → Answering block output₀ (take filled output ++ (part ++ drop (length output - filled) (drop filled output))) rest (end + 1) (filled + count)
  unfolding line_text
  answering_write result is wrote =
      let line = take (end - taken) (drop taken block) in
      let text : result_text result ≡ line_text line = ap result_text (is ∙ sym (schedule_result_lem line)) in
      let wrote = written_part result output filled (omega (arith, a.room, output_length a, ap length text, text_short line)) wrote in
      rw (wrote.0, wrote.1, text) answering_line
