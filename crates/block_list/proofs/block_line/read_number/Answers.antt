-- `block_list::block_line::read_number` meets its contract.
use Rattle.std.proofs.Common.{◌≡◌, ◌∙◌, ℕ, Some, sym, ap}
use mathlib.Core.Bool.{true≢false, not}
use borrow.Author.Tests.{not-false}
use Rattle.std.specs.Cmp.Lexicographic.{same_text}
use Rattle.text.specs.Decimal.{decimal}
use Rattle.text.proofs.Decimal.{decimal_printed}
use Rattle.block_list.proofs.Number.{same_bytes, read_value, none_over_nine, none_where_other}
use Rattle.block_list.proofs.block_line.read_number.Goals as goal
use Rattle.block_list.proofs.block_line.read_number.Goals.{After-as_bytes}

-- The bytes that are compared are the digits of the value.
written : (c : After-as_bytes) → c.as_bytes.result.now ≡ decimal c.value_of-value.result
written c = c.as_bytes.ensures.value ∙ c.format.ensures.text ∙ decimal_printed c.value_of-value.result c.value_of-value.type_inv

pub returns-then-digits-gt-MOST_DIGITS : goal.returns-then-digits-gt-MOST_DIGITS
returns-then-digits-gt-MOST_DIGITS c = sym (none_over_nine c.args.digits.now c.if-digits-gt-MOST_DIGITS.true)

pub returns-then-ne : goal.returns-then-ne
returns-then-ne c =
    sym (none_where_other c.args.digits.now
    (λ same. true≢false (c.if-ne.ensures ∙ ap not (same_bytes _ _ (written (goal.at.returns-then-ne c).After-as_bytes ∙ ap decimal c.value_of-value.ensures ∙ sym same)))))

pub returns : goal.returns
returns c =
    let value = c.value_of-value.ensures in
    let equal = same_text c.as_bytes.result.now c.args.digits.now (sym (not-false _ (sym c.if-ne.ensures))) in
    let digits = sym equal ∙ written (goal.at.returns c).After-as_bytes ∙ ap decimal value in
    ap (λ (n : ℕ). Some n) value ∙ sym (read_value c.args.digits.now c.if-digits-gt-MOST_DIGITS.false digits)
