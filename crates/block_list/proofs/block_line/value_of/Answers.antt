-- `block_list::block_line::value_of` meets its contract.
use Rattle.std.proofs.Common.{◌+◌, ◌-◌, ◌*◌, refl, arith, add-one}
use native.Mathlib.Nat.{pow-succ'}
use Rattle.std.proofs.lemmas.List.Sums.{fold_more}
use Rattle.block_list.proofs.block_line.value_of.Goals as goal

pub loop-digit-init : goal.loop-digit-init
loop-digit-init c = record { value = refl; small = omega arith }

pub loop-digit-preserved : goal.loop-digit-preserved
loop-digit-preserved c =
    let more = fold_more (λ value digit. 10 * value + (digit - 48)) 0 c.args.digits.now c.loop-digit.digit-index 0 c.loop-digit-test.true in
    record {
      value = omega (arith, more, c.loop-digit.invariant.value, c.from.ensures, c.saturating_sub.ensures);
      small = rw add-one (omega (arith, pow-succ' 10 c.loop-digit.digit-index, c.loop-digit.invariant.small, c.from.ensures, c.saturating_sub.ensures, c.type_inv.digits c.loop-digit.digit-index));
    }
