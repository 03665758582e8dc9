-- `wallcheck::block_choice::choose` meets its contract: the choice for what was read.
use Rattle.std.proofs.Common.{◌≡◌, ◌∙◌, refl, sym, ap, Option}
use mathlib.Core.Bool.{Bool, true, false, cond}
use Rattle.basis.specs.Refusal.{number_of}
use Rattle.basis.specs.declared.Refusal.TheVariants.{NotALine, BadBlockList}
use Rattle.walls.specs.declared.Wall.{Wall}
use Rattle.line.specs.declared.CountedReading.{CountedReading}
use Rattle.line.specs.Reading.{counted_reading}
use Rattle.selection.specs.Blocks.{bad_list}
use Rattle.selection.specs.Choice.{refused}
use Rattle.wallcheck.specs.BlockChoice.{choice_read}
use Rattle.wallcheck.proofs.block_choice.choose.Goals as goal

number_26_or_1 : (bad : Bool) → number_of (cond bad BadBlockList NotALine) ≡ cond bad 26 1
number_26_or_1 true = refl
number_26_or_1 false = refl

pub returns-in-Some : goal.returns-in-Some
unfolding counted_reading
returns-in-Some c =
    c.choose.ensures ∙ ap (λ (r : Option Wall). choice_read r c.args.blocks.now) (sym c.in-Some.is ∙ ap (λ (r : CountedReading). r.reading) c.read.ensures)

pub returns-in-None : goal.returns-in-None
unfolding counted_reading
returns-in-None c =
    c.from.ensures
    ∙ rw (c.first_refusal.ensures, c.is_bad_list.ensures) (ap refused (number_26_or_1 (bad_list c.args.blocks.now)))
    ∙ ap (λ (r : Option Wall). choice_read r c.args.blocks.now) (sym c.in-None.is ∙ ap (λ (r : CountedReading). r.reading) c.read.ensures)
