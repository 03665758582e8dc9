-- `report::tail::Tail::prepend` meets its contract: the digits that the library writes are the number's.
use Rattle.std.proofs.Common.{ap, arith, length, length-append, length-drop, ◌++◌, ◌∙◌}
use Rattle.text.specs.Decimal.{decimal}
use Rattle.text.proofs.Decimal.{decimal_printed, decimal_length_u64}
use Rattle.report.proofs.tail.Tail.prepend.Goals as goal

pub returns-clause-text : goal.returns-clause-text
returns-clause-text c =
    c.write_digits-self-inside.ensures.written
    ∙ rw (decimal_printed c.args.number c.ranges.number.fits) (ap (λ l. decimal c.args.number ++ l) (c.self.view_is ∙ c.prepend_byte.ensures))

pub returns-clause-short : goal.returns-clause-short
returns-clause-short c = omega (arith, simp length-append at (ap length (returns-clause-text c)), decimal_length_u64 c.args.number c.ranges.number.fits)

pub write_digits-self-inside-requires : goal.write_digits-self-inside-requires
write_digits-self-inside-requires c =
    rw (decimal_printed c.args.number c.ranges.number.fits)
    (omega (
      arith,
      decimal_length_u64 c.args.number c.ranges.number.fits,
      simp length-drop at (ap length c.self.view_is),
      ap length c.prepend_byte.ensures,
    ))
