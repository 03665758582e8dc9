-- `worksheet::cell::whole_number` meets its contract: each return is a law of `Pattern` on the bits of x, which are read back as x.
use Rattle.std.proofs.Common.{◌≡◌, ◌^◌, ◌<◌, refl, true, true≢false, sym, ap, ◌∙◌}
use Rattle.std.proofs.lemmas.Float.{T_from_true}
use lib.Ieee.{Float, nan, inf, fin, binary64, fits, is_nan, of_bits, to_bits}
use lib.Ieee.Bits.{of_bits-to_bits, to_bits-lt}
use Rattle.worksheet.specs.Cell.{no_number, cell_number}
use Rattle.worksheet.proofs.Pattern.{number_whole, number_other}
use Rattle.worksheet.proofs.cell.whole_number.Goals as goal

nan_is_none : (x : Float) → true ≡ is_nan x → no_number ≡ cell_number x
unfolding cell_number is_nan
nan_is_none nan h = refl
nan_is_none (inf s) h = absurd (true≢false h)
nan_is_none (fin s m e) h = absurd (true≢false h)

-- ---- the bits of x, where the format holds it

module _ (x : Float) (held : fits binary64 x ≡ true) where
  bits_fit : to_bits binary64 x < 2 ^ 64
  bits_fit = to_bits-lt binary64 x (T_from_true (fits binary64 x) held)

  read_back : cell_number (of_bits binary64 (to_bits binary64 x)) ≡ cell_number x
  read_back = ap cell_number (of_bits-to_bits binary64 x (T_from_true (fits binary64 x) held))

-- ---- the goals

pub returns-then-is_nan : goal.returns-then-is_nan
returns-then-is_nan c = nan_is_none c.args.x (sym c.if-is_nan.true ∙ c.is_nan.ensures.value)

pub returns-then-places-significand : goal.returns-then-places-significand
returns-then-places-significand c =
    number_whole _ (bits_fit _ c.well_formed.0.1) c.if-places-significand.true ∙ read_back _ c.well_formed.0.1

pub returns-else-places-significand : goal.returns-else-places-significand
returns-else-places-significand c =
    rw c.then_some-zero.ensures (number_other _ (bits_fit _ c.well_formed.0.1) c.if-places-significand.false ∙ read_back _ c.well_formed.0.1)
