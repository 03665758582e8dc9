-- Laws of the limits: each opened, and refusal 16, which the definition asks of a fraction and the code in whole numbers.
use Prim.Native.Nat.{ℕ, ◌*◌, ◌≤◌}
use mathlib.Core.Bool.{Bool, false}
use mathlib.Core.List.{List}
use mathlib.Core.Path.{◌≡◌, ◌∙◌, sym}
use native.Mathlib.Omega.{arith}
use borrow.Author.Tests.{ltb-true, ltb-false, lt-ltb}
use lib.Dec.{ltb}
use Rattle.std.proofs.lemmas.Bool.Decides.{nat_tests}
use Rattle.cellar.specs.declared.CellarWall.{CellarWall}
use Rattle.cellar.specs.Limits.{too_thin, too_high, fill_too_high, ground_load_too_great, too_weak, limits}
use Rattle.cellar.specs.Claims.{FillTooHighExactly}

-- To unfold `each_limit` is to unfold every test.
unfoldable pub each_limit : CellarWall → List (ℕ × Bool)
unfolding too_thin too_high fill_too_high ground_load_too_great too_weak
each_limit w = limits w

module _ (w : CellarWall) where
  -- The code's test of 16 is the definition's.
  pub fill_test : ltb (23 * w.height) (20 * w.fill) ≡ fill_too_high w
  unfolding fill_too_high
  fill_test = grind (arith, nat_tests)

  -- A fill that is not refused is at most 1.15h.
  pub fill_within : fill_too_high w ≡ false → 20 * w.fill ≤ 23 * w.height
  fill_within passed = ltb-false _ _ (fill_test ∙ passed)

pub fill_too_high_exactly : FillTooHighExactly
fill_too_high_exactly w = ((λ refused. ltb-true _ _ (fill_test w ∙ refused)), (λ above. sym (fill_test w) ∙ lt-ltb _ _ above))
