-- Laws of the load.
use Prim.Native.Nat.{ℕ, ◌+◌, ◌*◌, ◌≤◌, ◌<◌, min}
use mathlib.Core.Bool.{true}
use mathlib.Core.Path.{◌≡◌, refl, ap}
use native.Mathlib.Nat.{le_trans}
use native.Mathlib.Omega.{arith}
use borrow.Author.Tests.{le-leb, lt-leb, leb-true, leb-false}
use lib.Dec.{leb}
use Rattle.basis.specs.Fraction.{Fraction, ◌÷◌, ◌≼◌, smaller}
use Rattle.basis.specs.Load.{LoadRounded}
use Rattle.basis.proofs.Choice.{cond_cases, cond_pair}
use Rattle.basis.proofs.Fraction.{≼_refl, ≼_trans, smaller_den, smaller_right, smaller_mono}
use Rattle.basis.proofs.Load as loads
use Rattle.storey.specs.declared.StoreyWall.{StoreyWall}
use Rattle.storey.specs.Range.{in_range}
use Rattle.storey.specs.Load.{general_load, simplified_load, load_of, exact_load, load}
use Rattle.storey.specs.Claims.{LoadGrows, LoadNoGreater}
use Rattle.storey.proofs.Range.{in_ranges}

-- Both loads of a record.

abbrev simplified : StoreyWall → Fraction
simplified w = simplified_load w.dead w.imposed

abbrev general : StoreyWall → Fraction
general w = general_load w.dead w.imposed

pub exact_load_den : (w : StoreyWall) → 0 < (exact_load w).den
unfolding exact_load load_of
exact_load_den w =
    cond_cases (λ (f : Fraction). 0 < f.den) (leb w.floorload 3000)
    (λ _. omega (arith, smaller_den (simplified w) (general w) (omega arith) (omega arith)))
    (λ _. omega arith)

pub load_is_rounded : (w : StoreyWall) → LoadRounded (load w) (exact_load w)
unfolding load
load_is_rounded w = loads.load_rounded (exact_load w) (exact_load_den w)

-- From q up to 3000 to q above it, the smaller of both loads gives way to 1.35G + 1.5Q, which is no less.
pub load_grows : LoadGrows
unfolding load exact_load load_of
load_grows w w' dead imposed floorload =
    loads.load_mono (exact_load w) (exact_load w') (exact_load_den w) (exact_load_den w')
    (cond_pair ◌≼◌ (leb w.floorload 3000) (leb w'.floorload 3000)
    (λ _ _. omega (arith, smaller_mono (simplified w) (general w) (simplified w') (general w') (omega arith) (omega arith) (omega arith) (omega arith)))
    (λ _ _. omega (arith, ≼_trans (smaller (simplified w) (general w)) (general w) (general w') (omega arith) (smaller_right (simplified w) (general w)) (omega arith)))
    (λ above up_to_lem. omega (arith, leb-false w.floorload 3000 above, leb-true w'.floorload 3000 up_to_lem, floorload))
    (λ _ _. omega arith))

pub load_no_greater : LoadNoGreater
unfolding load exact_load load_of
load_no_greater w =
    loads.load_mono (exact_load w) (general w) (exact_load_den w) (omega arith)
    (cond_cases (λ (f : Fraction). f ≼ general w) (leb w.floorload 3000)
    (λ _. smaller_right (simplified w) (general w))
    (λ _. ≼_refl (general w)))

-- Loads of at most 10^7 N/m each give at most 28500000 N/m.
pub load_most : (w : StoreyWall) → in_range w ≡ true → load w ≤ 28500000
load_most w passed =
    le_trans (load_no_greater w) (loads.load_most (general w) 28500000 (omega arith) (omega (arith, in_ranges w passed)))

-- The load as the code chooses it.

module _ (G Q q : ℕ) where
  pub load_above : 3000 < q → general_load G Q ≡ load_of G Q q
  unfolding load_of
  load_above above = rw (lt-leb q 3000 above) refl

  pub load_up_to : q ≤ 3000 → (min (140 * (G + Q)) (135 * G + 150 * Q) ÷ 100) ≡ load_of G Q q
  unfolding load_of smaller
  load_up_to up_to_lem =
      rw (le-leb q 3000 up_to_lem)
      (cond_cases (λ (f : Fraction). (min (140 * (G + Q)) (135 * G + 150 * Q) ÷ 100) ≡ f) (leb (140 * (G + Q) * 100) ((135 * G + 150 * Q) * 100))
      (λ no_greater. ap (λ (n : ℕ). n ÷ 100) (omega (arith, leb-true (140 * (G + Q) * 100) ((135 * G + 150 * Q) * 100) no_greater)))
      (λ greater. ap (λ (n : ℕ). n ÷ 100) (omega (arith, leb-false (140 * (G + Q) * 100) ((135 * G + 150 * Q) * 100) greater))))
