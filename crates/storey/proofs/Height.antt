-- Laws of the height limits: their order, #102's heights against document 01's, and the tests as the code writes them.
use Prim.Native.Nat.{ℕ, ◌*◌, ◌≤◌, ◌<◌}
use mathlib.Core.Bool.{false≢true, cond}
use native.Mathlib.Omega.{arith}
use native.Mathlib.Nat.{le_refl}
use borrow.Author.Tests.{leb-true, leb-false, ltb-true, ltb-false, lt-ltb}
use lib.Dec.{leb, ltb, eqb}
use Rattle.basis.proofs.Choice.{Implies, cond_cases, cond_same, cond_pair}
use Rattle.storey.specs.Height.{HeightLimit, unlimited, at_most, above, NoLower, general_height, calcium_silicate_height}
use Rattle.storey.specs.Claims.{CalciumSilicateNoLower, CalciumSilicateGrows}

pub no_lower_refl : (limit : HeightLimit) → NoLower limit limit
no_lower_refl unlimited = tt
no_lower_refl (at_most n) = le_refl n

-- A lower wall under a limit that is no lower is above it only where the first wall is above its own.
pub above_falls : (limit limit' : HeightLimit) (h h' : ℕ) → NoLower limit limit' → h' ≤ h → Implies (above limit' h') (above limit h)
above_falls limit unlimited h h' higher lower is = absurd (false≢true is)
above_falls unlimited (at_most n) h h' higher lower is = absurd higher
above_falls (at_most m) (at_most n) h h' higher lower is = lt-ltb m h (omega (arith, ltb-true n h' is))

-- Calcium silicate walls

-- Document 01's limit of walls other than inner ones is no greater than n.
outer_most : (t n : ℕ) → (t < 240 → 2750 ≤ n) → (240 ≤ t → 12 * t ≤ n) → NoLower (cond (ltb t 240) (at_most 2750) (at_most (12 * t))) (at_most n)
outer_most t n thin thick =
    cond_cases (λ limit. NoLower limit (at_most n)) (ltb t 240) (λ is. thin (ltb-true t 240 is)) (λ isnt. thick (ltb-false t 240 isnt))

pub calcium_silicate_no_lower : CalciumSilicateNoLower
unfolding general_height calcium_silicate_height
calcium_silicate_no_lower usage t F =
    cond_same NoLower (eqb usage 1)
    (λ inner. cond_same NoLower (ltb t 240) (λ _. omega arith) (λ thick. rw (inner, thick) tt))
    (λ outer.
    let P = NoLower (cond (ltb t 240) (at_most 2750) (at_most (12 * t))) in
    cond_cases P (leb 300 t) (λ is. outer_most t _ (λ _. omega (arith, leb-true 300 t is)) (λ _. le_refl (12 * t)))
    (λ below. cond_cases P (leb 240 t) (λ _. outer_most t _ (λ _. omega arith) (λ _. omega (arith, leb-false 300 t below)))
    (λ below. cond_cases P (leb 200 t) (λ _. outer_most t _ (λ _. omega arith) (λ _. omega (arith, leb-false 240 t below)))
    (λ below. cond_cases P (leb 175 t)
    (λ _. cond_cases P (leb 500 F)
    (λ _. outer_most t _ (λ _. omega arith) (λ _. omega (arith, leb-false 200 t below)))
    (λ _. outer_most t _ (λ _. omega arith) (λ _. omega (arith, leb-false 200 t below))))
    (λ below. cond_cases P (leb 150 t) (λ _. outer_most t _ (λ _. omega arith) (λ _. omega (arith, leb-false 175 t below)))
    (λ below. cond_cases P (leb 115 t) (λ _. outer_most t _ (λ _. omega arith) (λ _. omega (arith, leb-false 150 t below)))
    (λ _. rw outer (no_lower_refl (cond (ltb t 240) (at_most 2750) (at_most (12 * t)))))))))))

pub calcium_silicate_grows : CalciumSilicateGrows
unfolding calcium_silicate_height
calcium_silicate_grows usage t F F' stronger =
    cond_same NoLower (eqb usage 1)
    (λ _. no_lower_refl (cond (ltb t 240) (at_most 3600) (general_height usage t)))
    (λ _. cond_same NoLower (leb 300 t) (λ _. le_refl _)
    (λ _. cond_same NoLower (leb 240 t) (λ _. le_refl _)
    (λ _. cond_same NoLower (leb 200 t) (λ _. le_refl _)
    (λ _. cond_same NoLower (leb 175 t)
    (λ _. cond_pair NoLower (leb 500 F) (leb 500 F') (λ _ _. le_refl _)
    (λ is isnt. absurd (let no· : ⊥ = omega (arith, stronger, leb-true 500 F is, leb-false 500 F' isnt) in no·))
    (λ _ _. omega arith) (λ _ _. le_refl _))
    (λ _. no_lower_refl (cond (leb 150 t) (at_most 2750) (cond (leb 115 t) (at_most 2750) (general_height usage t))))))))
