-- The claims about the number of a cell. Assumes nothing.
use Rattle.std.proofs.Common.{◌≡◌, ℕ, ◌*◌, ◌/◌, ◌%◌, ◌<◌, Bool, true, false, cond, ◌⊎◌, ◌↔◌, pos, sym, refl, ap, ◌∙◌, subst, inl, inr, le_of_lt, zero-mul, mul-one, mul_right_comm, arith, lit<}
use Rattle.std.proofs.lemmas.Bool.{false≢true}
use native.Mathlib.Nat.{div-eq_of_eq-mul_left, eq_of_mul-eq-mul_right, mul-mod_left}
use lib.Ieee.{Float, nan, inf, fin, binary64, up, down, of_int}
use lib.Ieee.Back.{round_whole}
use lib.Ieee.Exact.{HasValue}
use lib.Ieee.Fits.{down_pos, of_int-fits}
use Rattle.worksheet.specs.Cell.{IsWhole, cell_bound, no_number, is_number, cell_number, CellIsItsValue, OtherCellsAreNone, EveryNumberHasCell}

-- a / d, negative where s is true, is the whole number n.
abbrev pub Whole : Bool → ℕ → ℕ → ℕ → Type 0
Whole s a d n = (a ≡ n * d) × (s ≡ true → n ≡ 0)

pub unsigned : {n : ℕ} → false ≡ true → n ≡ 0
unsigned h = absurd (false≢true h)

-- A float whose value is a / c is whole exactly if a / c is.
pub value_whole : (x : Float) (s : Bool) (a c n : ℕ) → 0 < c → HasValue x s a c → IsWhole x n ↔ Whole s a c n
value_whole nan s a c n c_pos v = absurd v
value_whole (inf t) s a c n c_pos v = absurd v
value_whole (fin t m e) s a c n c_pos v = (
  λ w. (
    eq_of_mul-eq-mul_right (down e) (down_pos e) a (n * c) (sym v.1 ∙ ap (λ (k : ℕ). k * c) w.0 ∙ mul_right_comm n (down e) c),
    λ h. w.1 (v.0 ∙ h),
  ),
  λ w. (
    eq_of_mul-eq-mul_right c c_pos (m * up e) (n * down e) (v.1 ∙ ap (λ (k : ℕ). k * down e) w.0 ∙ mul_right_comm n c (down e)),
    λ h. w.1 (sym v.0 ∙ h),
  ),
)

-- ---- the test of `cell_number` holds exactly where a / d is a whole number below the bound

is_number_sound : (s : Bool) (a d : ℕ) → is_number s a d ≡ true → Whole s a d (a / d) × (a / d < cell_bound)
is_number_sound s a d t = grind arith

is_number_complete : (s : Bool) (a d n : ℕ) → 0 < d → n < cell_bound → Whole s a d n → (is_number s a d ≡ true) × (a / d ≡ n)
is_number_complete s a d n d_pos small whole =
    let quotient : a / d ≡ n = div-eq_of_eq-mul_left d_pos whole.0 in
    let exact : a % d ≡ 0 = ap (λ (k : ℕ). k % d) whole.0 ∙ mul-mod_left n d in
    let sign : s ≡ true → a ≡ 0 = λ t. whole.0 ∙ ap (λ (k : ℕ). k * d) (whole.1 t) ∙ zero-mul d in
    (grind (arith, quotient, exact, sign), quotient)

-- ---- the claims

number_whole : (x : Float) (n : ℕ) → n < cell_bound → IsWhole x n → cell_number x ≡ n
unfolding cell_number
number_whole nan n small w = absurd w
number_whole (inf s) n small w = absurd w
number_whole (fin s m e) n small w =
    let found = is_number_complete s (m * up e) (down e) n (down_pos e) small w in
    rw found.0 found.1

number_or_none : (x : Float) → ((n : ℕ) × (n < cell_bound) × IsWhole x n) ⊎ (cell_number x ≡ no_number)
unfolding cell_number
number_or_none nan = inr refl
number_or_none (inf s) = inr refl
number_or_none (fin s m e) = go (is_number s (m * up e) (down e)) refl
  where
    go : (b : Bool) → is_number s (m * up e) (down e) ≡ b → ((n : ℕ) × (n < cell_bound) × IsWhole (fin s m e) n) ⊎ (cond b (m * up e / down e) no_number ≡ no_number)
    go true found = let sound = is_number_sound s (m * up e) (down e) found in inl (m * up e / down e, sound.1, sound.0)
    go false found = inr refl

pub cell_is_its_value : CellIsItsValue
cell_is_its_value x n small = (
  λ e. elim (number_or_none x) [
    | inl p ↦ subst (λ (k : ℕ). IsWhole x k) (sym (number_whole x p.0 p.1 p.2) ∙ e) p.2
    | inr z ↦ absurd (omega (arith, z, e))
  ],
  number_whole x n small,
)

pub other_cells_are_none : OtherCellsAreNone
other_cells_are_none x none = elim (number_or_none x) [ inl p ↦ absurd (none p.0 p.1 p.2) | inr z ↦ z ]

pub every_number_has_cell : EveryNumberHasCell
unfolding of_int
every_number_has_cell n small =
    let x = of_int binary64 (pos n) in
    let whole : Whole false n 1 n = (sym (mul-one n), unsigned) in
    (x, of_int-fits binary64 (pos n), (value_whole x false n 1 n (lit< tt) (round_whole binary64 false n (le_of_lt small))).1 whole)
