-- Laws of tests and choices.
use Prim.Native.Nat.{ℕ, ◌≤◌}
use mathlib.Core.Bool.{Bool, true, false, false≢true, cond, ◌&&◌, ◌||◌}
use mathlib.Core.List.{List, [], ◌∷◌}
use mathlib.Core.Path.{◌≡◌, ◌∙◌, refl, sym}
use native.Mathlib.Omega.{arith}
use borrow.Author.Tests.{ltb-true, lt-ltb}
use lib.Dec.{ltb}

-- What holds of both answers, each under its test, holds of the choice.
pub cond_cases {ℓ} : {A : Type ℓ} (P : A → Type 0) (b : Bool) {x y : A} → (b ≡ true → P x) → (b ≡ false → P y) → P (cond b x y)
cond_cases P true yes· no· = yes· refl
cond_cases P false yes· no· = no· refl

-- The same for two choices, by both tests.
pub cond_pair {ℓ} : {A : Type ℓ} (P : A → A → Type 0) (b b' : Bool) {x y x' y' : A} →
    (b ≡ true → b' ≡ true → P x x') →
    (b ≡ true → b' ≡ false → P x y') →
    (b ≡ false → b' ≡ true → P y x') →
    (b ≡ false → b' ≡ false → P y y') →
    P (cond b x y) (cond b' x' y')
cond_pair P true true tt· tf ft ff = tt· refl refl
cond_pair P true false tt· tf ft ff = tf refl refl
cond_pair P false true tt· tf ft ff = ft refl refl
cond_pair P false false tt· tf ft ff = ff refl refl

-- Two choices by the same test.
pub cond_same {ℓ} : {A : Type ℓ} (P : A → A → Type 0) (b : Bool) {x y x' y' : A} →
    (b ≡ true → P x x') → (b ≡ false → P y y') → P (cond b x y) (cond b x' y')
cond_same P true left right = left refl
cond_same P false left right = right refl

-- The parts of a joined test

pub and_left : (a b : Bool) → (a && b) ≡ true → a ≡ true
and_left true b both = refl
and_left false b both = both

pub and_right : (a b : Bool) → (a && b) ≡ true → b ≡ true
and_right true b both = both
and_right false b both = absurd (false≢true both)

pub and_none : (a b : Bool) → (a && b) ≡ false → a ≡ true → b ≡ false
and_none true b isnt is = isnt
and_none false b isnt is = absurd (false≢true is)

pub or_left : (a b : Bool) → (a || b) ≡ false → a ≡ false
or_left true b neither = neither
or_left false b neither = refl

pub or_right : (a b : Bool) → (a || b) ≡ false → b ≡ false
or_right true b neither = absurd (false≢true (sym neither))
or_right false b neither = neither

-- Tests joined from left to right, as code writes them

abbrev pub chain : Bool → List Bool → Bool
chain a [] = a
chain a (b ∷ bs) = chain (a && b) bs

abbrev pub AllTrue : List Bool → Type 0
AllTrue [] = Unit {0}
AllTrue (b ∷ bs) = (b ≡ true) × AllTrue bs

pub chain_true : (a : Bool) (bs : List Bool) → chain a bs ≡ true → (a ≡ true) × AllTrue bs
chain_true a [] passed = (passed, tt)
chain_true a (b ∷ bs) passed =
    let parts = chain_true (a && b) bs passed in
    (and_left a b parts.0, (and_right a b parts.0, parts.1))

-- One test implies another

abbrev pub Implies : Bool → Bool → Type 0
Implies x y = x ≡ true → y ≡ true

-- What the second test denies, the first denies.
pub implies_false : (x y : Bool) → Implies x y → y ≡ false → x ≡ false
implies_false true y implied isnt = absurd (false≢true (sym isnt ∙ implied refl))
implies_false false y implied isnt = refl

pub implies_and : (a b x y : Bool) → Implies a x → Implies b y → Implies (a && b) (x && y)
implies_and true b x y left right both = rw (left refl) (right both)
implies_and false b x y left right both = absurd (false≢true both)

pub implies_or : (a b x y : Bool) → Implies a x → Implies b y → Implies (a || b) (x || y)
implies_or true b x y left right either = rw (left refl)
implies_or false b true y left right either = refl
implies_or false b false y left right either = right either

pub above_grows : (n a b : ℕ) → a ≤ b → Implies (ltb n a) (ltb n b)
above_grows n a b more above = lt-ltb n b (omega (arith, ltb-true n a above))

pub below_falls : (n a b : ℕ) → b ≤ a → Implies (ltb a n) (ltb b n)
below_falls n a b less below = lt-ltb b n (omega (arith, ltb-true a n below))
