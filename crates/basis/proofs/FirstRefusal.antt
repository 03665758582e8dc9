-- Laws of "the first refusal that applies".
use Prim.Native.Nat.{ℕ}
use mathlib.Core.Bool.{Bool, true, false, cond}
use mathlib.Core.List.{List, [], ◌∷◌, ◌++◌}
use mathlib.Core.Path.{◌≡◌, ◌∙◌, refl, sym, ap}
use native.Mathlib.Omega.{arith}
use borrow.Author.Tests.{ltb-true}
use Rattle.std.specs.Prelude.{get_or, Ok, Err}
use lib.Dec.{ltb}
use Rattle.basis.specs.declared.Refusal.{Refusal}
use Rattle.basis.specs.declared.Refusal.TheVariants.{NotALine, OutOfRange, WallTooThin, AreaTooSmall, UnfitForUse, WallTooHigh, FloorLoadTooGreat, BuildingTooHigh, SpanTooLong, BearingTooShallow, StrengthTooLow, WallTooSlender, LoadAboveResistance, CellarWallTooThin, CellarWallTooHigh, FillTooHigh, GroundLoadTooGreat, CellarLoadAboveResistance, DeadLoadBelowNeed, BufferTooShort, DeadLoadBelowMinimum, BlockDamaged, TextNotStored, NotLowAndHigh, BadBlockList, NoBlockAccepted}
use Rattle.basis.specs.Refusal.{number_of, first_or, first_of, NoneApplies}
use Rattle.basis.specs.Check.{every_number}
use Rattle.basis.proofs.Choice.{cond_cases, and_left, and_right, Implies, implies_false}

module _ {A : Type 0} (answer : ℕ → A) where
  -- What holds of the answer for each number of the list, and of the other answer where no refusal applies, holds of the answer given.
  pub first_or_cases : (P : A → Type 0) (test : ℕ → Bool) (rs : List (ℕ × Bool)) {o : A} → every_number test rs ≡ true →
      ((n : ℕ) → test n ≡ true → P (answer n)) → (NoneApplies rs → P o) → P (first_or answer rs o)
  unfolding first_or
  first_or_cases P test [] every some· none = none tt
  first_or_cases P test (r ∷ rs) every some· none =
      cond_cases P r.1
      (λ _. some· r.0 (and_left (test r.0) (every_number test rs) every))
      (λ isnt. first_or_cases P test rs (and_right (test r.0) (every_number test rs) every) some· (λ others. none (isnt, others)))

  pub first_or_none : (rs : List (ℕ × Bool)) {o : A} → NoneApplies rs → first_or answer rs o ≡ o
  unfolding first_or
  first_or_none [] none = refl
  first_or_none (r ∷ rs) none = rw none.0 (first_or_none rs none.1)

  -- Where the number of the first is not 0, some refusal applies.
  pub first_or_some : (rs : List (ℕ × Bool)) (o : A) → (first_of rs ≡ 0 → ⊥) → first_or answer rs o ≡ answer (first_of rs)
  unfolding first_or
  first_or_some [] o some· = absurd (some· refl)
  first_or_some (r ∷ rs) o some· = step r.1 some· (λ others. first_or_some rs o others)
    where
      step : (b : Bool) → (cond b r.0 (first_of rs) ≡ 0 → ⊥) → ((first_of rs ≡ 0 → ⊥) → first_or answer rs o ≡ answer (first_of rs)) →
          cond b (answer r.0) (first_or answer rs o) ≡ answer (cond b r.0 (first_of rs))
      step true some· others = refl
      step false some· others = others some·

  -- Refusals in two parts: the second part is asked only where nothing of the first applies.
  pub first_or_append : (rs ss : List (ℕ × Bool)) (o : A) → first_or answer (rs ++ ss) o ≡ first_or answer rs (first_or answer ss o)
  unfolding first_or
  first_or_append [] ss o = refl
  first_or_append (r ∷ rs) ss o = ap (cond r.1 (answer r.0)) (first_or_append rs ss o)

-- A function of the answer given is the function of each answer.
pub first_or_map : {A B : Type 0} (answer : ℕ → A) (f : A → B) (rs : List (ℕ × Bool)) (o : A) →
    f (first_or answer rs o) ≡ first_or (λ n. f (answer n)) rs (f o)
unfolding first_or
first_or_map answer f [] o = refl
first_or_map {A} {B} answer f (r ∷ rs) o = step r.1 (first_or_map answer f rs o)
  where
    step : (b : Bool) {x : A} {y : B} → f x ≡ y → f (cond b (answer r.0) x) ≡ cond b (f (answer r.0)) y
    step true is = refl
    step false is = is

-- A number above 0 for each refusal: 0 is given only where none applies.
pub none_first_of : (rs : List (ℕ × Bool)) → every_number (λ n. ltb 0 n) rs ≡ true → first_of rs ≡ 0 → NoneApplies rs
none_first_of rs positive =
    first_or_cases (λ n. n) (λ n. n ≡ 0 → NoneApplies rs) (λ n. ltb 0 n) rs positive
    (λ n above is. absurd (let no· : ⊥ = omega (arith, ltb-true 0 n above) in no·)) (λ none _. none)

pub every_any : (rs : List (ℕ × Bool)) → every_number (λ _. true) rs ≡ true
every_any [] = refl
every_any (r ∷ rs) = every_any rs

-- Without an error no refusal applies.
pub none_without_err : {A : Type 0} (rs : List (ℕ × Bool)) (o answer : A) → first_or Err rs (Ok o) ≡ Ok answer → NoneApplies rs
none_without_err rs o answer =
    first_or_cases Err (λ r. r ≡ Ok answer → NoneApplies rs) (λ _. true) rs (every_any rs) (λ n _ is. cc) (λ none _. none)

pub NoneApplies-split : (rs ss : List (ℕ × Bool)) → NoneApplies (rs ++ ss) → NoneApplies rs × NoneApplies ss
NoneApplies-split [] ss none = (tt, none)
NoneApplies-split (r ∷ rs) ss none =
    let rest = NoneApplies-split rs ss none.1 in
    ((none.0, rest.0), rest.1)

-- Two lists of the same length, each test of the second implying that in its place of the first: what the first keeps, the second keeps.

infixr 50 ◌then◌
pub data EachImplies : List (ℕ × Bool) → List (ℕ × Bool) → Type 0 where
  done : EachImplies [] []
  ◌then◌ : {r s : ℕ × Bool} {rs ss : List (ℕ × Bool)} → Implies s.1 r.1 → EachImplies rs ss → EachImplies (r ∷ rs) (s ∷ ss)

pub none_kept : {rs ss : List (ℕ × Bool)} → EachImplies rs ss → NoneApplies rs → NoneApplies ss
none_kept done none = tt
none_kept (◌then◌ {r} {s} implied others) none = (implies_false s.1 r.1 implied none.0, none_kept others none.1)

-- A number stands for one refusal only, so that nothing is lost where a contract names it.

-- The refusals by number; 0 and 22 are none of theirs.
refusals : List Refusal
refusals =
    NotALine
    ∷ NotALine
    ∷ OutOfRange
    ∷ WallTooThin
    ∷ AreaTooSmall
    ∷ UnfitForUse
    ∷ WallTooHigh
    ∷ FloorLoadTooGreat
    ∷ BuildingTooHigh
    ∷ SpanTooLong
    ∷ BearingTooShallow
    ∷ StrengthTooLow
    ∷ WallTooSlender
    ∷ LoadAboveResistance
    ∷ CellarWallTooThin
    ∷ CellarWallTooHigh
    ∷ FillTooHigh
    ∷ GroundLoadTooGreat
    ∷ CellarLoadAboveResistance
    ∷ DeadLoadBelowNeed
    ∷ BufferTooShort
    ∷ DeadLoadBelowMinimum
    ∷ NotALine
    ∷ BlockDamaged
    ∷ TextNotStored
    ∷ NotLowAndHigh
    ∷ BadBlockList
    ∷ NoBlockAccepted
    ∷ []

refusal_of : ℕ → Refusal
refusal_of n = get_or refusals n NotALine

found_again : (refusal : Refusal) → refusal_of (number_of refusal) ≡ refusal
unfolding refusal_of refusals
found_again NotALine = refl
found_again OutOfRange = refl
found_again WallTooThin = refl
found_again AreaTooSmall = refl
found_again UnfitForUse = refl
found_again WallTooHigh = refl
found_again FloorLoadTooGreat = refl
found_again BuildingTooHigh = refl
found_again SpanTooLong = refl
found_again BearingTooShallow = refl
found_again StrengthTooLow = refl
found_again WallTooSlender = refl
found_again LoadAboveResistance = refl
found_again CellarWallTooThin = refl
found_again CellarWallTooHigh = refl
found_again FillTooHigh = refl
found_again GroundLoadTooGreat = refl
found_again CellarLoadAboveResistance = refl
found_again DeadLoadBelowNeed = refl
found_again BufferTooShort = refl
found_again DeadLoadBelowMinimum = refl
found_again BlockDamaged = refl
found_again TextNotStored = refl
found_again NotLowAndHigh = refl
found_again BadBlockList = refl
found_again NoBlockAccepted = refl

pub number_of_one : (r s : Refusal) → number_of r ≡ number_of s → r ≡ s
number_of_one r s same = sym (found_again r) ∙ ap refusal_of same ∙ found_again s
