-- "The first that applies is given": refusals are a list of number and test, in document 01's order.
use Rattle.std.specs.Prelude.{ℕ, Bool, false, cond, List, [], ◌∷◌, ◌≡◌, Result, Ok, Err}
use Rattle.basis.specs.declared.Refusal.{Refusal}
use Rattle.basis.specs.declared.Refusal.TheVariants.{NotALine, OutOfRange, WallTooThin, AreaTooSmall, UnfitForUse, WallTooHigh, FloorLoadTooGreat, BuildingTooHigh, SpanTooLong, BearingTooShallow, StrengthTooLow, WallTooSlender, LoadAboveResistance, CellarWallTooThin, CellarWallTooHigh, FillTooHigh, GroundLoadTooGreat, CellarLoadAboveResistance, DeadLoadBelowNeed, BufferTooShort, DeadLoadBelowMinimum, BlockDamaged, TextNotStored, NotLowAndHigh, BadBlockList, NoBlockAccepted}

-- The number of each refusal: document 01's table, then document 02's: 21 of #106, 23 and 24 of #107, 25 of #109, 26 and 27 of #110.
abbrev pub number_of : Refusal → ℕ
number_of NotALine = 1
number_of OutOfRange = 2
number_of WallTooThin = 3
number_of AreaTooSmall = 4
number_of UnfitForUse = 5
number_of WallTooHigh = 6
number_of FloorLoadTooGreat = 7
number_of BuildingTooHigh = 8
number_of SpanTooLong = 9
number_of BearingTooShallow = 10
number_of StrengthTooLow = 11
number_of WallTooSlender = 12
number_of LoadAboveResistance = 13
number_of CellarWallTooThin = 14
number_of CellarWallTooHigh = 15
number_of FillTooHigh = 16
number_of GroundLoadTooGreat = 17
number_of CellarLoadAboveResistance = 18
number_of DeadLoadBelowNeed = 19
number_of BufferTooShort = 20
number_of DeadLoadBelowMinimum = 21
number_of BlockDamaged = 23
number_of TextNotStored = 24
number_of NotLowAndHigh = 25
number_of BadBlockList = 26
number_of NoBlockAccepted = 27

-- What the code answers, with the number of the refusal in its place.
abbrev pub numbered : {A : Type 0} → Result A Refusal → Result A ℕ
numbered (Ok answer) = Ok answer
numbered (Err refusal) = Err (number_of refusal)

-- "refusal (0 accepted)"
abbrev pub verdict_number : Result Unit Refusal → ℕ
verdict_number (Ok nothing) = 0
verdict_number (Err refusal) = number_of refusal

-- The answer for the number of the first refusal whose test holds, or another where none does.
unfoldable pub first_or : {A : Type 0} → (ℕ → A) → List (ℕ × Bool) → A → A
first_or answer [] otherwise· = otherwise·
first_or answer (r ∷ rs) otherwise· = cond r.1 (answer r.0) (first_or answer rs otherwise·)

-- The number itself, or 0: "refusal (0 accepted)".
abbrev pub first_of : List (ℕ × Bool) → ℕ
first_of rs = first_or (λ n. n) rs 0

-- "accepted exactly when none of refusals .. applies to it"
abbrev pub NoneApplies : List (ℕ × Bool) → Type 0
NoneApplies [] = Unit {0}
NoneApplies (r ∷ rs) = (r.1 ≡ false) × NoneApplies rs
