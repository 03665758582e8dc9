-- The elements of a list one by one, as a record takes its numbers.
use Prim.Native.Nat.{ℕ, zero, suc, ◌+◌, ◌≤◌, ◌<◌}
use mathlib.Core.Path.{◌≡◌, ◌∙◌, refl, ap}
use mathlib.Core.List.{List, [], ◌∷◌}
use native.Mathlib.Omega.{arith}
use lib.ListN.{length, get_or, take, drop}
use lib.Seq.{drop-cons, take_all}

-- The n elements of a list that begin at i.
unfoldable pub listed : ℕ → ℕ → List ℕ → List ℕ
listed zero i l = []
listed (suc n) i l = get_or l i 0 ∷ listed n (suc i) l

pub listed_take : (n i : ℕ) (l : List ℕ) → i + n ≤ length l → listed n i l ≡ take n (drop i l)
unfolding listed
listed_take zero i l h = refl
listed_take (suc n) i l h =
    let within : i < length l = omega arith in
    rw (drop-cons l i 0) (ap (λ (m : List ℕ). get_or l i 0 ∷ m) (listed_take n (suc i) l (omega arith)))

-- All of them are the list.
pub listed_all : (n : ℕ) (l : List ℕ) → length l ≡ n → listed n 0 l ≡ l
listed_all n l is = listed_take n 0 l (omega arith) ∙ take_all n l (omega arith)
