-- Document 02, #109: "A record lies between them if each of its numbers does, ends included."
use Rattle.std.specs.Prelude.{ℕ, zero, suc, ◌-◌, ◌≤◌, Bool, true, ◌&&◌, List, [], ◌∷◌, ◌↔◌, ◌≡◌}
use Rattle.storey.specs.declared.StoreyWall.{StoreyWall}
use Rattle.storey.specs.Record.{numbers, storey_of}

-- The numbers of a low and of a high record, place by place.
abbrev pub paired : (lows highs : List ℕ) → List (ℕ × ℕ)
paired [] highs = []
paired (low ∷ lows) [] = []
paired (low ∷ lows) (high ∷ highs) = (low, high) ∷ paired lows highs

abbrev pub ends : (low high : StoreyWall) → List (ℕ × ℕ)
ends low high = paired (numbers low) (numbers high)

-- "each of its numbers does, ends included"
abbrev pub EachBetween : List (ℕ × ℕ) → List ℕ → Type 0
EachBetween [] [] = Unit {0}
EachBetween [] (n ∷ ns) = ⊥
EachBetween (e ∷ es) [] = ⊥
EachBetween (e ∷ es) (n ∷ ns) = (e.0 ≤ n) × (n ≤ e.1) × EachBetween es ns

-- "A record lies between them"
abbrev pub Between : (low high wall : StoreyWall) → Type 0
Between low high wall = EachBetween (ends low high) (numbers wall)

-- Whether a test holds of `count` whole numbers from `first` on.
unfoldable pub every_from : (first count : ℕ) → (ℕ → Bool) → Bool
every_from first zero test = true
every_from first (suc count) test = test first && every_from (suc first) count test

-- Whether it holds of every list of numbers that lie between the ends.
unfoldable pub every_list : List (ℕ × ℕ) → (List ℕ → Bool) → Bool
every_list [] test = test []
every_list (e ∷ es) test = every_from e.0 (suc e.1 - e.0) (λ n. every_list es (λ ns. test (n ∷ ns)))

-- Whether it holds of "every record between them".
unfoldable pub every_record : (low high : StoreyWall) → (StoreyWall → Bool) → Bool
every_record low high test = every_list (ends low high) (λ ns. test (storey_of ns))

-- ---- what is proved of it, in proofs/Between.antt

abbrev pub EveryRecordExactly : Type 0
EveryRecordExactly =
    (low high : StoreyWall) (test : StoreyWall → Bool) →
    (every_record low high test ≡ true) ↔ ((wall : StoreyWall) → Between low high wall → test wall ≡ true)
