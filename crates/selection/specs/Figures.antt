-- Document 02, #110, at examples: blocks for A and K of document 01.
use Rattle.std.specs.Prelude.{ℕ, List, [], ◌∷◌, map, ◌≡◌}
use Rattle.walls.specs.declared.Wall.{Wall}
use Rattle.walls.specs.declared.Wall.TheVariants.{Storey, Cellar}
use Rattle.walls.specs.Examples.{example_a, example_k}
use Rattle.selection.specs.declared.Block.{Block}
use Rattle.selection.specs.Choice.{choice}

-- Blocks as F and price.
abbrev pub listed : List (ℕ × ℕ) → List Block
listed pairs = map (λ (pair : ℕ × ℕ). record { strength = pair.0; price = pair.1 }) pairs

abbrev pub Chooses : Wall → List (ℕ × ℕ) → (refusal place checked : ℕ) → Type 0
Chooses wall pairs refusal place checked = choice wall (listed pairs) ≡ record { refusal = refusal; place = place; checked = checked }

-- A needs F = 298, K F = 180, refusal 11's bound.
abbrev pub WorkedChoices : Type 0
WorkedChoices =
    -- the earlier of equals; the later one is not checked
    Chooses (Storey example_a) ((500, 10) ∷ (400, 10) ∷ []) 0 1 1
    -- the cheapest is too weak, and what costs more than an accepted block before it is not checked
    × Chooses (Storey example_a) ((297, 5) ∷ (500, 30) ∷ (600, 40) ∷ (298, 20) ∷ []) 0 4 3
    × Chooses (Cellar example_k) ((179, 1) ∷ (180, 3) ∷ (200, 2) ∷ []) 0 3 3
    -- none is accepted
    × Chooses (Storey example_a) ((297, 5) ∷ (180, 1) ∷ []) 27 0 2
    -- a bad list
    × Chooses (Storey example_a) [] 26 0 0
    × Chooses (Cellar example_k) ((180, 0) ∷ []) 26 0 0
