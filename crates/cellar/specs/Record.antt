-- "A record is the numbers of one line": those of a cellar record in document 01's order, and the record of such a list.
-- Whatever reads, compares or changes a record by its numbers stands on this page.
use Rattle.std.specs.Prelude.{ℕ, List, [], ◌∷◌, get_or, set}
use Rattle.cellar.specs.declared.CellarWall.{CellarWall}

abbrev pub numbers : CellarWall → List ℕ
numbers w =
    w.thickness ∷ w.height ∷ w.fill ∷ w.spacing ∷ w.weight ∷ w.strength ∷ w.bonded ∷ w.dead ∷ w.imposed ∷ w.groundload ∷ []

-- How many they are.
abbrev pub count : ℕ
count = 10

-- The record with these numbers; 0 stands for one that the list has not.
abbrev pub cellar_of : List ℕ → CellarWall
cellar_of ns =
    record {
      thickness = get_or ns 0 0;
      height = get_or ns 1 0;
      fill = get_or ns 2 0;
      spacing = get_or ns 3 0;
      weight = get_or ns 4 0;
      strength = get_or ns 5 0;
      bonded = get_or ns 6 0;
      dead = get_or ns 7 0;
      imposed = get_or ns 8 0;
      groundload = get_or ns 9 0;
    }

-- The record with another number in one place; places count from 0.
abbrev pub with_number : (place : ℕ) → CellarWall → ℕ → CellarWall
with_number place w n = cellar_of (set (numbers w) place n)

-- The record with another quantity.

abbrev pub with_height : CellarWall → (h : ℕ) → CellarWall
with_height = with_number 1

abbrev pub with_fill : CellarWall → (e : ℕ) → CellarWall
with_fill = with_number 2

abbrev pub with_spacing : CellarWall → (c : ℕ) → CellarWall
with_spacing = with_number 3

abbrev pub with_strength : CellarWall → (F : ℕ) → CellarWall
with_strength = with_number 5

abbrev pub with_dead : CellarWall → (G : ℕ) → CellarWall
with_dead = with_number 7

abbrev pub with_imposed : CellarWall → (Q : ℕ) → CellarWall
with_imposed = with_number 8
