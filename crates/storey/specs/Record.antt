-- "A record is the numbers of one line": those of a storey record in document 01's order, then those of document 02: M of #101 as "a seventeenth number",
-- mark and wind of #102, "Two more numbers end the record"; and the record of such a list.
-- Whatever reads, compares or changes a record by its numbers stands on this page.
use Rattle.std.specs.Prelude.{ℕ, List, [], ◌∷◌, get_or, set}
use Rattle.storey.specs.declared.StoreyWall.{StoreyWall}

abbrev pub numbers : StoreyWall → List ℕ
numbers w =
    w.usage ∷ w.thickness ∷ w.height ∷ w.length ∷ w.held ∷ w.distance ∷ w.support ∷ w.span
    ∷ w.bearing ∷ w.strength ∷ w.bonded ∷ w.dead ∷ w.imposed ∷ w.floorload ∷ w.building ∷ w.storeys
    ∷ w.otherspan ∷ w.calciumsilicate ∷ w.wind ∷ []

-- How many they are.
abbrev pub count : ℕ
count = 19

-- The record with these numbers; 0 stands for one that the list has not.
abbrev pub storey_of : List ℕ → StoreyWall
storey_of ns =
    record {
      usage = get_or ns 0 0;
      thickness = get_or ns 1 0;
      height = get_or ns 2 0;
      length = get_or ns 3 0;
      held = get_or ns 4 0;
      distance = get_or ns 5 0;
      support = get_or ns 6 0;
      span = get_or ns 7 0;
      bearing = get_or ns 8 0;
      strength = get_or ns 9 0;
      bonded = get_or ns 10 0;
      dead = get_or ns 11 0;
      imposed = get_or ns 12 0;
      floorload = get_or ns 13 0;
      building = get_or ns 14 0;
      storeys = get_or ns 15 0;
      otherspan = get_or ns 16 0;
      calciumsilicate = get_or ns 17 0;
      wind = get_or ns 18 0;
    }

-- The record with another number in one place; places count from 0.
abbrev pub with_number : (place : ℕ) → StoreyWall → ℕ → StoreyWall
with_number place w n = storey_of (set (numbers w) place n)

-- The record with another quantity.

abbrev pub with_usage : StoreyWall → (usage : ℕ) → StoreyWall
with_usage = with_number 0

abbrev pub with_thickness : StoreyWall → (t : ℕ) → StoreyWall
with_thickness = with_number 1

abbrev pub with_height : StoreyWall → (h : ℕ) → StoreyWall
with_height = with_number 2

abbrev pub with_held : StoreyWall → (held : ℕ) → StoreyWall
with_held = with_number 4

abbrev pub with_distance : StoreyWall → (c : ℕ) → StoreyWall
with_distance = with_number 5

abbrev pub with_support : StoreyWall → (support : ℕ) → StoreyWall
with_support = with_number 6

abbrev pub with_span : StoreyWall → (L : ℕ) → StoreyWall
with_span = with_number 7

abbrev pub with_bearing : StoreyWall → (a : ℕ) → StoreyWall
with_bearing = with_number 8

abbrev pub with_strength : StoreyWall → (F : ℕ) → StoreyWall
with_strength = with_number 9

abbrev pub with_bonded : StoreyWall → (bonded : ℕ) → StoreyWall
with_bonded = with_number 10

abbrev pub with_dead : StoreyWall → (G : ℕ) → StoreyWall
with_dead = with_number 11

abbrev pub with_imposed : StoreyWall → (Q : ℕ) → StoreyWall
with_imposed = with_number 12

abbrev pub with_floor_load : StoreyWall → (q : ℕ) → StoreyWall
with_floor_load = with_number 13

abbrev pub with_building : StoreyWall → (H : ℕ) → StoreyWall
with_building = with_number 14

abbrev pub with_other_span : StoreyWall → (M : ℕ) → StoreyWall
with_other_span = with_number 16

abbrev pub with_calcium_silicate : StoreyWall → (mark : ℕ) → StoreyWall
with_calcium_silicate = with_number 17

abbrev pub with_wind : StoreyWall → (wind : ℕ) → StoreyWall
with_wind = with_number 18
