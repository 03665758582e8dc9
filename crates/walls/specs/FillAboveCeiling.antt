-- Document 02, #105: fill above the cellar ceiling, up to 1.15h.
use Rattle.std.specs.Prelude.{ℕ, ◌+◌, ◌≤◌, Bool, true, cond, List, [], ◌∷◌, map, ◌⊎◌, ◌≡◌, eqb, ltb}
use Rattle.basis.specs.Check.{Parts, result_of}
use Rattle.basis.specs.Result.{refused_with, filled_with, Accepted}
use Rattle.cellar.specs.declared.CellarWall.{CellarWall}
use Rattle.cellar.specs.Record.{cellar_of, with_height, with_fill, with_dead, with_imposed}
use Rattle.cellar.specs.Limits.{fill_too_high, limits}
use Rattle.cellar.specs.Check.{parts, check}
use Rattle.walls.specs.Examples.{example_k}

-- "document 01's example for it no longer meets it and is refusal 19 from then on": K with e=2501. With e=2875, which is 1.15h, it passes 16 too;
-- with e=2876 it is the new example of 16.
abbrev pub ExamplesOf16 : Type 0
ExamplesOf16 =
    (check (with_fill example_k 2501) ≡ filled_with 19 42843 69000 344722)
    × (check (with_fill example_k 2875) ≡ filled_with 19 56614 69000 344722)
    × (check (with_fill example_k 2876) ≡ refused_with 16)

-- Example 6 of source document 003, its least load as G and no Q: `C 365 2500 2680 6000 18000 400 0 72500 0 5000`. The source has 44 and, with 0.33 in
-- place of a third, 273 kN/m for need and resistance.
abbrev pub example_six : CellarWall
example_six = cellar_of (365 ∷ 2500 ∷ 2680 ∷ 6000 ∷ 18000 ∷ 400 ∷ 0 ∷ 72500 ∷ 0 ∷ 5000 ∷ [])

abbrev pub ExampleSixAccepted : Type 0
ExampleSixAccepted = check example_six ≡ filled_with 0 44276 97875 275777

-- K with another clear height and fill, and with G=150000, which is above every need of the table.
abbrev pub filled_k : (h e : ℕ) → CellarWall
filled_k h e = with_dead (with_fill (with_height example_k h) e) 150000

-- Clear heights, each with the greatest fill that passes 16. From 2500 to 2519, 1.15h has each of its twenty fractions.
abbrev pub fill_table : List (ℕ × ℕ)
fill_table =
    (2500, 2875)
    ∷ (2501, 2876)
    ∷ (2502, 2877)
    ∷ (2503, 2878)
    ∷ (2504, 2879)
    ∷ (2505, 2880)
    ∷ (2506, 2881)
    ∷ (2507, 2883)
    ∷ (2508, 2884)
    ∷ (2509, 2885)
    ∷ (2510, 2886)
    ∷ (2511, 2887)
    ∷ (2512, 2888)
    ∷ (2513, 2889)
    ∷ (2514, 2891)
    ∷ (2515, 2892)
    ∷ (2516, 2893)
    ∷ (2517, 2894)
    ∷ (2518, 2895)
    ∷ (2519, 2896)
    ∷ (1, 1)
    ∷ (7, 8)
    ∷ (2600, 2990)
    ∷ []

-- Accepted with that fill, and 16 with 1 mm more.
abbrev pub FillsAtTheLimit : Type 0
FillsAtTheLimit =
    map {B = ℕ × ℕ} (λ row. ((check (filled_k row.0 row.1)).refusal, (check (filled_k row.0 (row.1 + 1))).refusal)) fill_table
    ≡ map {B = ℕ × ℕ} (λ _. (0, 16)) fill_table

-- The parts of the check with document 01's 16, "e > h", in place of today's.
abbrev pub earlier_parts : CellarWall → Parts
earlier_parts w =
    record {
      in_range = (parts w).in_range;
      limits = map (λ (limit : ℕ × Bool). cond (eqb limit.0 16) (16, ltb w.height w.fill) limit) (limits w);
      measures = (parts w).measures;
      second = (parts w).second;
      load = (parts w).load;
      resistance = (parts w).resistance;
    }

-- A result differs from before only where h < e ≤ 1.15h: a record with its fill up to the ceiling, or to which 16 applies, has the result that it
-- has with document 01's 16.
abbrev pub OtherFillsStay : Type 0
OtherFillsStay = (w : CellarWall) → (w.fill ≤ w.height) ⊎ (fill_too_high w ≡ true) → check w ≡ result_of (earlier_parts w)

-- K with this fill is accepted with all loads from G and Q up to G' and Q'.
abbrev pub AcceptedBetween : (e G Q G' Q' : ℕ) → Type 0
AcceptedBetween e G Q G' Q' =
    (dead imposed : ℕ) → G ≤ dead → dead ≤ G' → Q ≤ imposed → imposed ≤ Q' →
    Accepted (check (with_imposed (with_dead (with_fill example_k e) dead) imposed))

-- "Demand 3's cellar sentence goes on to hold, with e above the ceiling or below it": `CellarComparison` asks of e only that all records share it.
-- An instance on each side of the ceiling, which is at 2500.
abbrev pub BetweenAboveAndBelow : Type 0
BetweenAboveAndBelow = AcceptedBetween 2875 56614 0 188682 60000 × AcceptedBetween 2000 27398 0 188682 60000
