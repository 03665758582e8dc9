-- Document 02, #102: the greatest clear heights with the mark and a = t, at every edge of thickness, strength, wind and use, as one table.
use Rattle.std.specs.Prelude.{ℕ, List, [], ◌∷◌, map, ◌≡◌}
use Rattle.storey.specs.declared.StoreyWall.{StoreyWall}
use Rattle.storey.specs.Record.{with_usage, with_thickness, with_height, with_bearing, with_strength, with_calcium_silicate, with_wind}
use Rattle.storey.specs.Height.{HeightLimit, unlimited, at_most, height_limit}
use Rattle.storey.specs.Check.{check}
use Rattle.walls.specs.Examples.{example_a}

-- A as a calcium silicate wall with full bearing, and of another use, thickness, strength and wind.
abbrev pub calcium_silicate_a : (usage t F wind : ℕ) → StoreyWall
calcium_silicate_a usage t F wind =
    let wall = with_bearing (with_thickness (with_usage example_a usage) t) t in
    with_wind (with_calcium_silicate (with_strength wall F) 1) wind

-- A thickness, with its heights at F = 349, 350, 499, 500, 999 and 1000.
pub record HeightRow : Type 0 where
  pub thickness : ℕ
  pub heights : List HeightLimit

-- The heights of a use at a wind, row by row.
pub record HeightTable : Type 0 where
  pub usage : ℕ
  pub wind : ℕ
  pub rows : List HeightRow

-- What the definitions say.

abbrev pub heights_found : (usage wind t : ℕ) → HeightRow
heights_found usage wind t =
    record {
      thickness = t;
      heights = map (λ F. height_limit (calcium_silicate_a usage t F wind)) (349 ∷ 350 ∷ 499 ∷ 500 ∷ 999 ∷ 1000 ∷ []);
    }

abbrev pub table_found : (usage wind : ℕ) → HeightTable
table_found usage wind =
    record {
      usage = usage;
      wind = wind;
      rows = map (heights_found usage wind) (115 ∷ 149 ∷ 150 ∷ 174 ∷ 175 ∷ 199 ∷ 200 ∷ 239 ∷ 240 ∷ 299 ∷ 300 ∷ 301 ∷ []);
    }

-- What document 02 says.

abbrev pub limited : (t h349 h350 h499 h500 h999 h1000 : ℕ) → HeightRow
limited t h349 h350 h499 h500 h999 h1000 =
    record { thickness = t; heights = at_most h349 ∷ at_most h350 ∷ at_most h499 ∷ at_most h500 ∷ at_most h999 ∷ at_most h1000 ∷ [] }

abbrev pub free : (t : ℕ) → HeightRow
free t = record { thickness = t; heights = unlimited ∷ unlimited ∷ unlimited ∷ unlimited ∷ unlimited ∷ unlimited ∷ [] }

-- Use 1, whatever the wind.
abbrev pub inner_rows : List HeightRow
inner_rows =
    limited 115 2750 3600 3600 3600 3600 3600
    ∷ limited 149 2750 3600 3600 3600 3600 3600
    ∷ limited 150 2750 3600 3600 3600 3600 3600
    ∷ limited 174 2750 3600 3600 3600 3600 3600
    ∷ limited 175 2750 3600 3600 3600 3600 3600
    ∷ limited 199 2750 3600 3600 3600 3600 3600
    ∷ limited 200 2750 3600 3600 3600 3600 3600
    ∷ limited 239 2750 3600 3600 3600 3600 3600
    ∷ free 240
    ∷ free 299
    ∷ free 300
    ∷ free 301
    ∷ []

-- Uses 2 to 4, wind up to 1250.
abbrev pub outer_rows : List HeightRow
outer_rows =
    limited 115 2750 2750 2750 2750 2750 2750
    ∷ limited 149 2750 2750 2750 2750 2750 2750
    ∷ limited 150 2750 2750 2750 2750 2750 2750
    ∷ limited 174 2750 2750 2750 2750 2750 2750
    ∷ limited 175 2750 3000 3000 3300 3300 3300
    ∷ limited 199 2750 3000 3000 3300 3300 3300
    ∷ limited 200 2750 3600 3600 3600 3600 3600
    ∷ limited 239 2750 3600 3600 3600 3600 3600
    ∷ limited 240 2880 3600 3600 3600 3600 3600
    ∷ limited 299 3588 3600 3600 3600 3600 3600
    ∷ limited 300 3600 3600 3600 3600 3600 3600
    ∷ limited 301 3612 3612 3612 3612 3612 3612
    ∷ []

-- Uses 2 to 4, wind above 1250: document 01's heights.
abbrev pub windy_rows : List HeightRow
windy_rows =
    limited 115 2750 2750 2750 2750 2750 2750
    ∷ limited 149 2750 2750 2750 2750 2750 2750
    ∷ limited 150 2750 2750 2750 2750 2750 2750
    ∷ limited 174 2750 2750 2750 2750 2750 2750
    ∷ limited 175 2750 2750 2750 2750 2750 2750
    ∷ limited 199 2750 2750 2750 2750 2750 2750
    ∷ limited 200 2750 2750 2750 2750 2750 2750
    ∷ limited 239 2750 2750 2750 2750 2750 2750
    ∷ limited 240 2880 2880 2880 2880 2880 2880
    ∷ limited 299 3588 3588 3588 3588 3588 3588
    ∷ limited 300 3600 3600 3600 3600 3600 3600
    ∷ limited 301 3612 3612 3612 3612 3612 3612
    ∷ []

abbrev pub height_tables : List HeightTable
height_tables =
    record { usage = 1; wind = 1250; rows = inner_rows }
    ∷ record { usage = 1; wind = 1251; rows = inner_rows }
    ∷ record { usage = 2; wind = 1250; rows = outer_rows }
    ∷ record { usage = 2; wind = 1251; rows = windy_rows }
    ∷ record { usage = 3; wind = 1250; rows = outer_rows }
    ∷ record { usage = 3; wind = 1251; rows = windy_rows }
    ∷ record { usage = 4; wind = 1250; rows = outer_rows }
    ∷ record { usage = 4; wind = 1251; rows = windy_rows }
    ∷ []

abbrev pub HeightsAtEveryEdge : Type 0
HeightsAtEveryEdge = map (λ table. table_found table.usage table.wind) height_tables ≡ height_tables

-- "Schools want 3.30 m storeys": A of use 2 in wind 1250 is accepted at 3300 with the mark, and refused as 6 at 3301, or without it.
abbrev pub tall_a : (h mark : ℕ) → StoreyWall
tall_a h mark = with_calcium_silicate (with_height (calcium_silicate_a 2 175 500 1250) h) mark

abbrev pub TallerAccepted : Type 0
TallerAccepted = ((check (tall_a 3300 1)).refusal ≡ 0) × ((check (tall_a 3301 1)).refusal ≡ 6) × ((check (tall_a 3300 0)).refusal ≡ 6)
