-- Document 02, #103: the load on both sides of q = 3000, where version two failed.
use Rattle.std.specs.Prelude.{ℕ, ◌≤◌, ◌<◌, List, [], ◌∷◌, map, ◌≡◌}
use Rattle.basis.specs.Load.{rounded_load}
use Rattle.basis.specs.Result.{Accepted}
use Rattle.storey.specs.declared.StoreyWall.{StoreyWall}
use Rattle.storey.specs.Record.{with_dead, with_imposed, with_floor_load}
use Rattle.storey.specs.Load.{general_load, simplified_load, load}
use Rattle.storey.specs.Check.{check}
use Rattle.cellar.specs.declared.CellarWall.{CellarWall}
use Rattle.cellar.specs.Load as CellarLoad
use Rattle.walls.specs.Examples.{example_a}

-- "Lighter loads must go on leaving an accepted wall accepted, also across q = 3000, where version two failed": a wall that is accepted with q above
-- 3000 is accepted with any q up to 3000. This is an instance of demand 3.
abbrev pub AcceptedAcross3000 : Type 0
AcceptedAcross3000 =
    (w : StoreyWall) (q : ℕ) → 3000 < w.floorload → q ≤ 3000 → Accepted (check w) → Accepted (check (with_floor_load w q))

-- A with other loads.
abbrev pub loaded_a : (G Q q : ℕ) → StoreyWall
loaded_a G Q q = with_floor_load (with_imposed (with_dead example_a G) Q) q

-- A wall with which version two failed: A with G=261055 and Q=0 is accepted with q=3001 and with q=3000, though 1.4(G + Q), which version two took
-- for every q ≤ 3000, is above its resistance.
abbrev pub AcceptedWhereVersionTwoFailed : Type 0
AcceptedWhereVersionTwoFailed =
    Accepted (check (loaded_a 261055 0 3001))
    × Accepted (check (loaded_a 261055 0 3000))
    × ((check (loaded_a 261055 0 3000)).resistance < rounded_load (simplified_load 261055 0))

-- G and Q, with N for q = 3000 and for q = 3001.
pub record Loads : Type 0 where
  pub dead : ℕ
  pub imposed : ℕ
  pub up_to_3000 : ℕ
  pub above_3000 : ℕ

-- What the definitions say.
abbrev pub loads_found : (G Q : ℕ) → Loads
loads_found G Q = record { dead = G; imposed = Q; up_to_3000 = load (loaded_a G Q 3000); above_3000 = load (loaded_a G Q 3001) }

abbrev pub loads : (G Q N N' : ℕ) → Loads
loads G Q N N' = record { dead = G; imposed = Q; up_to_3000 = N; above_3000 = N' }

-- 1.4(G + Q) is the smaller where G is below 2Q; they are equal where G is 2Q.
abbrev pub load_table : List Loads
load_table =
    loads 60000 90000 210000 216000
    ∷ loads 60000 30100 126140 126150
    ∷ loads 60000 30000 126000 126000
    ∷ loads 60000 29900 125850 125850
    ∷ loads 200000 90000 405000 405000
    ∷ []

abbrev pub LoadsOnBothSides : Type 0
LoadsOnBothSides = map (λ row. loads_found row.dead row.imposed) load_table ≡ load_table

-- "Storey walls only": a cellar wall's N is 1.35G + 1.5Q, rounded.
abbrev pub CellarLoadStays : Type 0
CellarLoadStays = (w : CellarWall) → CellarLoad.load w ≡ rounded_load (general_load w.dead w.imposed)
