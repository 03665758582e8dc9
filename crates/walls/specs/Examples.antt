-- The example records of document 01, number by number as it writes their lines; document 02: "example `S` lines get a 0 at their end" (#101),
-- "document 01's `S` lines get 0 and 0" (#102).
use Rattle.std.specs.Prelude.{ℕ, [], ◌∷◌}
use Rattle.storey.specs.declared.StoreyWall.{StoreyWall}
use Rattle.storey.specs.Record.{storey_of, with_height, with_held, with_distance}
use Rattle.cellar.specs.declared.CellarWall.{CellarWall}
use Rattle.cellar.specs.Record.{cellar_of}

-- `S 1 175 2625 5000 2 0 1 5000 175 500 0 60000 90000 2250 9000 3 0 0 0`
abbrev pub example_a : StoreyWall
example_a = storey_of (1 ∷ 175 ∷ 2625 ∷ 5000 ∷ 2 ∷ 0 ∷ 1 ∷ 5000 ∷ 175 ∷ 500 ∷ 0 ∷ 60000 ∷ 90000 ∷ 2250 ∷ 9000 ∷ 3 ∷ 0 ∷ 0 ∷ 0 ∷ [])

-- A with another clear height and holding.
abbrev pub example_held : (h held c : ℕ) → StoreyWall
example_held h held c = with_distance (with_held (with_height example_a h) held) c

-- `C 365 2500 2000 6000 20000 500 0 40000 10000 5000`
abbrev pub example_k : CellarWall
example_k = cellar_of (365 ∷ 2500 ∷ 2000 ∷ 6000 ∷ 20000 ∷ 500 ∷ 0 ∷ 40000 ∷ 10000 ∷ 5000 ∷ [])
