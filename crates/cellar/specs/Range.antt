-- Document 01, "The two lines": "`C` and 10 numbers: t, h as above; e height of fill 0..20000; c spacing of cross walls 1..30000;
-- y weight of fill, N/m³, 1..30000; F, bonded, G, Q as above; p load on the ground, N/m², 0..100000".
use Rattle.std.specs.Prelude.{Bool, List, [], ◌∷◌}
use Rattle.basis.specs.Range.{Range, ◌from◌to◌, all_within}
use Rattle.cellar.specs.declared.CellarWall.{CellarWall}

-- The numbers in document 01's order, each with its range.
abbrev pub ranges : CellarWall → List Range
ranges w =
    w.thickness from 1 to 1000
    ∷ w.height from 1 to 20000
    ∷ w.fill from 0 to 20000
    ∷ w.spacing from 1 to 30000
    ∷ w.weight from 1 to 30000
    ∷ w.strength from 1 to 5000
    ∷ w.bonded from 0 to 1
    ∷ w.dead from 1 to 10000000
    ∷ w.imposed from 0 to 10000000
    ∷ w.groundload from 0 to 100000
    ∷ []

unfoldable pub in_range : CellarWall → Bool
in_range w = all_within (ranges w)
