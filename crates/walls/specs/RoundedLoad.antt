-- Document 02, #108: "N is rounded to the nearest newton per metre, an exact half upwards", for "both kinds of wall and .. both load formulas". That each
-- reported load is so rounded is `load_rounded` of `Numbers`.
use Rattle.std.specs.Prelude.{ℕ, ◌+◌, ◌≤◌, true, List, [], ◌∷◌, map, ◌≡◌}
use Rattle.basis.specs.Fraction.{Fraction, ◌÷◌, ◌≈◌, whole, minus, ceil}
use Rattle.basis.specs.Load.{ExceedsByLessThanHalf}
use Rattle.basis.specs.Refusal.{NoneApplies}
use Rattle.basis.specs.Result.{Accepted}
use Rattle.cellar.specs.declared.CellarWall.{CellarWall}
use Rattle.cellar.specs.Record.{cellar_of, with_dead, with_imposed}
use Rattle.walls.specs.declared.Wall.{Wall}
use Rattle.walls.specs.declared.Wall.TheVariants.{Storey, Cellar}
use Rattle.walls.specs.Check.{parts, in_range, check}
use Rattle.walls.specs.Claims.{exact_load}
use Rattle.walls.specs.Examples.{example_k}
use Rattle.walls.specs.SimplifiedLoad.{loaded_a}

-- "an accepted record's exact load exceeds the reported resistance, if at all, by less than half a newton per metre"
abbrev pub AcceptedExceedsByLessThanHalf : Type 0
AcceptedExceedsByLessThanHalf = (wall : Wall) → Accepted (check wall) → ExceedsByLessThanHalf (exact_load wall) (check wall).resistance

-- "G, Q or, for storey walls, q rises and none of them falls", from the first record to the second, which is of the same kind.
abbrev pub NoLoadFalls : (first second : Wall) → Type 0
NoLoadFalls (Storey first) (Storey second) = (first.dead ≤ second.dead) × (first.imposed ≤ second.imposed) × (first.floorload ≤ second.floorload)
NoLoadFalls (Cellar first) (Cellar second) = (first.dead ≤ second.dead) × (first.imposed ≤ second.imposed)
NoLoadFalls (Storey first) (Cellar second) = ⊥
NoLoadFalls (Cellar first) (Storey second) = ⊥

-- "N never falls" then, where it is reported: within the ranges and every limit.
abbrev pub ReportedLoadGrows : Type 0
ReportedLoadGrows =
    (first second : Wall) → NoLoadFalls first second →
    in_range first ≡ true → NoneApplies (parts first).limits → in_range second ≡ true → NoneApplies (parts second).limits →
    (check first).load ≤ (check second).load

-- N is the exact load rounded up, as before, or 1 less. With `AcceptedExactly` of either kind: what was accepted is accepted.
abbrev pub SameOrOneLess : Type 0
SameOrOneLess = (wall : Wall) → ((parts wall).load ≤ ceil (exact_load wall)) × (ceil (exact_load wall) ≤ (parts wall).load + 1)

-- K with other loads.
abbrev pub loaded_k : (G Q : ℕ) → CellarWall
loaded_k G Q = with_imposed (with_dead example_k G) Q

-- Loads on A, where the smaller of both formulas holds and where 1.35G + 1.5Q does, and on K.
abbrev pub loaded : (G Q : ℕ) → List Wall
loaded G Q = Storey (loaded_a G Q 3000) ∷ Storey (loaded_a G Q 3001) ∷ Cellar (loaded_k G Q) ∷ []

abbrev pub reported_loads : (G Q : ℕ) → List ℕ
reported_loads G Q = map (λ (wall : Wall). (check wall).load) (loaded G Q)

-- "G=10, Q=0 gives 13.5 and so 14, G=1 gives 1", which was 2.
abbrev pub FiguresOf108 : Type 0
FiguresOf108 =
    (map (λ (wall : Wall). exact_load wall) (loaded 10 0) ≡ (1350 ÷ 100) ∷ (1350 ÷ 100) ∷ (1350 ÷ 100) ∷ [])
    × (reported_loads 10 0 ≡ 14 ∷ 14 ∷ 14 ∷ [])
    × (reported_loads 1 0 ≡ 1 ∷ 1 ∷ 1 ∷ [])
    × (map (λ (wall : Wall). ceil (exact_load wall)) (loaded 1 0) ≡ 2 ∷ 2 ∷ 2 ∷ [])

-- Where other roundings differ: 28.5, which is not rounded to the even number; 13.5 + 1.5, not rounded before the sum; 15.4 beside 16.35, each rounded down;
-- 2.7, rounded up.
abbrev pub RoundedOnceUpFromHalf : Type 0
RoundedOnceUpFromHalf =
    (reported_loads 20 1 ≡ 29 ∷ 29 ∷ 29 ∷ [])
    × (reported_loads 10 1 ≡ 15 ∷ 15 ∷ 15 ∷ [])
    × (reported_loads 1 10 ≡ 15 ∷ 16 ∷ 16 ∷ [])
    × (reported_loads 2 0 ≡ 3 ∷ 3 ∷ 3 ∷ [])

-- An accepted record whose exact load is so much above its reported resistance.
abbrev pub AcceptedWithExcess : Wall → (excess : Fraction) → Type 0
AcceptedWithExcess wall excess = Accepted (check wall) × (minus (exact_load wall) (whole (check wall).resistance) ≈ excess)

-- So the half is needed, for both kinds: the exact loads of A with G=261047 and Q=8 and of `C 300 2500 2000 6000 20000 900 0 377777 1 5000` are 0.45 N/m above
-- their resistances, 352425 and 510000. With whole G and Q every exact load is a multiple of 0.05, so that none comes nearer to the half.
abbrev pub HalfIsNeeded : Type 0
HalfIsNeeded =
    AcceptedWithExcess (Storey (loaded_a 261047 8 2250)) (45 ÷ 100)
    × AcceptedWithExcess (Cellar (cellar_of (300 ∷ 2500 ∷ 2000 ∷ 6000 ∷ 20000 ∷ 900 ∷ 0 ∷ 377777 ∷ 1 ∷ 5000 ∷ []))) (45 ÷ 100)
