-- The load rounded to the nearest: how far the exact load of an accepted record can be above its resistance, that N never falls, and figures, computed.
use Prim.Native.Nat.{◌≤◌, ◌<◌}
use mathlib.Core.Bool.{true}
use mathlib.Core.Path.{◌≡◌, refl, ap}
use Rattle.basis.specs.declared.CheckResult.{CheckResult}
use Rattle.basis.specs.Refusal.{NoneApplies}
use Rattle.basis.proofs.Check.{reported_numbers}
use Rattle.basis.proofs.Load.{exceeds_by_less_than_half, load_near_ceil}
use Rattle.storey.specs.Load as StoreyLoad
use Rattle.storey.proofs.Load as StoreyLaws
use Rattle.cellar.specs.Load as CellarLoad
use Rattle.cellar.proofs.Load as CellarLaws
use Rattle.walls.specs.declared.Wall.{Wall}
use Rattle.walls.specs.declared.Wall.TheVariants.{Storey, Cellar}
use Rattle.walls.specs.Check.{parts, in_range, check}
use Rattle.walls.specs.Claims.{exact_load, Covered}
use Rattle.walls.specs.RoundedLoad.{AcceptedExceedsByLessThanHalf, NoLoadFalls, ReportedLoadGrows, SameOrOneLess, FiguresOf108, RoundedOnceUpFromHalf, HalfIsNeeded}
use Rattle.walls.proofs.Claims.{numbers_reported, accepted_within_limits}
use Rattle.walls.proofs.Computes.{computes}

exact_load_den : (wall : Wall) → 0 < (exact_load wall).den
exact_load_den (Storey w) = StoreyLaws.exact_load_den w
exact_load_den (Cellar w) = CellarLaws.exact_load_den w

load_covered : (wall : Wall) (result : CheckResult) → Covered wall result → result.load ≤ result.resistance
load_covered (Storey w) result covered = covered
load_covered (Cellar w) result covered = covered.0

pub accepted_exceeds_by_less_than_half : AcceptedExceedsByLessThanHalf
accepted_exceeds_by_less_than_half wall accepted =
    let within = accepted_within_limits wall accepted in
    let numbers = numbers_reported wall within.0 within.1 in
    exceeds_by_less_than_half (exact_load wall) (check wall).load (check wall).resistance (exact_load_den wall) numbers.load_rounded
    (load_covered wall (check wall) (numbers.verdict.0 accepted))

-- The reported load is that of the definition.
reported : (wall : Wall) → in_range wall ≡ true → NoneApplies (parts wall).limits → (check wall).load ≡ (parts wall).load
reported wall passed none = ap (λ (result : CheckResult). result.load) (reported_numbers (parts wall) passed none)

load_grows : (first second : Wall) → NoLoadFalls first second → (parts first).load ≤ (parts second).load
load_grows (Storey first) (Storey second) loads = StoreyLaws.load_grows first second loads.0 loads.1 loads.2
load_grows (Cellar first) (Cellar second) loads = CellarLaws.load_grows first second loads.0 loads.1
load_grows (Storey first) (Cellar second) loads = absurd loads
load_grows (Cellar first) (Storey second) loads = absurd loads

pub reported_load_grows : ReportedLoadGrows
reported_load_grows first second loads passed none passed' none' =
    rw (reported first passed none, reported second passed' none') (load_grows first second loads)

pub same_or_one_less : SameOrOneLess
unfolding StoreyLoad.load CellarLoad.load
same_or_one_less (Storey w) = load_near_ceil (exact_load (Storey w)) (exact_load_den (Storey w))
same_or_one_less (Cellar w) = load_near_ceil (exact_load (Cellar w)) (exact_load_den (Cellar w))

pub figures_of_108 : FiguresOf108
unfolding computes
figures_of_108 = (refl, refl, refl, refl)

pub rounded_once_up_from_half : RoundedOnceUpFromHalf
unfolding computes
rounded_once_up_from_half = (refl, refl, refl, refl)

pub half_is_needed : HalfIsNeeded
unfolding computes
half_is_needed = ((refl, refl), (refl, refl))
