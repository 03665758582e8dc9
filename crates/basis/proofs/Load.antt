-- Laws of a rounded load: those of its rounding.
use Prim.Native.Nat.{ℕ, ◌+◌, ◌*◌, ◌≤◌, ◌<◌}
use native.Mathlib.Nat.{mul-le-mul_right}
use native.Mathlib.Omega.{arith}
use Rattle.basis.specs.Fraction.{Fraction, whole, ◌≼◌, minus, ceil}
use Rattle.basis.specs.Load.{rounded_load, LoadRounded, ExceedsByLessThanHalf}
use Rattle.basis.proofs.Fraction.{ceil_above, ceil_least, nearest_mono, nearest_most, nearest_rounds}

pub load_rounded : (f : Fraction) → 0 < f.den → LoadRounded (rounded_load f) f
unfolding rounded_load
load_rounded = nearest_rounds

pub load_mono : (f g : Fraction) → 0 < f.den → 0 < g.den → f ≼ g → rounded_load f ≤ rounded_load g
unfolding rounded_load
load_mono = nearest_mono

pub load_most : (f : Fraction) (m : ℕ) → 0 < f.den → f ≼ whole m → rounded_load f ≤ m
unfolding rounded_load
load_most = nearest_most

-- The exact load rounded up, or 1 less.
pub load_near_ceil : (f : Fraction) → 0 < f.den → (rounded_load f ≤ ceil f) × (ceil f ≤ rounded_load f + 1)
load_near_ceil f pos =
    let below : f.num * 2 < (2 * rounded_load f + 1) * f.den = (load_rounded f pos).less_than_half_below in
    (load_most f (ceil f) pos (ceil_above f pos), ceil_least f (rounded_load f + 1) pos (omega (arith, below)))

-- Where the rounded load is at most the resistance, the exact one is less than a half above it.
pub exceeds_by_less_than_half : (f : Fraction) (N R : ℕ) → 0 < f.den → LoadRounded N f → N ≤ R → ExceedsByLessThanHalf f R
unfolding minus
exceeds_by_less_than_half f N R pos rounded covered =
    let below : f.num * 2 < (2 * N + 1) * f.den = rounded.less_than_half_below in
    omega (arith, below, mul-le-mul_right f.den covered)
