-- "A result has five numbers: refusal (0 accepted), E or for a cellar the need, N, resistance, and spare = resistance - N, signed."
use Rattle.std.specs.Prelude.{ℕ, ◌≤◌, ◌<◌, ◌↔◌, ◌≡◌, pos, ◌-ℤ◌, nat_abs, ◌≤ℤ◌}
use Rattle.basis.specs.declared.CheckResult.{CheckResult}

-- "every other refusal leaves four zeros"
abbrev pub refused_with : ℕ → CheckResult
refused_with n = record { refusal = n; second = 0; load = 0; resistance = 0; spare = pos 0 }

-- All five numbers filled.
abbrev pub filled_with : ℕ → ℕ → ℕ → ℕ → CheckResult
filled_with n second N R = record { refusal = n; second = second; load = N; resistance = R; spare = pos R -ℤ pos N }

-- "refusal (0 accepted)"
abbrev pub Accepted : CheckResult → Type 0
Accepted result = result.refusal ≡ 0

-- Every number of the result, without its sign, is below the bound.
pub record Below (bound : ℕ) (result : CheckResult) : Type 0 where
  pub refusal_below : result.refusal < bound
  pub second_below : result.second < bound
  pub load_below : result.load < bound
  pub resistance_below : result.resistance < bound
  pub spare_below : nat_abs result.spare < bound

-- The spare of a result is its resistance less its load, and is not negative exactly when the load is at most the resistance.
pub record SpareSigned (result : CheckResult) : Type 0 where
  pub difference : result.spare ≡ pos result.resistance -ℤ pos result.load
  pub sign : (pos 0 ≤ℤ result.spare) ↔ (result.load ≤ result.resistance)
