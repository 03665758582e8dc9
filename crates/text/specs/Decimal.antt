-- A number as text: "decimal .. without leading zeros (a lone 0 is allowed)". Bytes 48 to 57 are the digits 0 to 9.
use Rattle.std.specs.Prelude.{ℕ, zero, suc, ◌+◌, ◌/◌, ◌%◌, cond, List, [], ◌∷◌, ◌++◌, ltb}

-- A number below 10 is one digit; any other is the digits of its tenth part, then its last digit. Each step takes one digit off.
unfoldable pub decimal_within : ℕ → ℕ → List ℕ
decimal_within zero n = []
decimal_within (suc steps) n =
    let longer = decimal_within steps (n / 10) ++ (48 + n % 10) ∷ [] in
    cond (ltb n 10) ((48 + n) ∷ []) longer

-- n + 1 steps are enough for n, whatever n is.
unfoldable pub decimal : ℕ → List ℕ
decimal n = decimal_within (suc n) n
