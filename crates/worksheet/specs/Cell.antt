-- "Each cell must be exactly a whole number in its range; negative zero counts as 0."
-- A cell is an f64. Its exact value is what the library's `Float.Ieee` says: `fin s m e` is m * 2 ^ e, negative where s is true, and 2 ^ e is the fraction up e / down e.
use Rattle.std.specs.Prelude.{◌≡◌, ℕ, ◌-◌, ◌*◌, ◌/◌, ◌%◌, ◌^◌, ◌<◌, Bool, true, cond, not, ◌&&◌, ◌||◌, T, ◌↔◌, ◌==◌, nat_lt, Float}
use Rattle.std.specs.Float.{nan, inf, fin, binary64}
use Rattle.std.specs.Float.Ieee.{up, down, fits}

-- The value of the cell is the whole number n. A NaN and an infinity have no value, and of the negative values only negative zero is a number n, namely 0.
abbrev pub IsWhole : Float → ℕ → Type 0
IsWhole nan n = ⊥
IsWhole (inf s) n = ⊥
IsWhole (fin s m e) n = (m * up e ≡ n * down e) × (s ≡ true → n ≡ 0)

-- Below this an f64 holds every whole number; each range of document 01 ends far below it.
abbrev pub cell_bound : ℕ
cell_bound = 2 ^ 53

-- Stands for a cell that is no whole number below the bound. It is in no range, so the range test of the wall refuses it.
abbrev pub no_number : ℕ
no_number = 2 ^ 64 - 1

-- a / d, negative where s is true, is a whole number below the bound.
abbrev pub is_number : Bool → ℕ → ℕ → Bool
is_number s a d = a % d == 0 && (not s || a == 0) && nat_lt (a / d) cell_bound

-- The number of a cell.
unfoldable pub cell_number : Float → ℕ
cell_number nan = no_number
cell_number (inf s) = no_number
cell_number (fin s m e) = cond (is_number s (m * up e) (down e)) (m * up e / down e) no_number

-- ---- what is proved of it, in proofs/Number.antt

-- The number of a cell is n exactly if the value of the cell is the whole number n.
abbrev pub CellIsItsValue : Type 0
CellIsItsValue = (x : Float) (n : ℕ) → n < cell_bound → (cell_number x ≡ n) ↔ IsWhole x n

-- No whole number below the bound is the value of the cell: it is a fraction, negative, too large, an infinity or a NaN.
abbrev pub NoWhole : Float → Type 0
NoWhole x = (n : ℕ) → n < cell_bound → IsWhole x n → ⊥

abbrev pub OtherCellsAreNone : Type 0
OtherCellsAreNone = (x : Float) → NoWhole x → cell_number x ≡ no_number

-- Each whole number below the bound is the value of an f64.
abbrev pub EveryNumberHasCell : Type 0
EveryNumberHasCell = (n : ℕ) → n < cell_bound → (x : Float) × T (fits binary64 x) × IsWhole x n
