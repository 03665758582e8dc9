-- Document 01, "Cellar wall": "N as above", 1.35G + 1.5Q; document 02, #103, changes that for "Storey walls only". Rounded as #108 says, for "both kinds of wall".
use Rattle.std.specs.Prelude.{ℕ}
use Rattle.basis.specs.Fraction.{Fraction}
use Rattle.basis.specs.Load.{factored_load, rounded_load}
use Rattle.cellar.specs.declared.CellarWall.{CellarWall}

unfoldable pub exact_load : CellarWall → Fraction
exact_load w = factored_load 135 w.dead 150 w.imposed

unfoldable pub load : CellarWall → ℕ
load w = rounded_load (exact_load w)
