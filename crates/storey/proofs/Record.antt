-- A record has the numbers of the list that it is made of.
use Prim.Native.Nat.{ℕ}
use mathlib.Core.List.{List}
use mathlib.Core.Path.{◌≡◌}
use lib.ListN.{length}
use Rattle.basis.proofs.Listed.{listed, listed_all}
use Rattle.storey.specs.Record.{numbers, count, storey_of}

pub numbers_of_storey_of : (ns : List ℕ) → length ns ≡ count → numbers (storey_of ns) ≡ ns
unfolding listed
numbers_of_storey_of ns is = listed_all count ns is
