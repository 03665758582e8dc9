-- Document 01, "Comparison of records": the cellar records between two.
use Rattle.std.specs.Prelude.{◌≤◌, ◌≡◌}
use Rattle.cellar.specs.declared.CellarWall.{CellarWall}
use Rattle.cellar.specs.Record.{with_dead, with_imposed}

-- A record with the loads G and Q of another.
abbrev pub with_loads_of : (other w : CellarWall) → CellarWall
with_loads_of other w = with_imposed (with_dead w other.dead) other.imposed

-- Two records "that differ at most in G and Q".
abbrev pub SameButLoads : (one other : CellarWall) → Type 0
SameButLoads one other = with_loads_of other one ≡ other

-- "neither falling: every record between them": both loads between theirs, ends included, all else the same.
pub record Between (low high wall : CellarWall) : Type 0 where
  pub ends : SameButLoads low high
  pub inside : SameButLoads low wall
  pub dead_from : low.dead ≤ wall.dead
  pub dead_to : wall.dead ≤ high.dead
  pub imposed_from : low.imposed ≤ wall.imposed
  pub imposed_to : wall.imposed ≤ high.imposed
