-- The two records that decide the answer: of all records between, none is worse than the one and none is better than the other.
use Rattle.storey.specs.declared.StoreyWall.{StoreyWall}
use Rattle.storey.specs.Record.{with_strength}

-- The greatest G, Q, L, q and H with the least F.
abbrev pub worst_of : (low high : StoreyWall) → StoreyWall
worst_of low high = with_strength high low.strength

-- The least G, Q, L, q and H with the greatest F.
abbrev pub best_of : (low high : StoreyWall) → StoreyWall
best_of low high = with_strength low high.strength
