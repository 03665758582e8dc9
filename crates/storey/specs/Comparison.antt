-- Document 01, "Comparison of records": which storey record is no worse than another.
use Rattle.std.specs.Prelude.{ℕ, ◌*◌, ◌≤◌, ◌<◌, true, ◌⊎◌, ◌≡◌}
use Rattle.storey.specs.declared.StoreyWall.{StoreyWall}
use Rattle.storey.specs.Span.{span_reduced}
use Rattle.storey.specs.Record.{with_height, with_span, with_bearing, with_strength, with_dead, with_imposed, with_floor_load, with_building}

-- A record with G, Q, q, L, H, h, F and a of another.
abbrev pub with_eight_of : (other w : StoreyWall) → StoreyWall
with_eight_of other w =
    let loads = with_floor_load (with_imposed (with_dead w other.dead) other.imposed) other.floorload in
    let heights = with_height (with_building (with_span loads other.span) other.building) other.height in
    with_bearing (with_strength heights other.strength) other.bearing

-- Document 02, #101: "holds M equal, and lets L differ only where M is 0 or both records have the reduction".
abbrev pub ComparableSpans : (L L' M : ℕ) → Type 0
ComparableSpans L L' M = (L ≡ L') ⊎ (M ≡ 0) ⊎ ((span_reduced L M ≡ true) × (span_reduced L' M ≡ true))

-- "the second with no greater G, Q, q, L, H, h, no lower F, no shallower a, any of these at once, all else equal.
-- (On three sides h and a must agree where the first's h exceeds 3c.)"
pub record NoWorse (first second : StoreyWall) : Type 0 where
  pub dead : second.dead ≤ first.dead
  pub imposed : second.imposed ≤ first.imposed
  pub floorload : second.floorload ≤ first.floorload
  pub span : second.span ≤ first.span
  pub building : second.building ≤ first.building
  pub height : second.height ≤ first.height
  pub strength : first.strength ≤ second.strength
  pub bearing : first.bearing ≤ second.bearing
  -- "all else equal": "every other number of the record", M of #101 and mark and wind of #102 among them
  pub all_else : with_eight_of second first ≡ second
  pub spans : ComparableSpans first.span second.span first.otherspan
  pub three_sides : first.held ≡ 3 → 3 * first.distance < first.height → (first.height ≡ second.height) × (first.bearing ≡ second.bearing)
