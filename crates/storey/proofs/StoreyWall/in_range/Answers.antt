-- `StoreyWall::in_range` meets its contract: the tests in the definition's order, joined from left to right.
use Rattle.std.proofs.Common.{◌≡◌, ◌∙◌, ℕ, Bool, false}
use Rattle.std.specs.declared.ops.RangeInclusive.{RangeInclusive}
use Rattle.std.specs.Range.{range_inclusive_start, range_inclusive_end, range_inclusive_exhausted, range_inclusive_contains}
use Rattle.std.specs.Ordering.{nat_cmp}
use Rattle.std.specs.Prelude.{Some}
use Rattle.basis.specs.Range.{◌from◌to◌, within}
use Rattle.basis.proofs.Range.{contains_within}
use Rattle.storey.proofs.Range.{in_range_chain, distance_chain}
use Rattle.storey.proofs.StoreyWall.in_range.Goals as goal

tested : {found : Bool} (range : RangeInclusive ℕ) (low high number : ℕ) → range_inclusive_start range ≡ low → range_inclusive_end range ≡ high →
    range_inclusive_exhausted range ≡ false → found ≡ range_inclusive_contains (λ x y. Some (nat_cmp x y)) range number → found ≡ within (number from low to high)
tested range low high number start end fresh is = is ∙ contains_within range low high number start end fresh

pub returns : goal.returns
returns c =
    rw (
      tested _ _ _ _ c.new.ensures.start c.new.ensures.end c.new.ensures.exhausted c.contains.ensures.value,
      tested _ _ _ _ c.new-2.ensures.start c.new-2.ensures.end c.new-2.ensures.exhausted c.contains-2.ensures.value,
      tested _ _ _ _ c.new-3.ensures.start c.new-3.ensures.end c.new-3.ensures.exhausted c.contains-3.ensures.value,
      tested _ _ _ _ c.new-4.ensures.start c.new-4.ensures.end c.new-4.ensures.exhausted c.contains-4.ensures.value,
      tested _ _ _ _ c.new-5.ensures.start c.new-5.ensures.end c.new-5.ensures.exhausted c.contains-5.ensures.value,
      tested _ _ _ _ c.new-6.ensures.start c.new-6.ensures.end c.new-6.ensures.exhausted c.contains-6.ensures.value,
      tested _ _ _ _ c.new-7.ensures.start c.new-7.ensures.end c.new-7.ensures.exhausted c.contains-7.ensures.value,
      tested _ _ _ _ c.new-8.ensures.start c.new-8.ensures.end c.new-8.ensures.exhausted c.contains-8.ensures.value,
      tested _ _ _ _ c.new-9.ensures.start c.new-9.ensures.end c.new-9.ensures.exhausted c.contains-9.ensures.value,
      tested _ _ _ _ c.new-10.ensures.start c.new-10.ensures.end c.new-10.ensures.exhausted c.contains-10.ensures.value,
      tested _ _ _ _ c.new-11.ensures.start c.new-11.ensures.end c.new-11.ensures.exhausted c.contains-11.ensures.value,
      tested _ _ _ _ c.new-12.ensures.start c.new-12.ensures.end c.new-12.ensures.exhausted c.contains-12.ensures.value,
      tested _ _ _ _ c.new-13.ensures.start c.new-13.ensures.end c.new-13.ensures.exhausted c.contains-13.ensures.value,
      tested _ _ _ _ c.new-14.ensures.start c.new-14.ensures.end c.new-14.ensures.exhausted c.contains-14.ensures.value,
      tested _ _ _ _ c.new-15.ensures.start c.new-15.ensures.end c.new-15.ensures.exhausted c.contains-15.ensures.value,
      tested _ _ _ _ c.new-16.ensures.start c.new-16.ensures.end c.new-16.ensures.exhausted c.contains-16.ensures.value,
      tested _ _ _ _ c.new-17.ensures.start c.new-17.ensures.end c.new-17.ensures.exhausted c.contains-17.ensures.value,
      tested _ _ _ _ c.new-18.ensures.start c.new-18.ensures.end c.new-18.ensures.exhausted c.contains-18.ensures.value,
      tested _ _ _ _ c.new-19.ensures.start c.new-19.ensures.end c.new-19.ensures.exhausted c.contains-19.ensures.value,
      ← in_range_chain,
      ← distance_chain,
    )
