-- Document 02, #110: "a list of 1 to 64 blocks, each with F in range and a price 1..1000000".
use Rattle.std.specs.Prelude.{ℕ, Bool, not, ◌||◌, List, [], ◌∷◌, eqb, ltb, length}
use Rattle.std.specs.List.{list_all}
use Rattle.basis.specs.Range.{Range, ◌from◌to◌, all_within}
use Rattle.selection.specs.declared.Block.{Block}

-- F has the range that it has in a record of either kind (`StrengthRange` in Claims.antt).
abbrev pub strength_range : (F : ℕ) → Range
strength_range F = F from 1 to 5000

abbrev pub ranges : Block → List Range
ranges block = strength_range block.strength ∷ block.price from 1 to 1000000 ∷ []

unfoldable pub in_range : Block → Bool
in_range block = all_within (ranges block)

-- 26: "when the list is empty, too long or has a number out of range"
unfoldable pub bad_list : List Block → Bool
bad_list blocks = eqb (length blocks) 0 || ltb 64 (length blocks) || not (list_all in_range blocks)
