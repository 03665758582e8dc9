-- Laws of the choice of a block for a line.
use Rattle.std.proofs.Common.{Option, Some, None}
use Prim.Native.Nat.{ℕ}
use mathlib.Core.Bool.{Bool, true, false, cond}
use mathlib.Core.List.{List}
use mathlib.Core.Logic.{◌⊎◌, inl, inr, ◌↔◌}
use mathlib.Core.Path.{◌≡◌, ◌∙◌, refl, sym, ap}
use native.Mathlib.Omega.{arith}
use Rattle.walls.specs.declared.Wall.{Wall}
use Rattle.walls.specs.declared.Wall.TheVariants.{Storey, Cellar}
use Rattle.walls.specs.Check.{numbers_of}
use Rattle.line.specs.Grammar.{NineDigits, line_of}
use Rattle.line.specs.Reading.{read_line}
use Rattle.line.proofs.Claims.{reading_sound, reading_complete, malformed_exactly}
use Rattle.selection.specs.declared.Block.{Block}
use Rattle.selection.specs.declared.Choice.{Choice}
use Rattle.selection.specs.Blocks.{bad_list}
use Rattle.selection.specs.Choice.{with_strength, refused, choice}
use Rattle.selection.proofs.Refusals.{refused_as_26_exactly, refused_as_2_exactly, only_these_refusals}
use Rattle.wallcheck.specs.BlockChoice.{choice_read, choice_line, ChoiceOfRecord, ChoiceBadList, ChoiceNotALine, LineOutOfRange, ChoiceOutOfRange, OnlyTheseRefusalsOfLines, StrengthPutIn}
use Rattle.wallcheck.proofs.Demands.{line_of_record}

pub choice_of_record : ChoiceOfRecord
choice_of_record wall blocks nine = ap (λ (r : Option Wall). choice_read r blocks) (reading_complete wall nine)

-- 26

pub choice_bad_list : ChoiceBadList
choice_bad_list line blocks = by_reading (read_line line)
  where
    malformed : (bad : Bool) → refused (cond bad 26 1) ≡ refused 26 → bad ≡ true
    malformed true is = refl
    malformed false is = absurd (let no· : ⊥ = omega (arith, ap (λ (c : Choice). c.refusal) is) in no·)

    by_reading : (r : Option Wall) → (choice_read r blocks ≡ refused 26) ↔ (bad_list blocks ≡ true)
    by_reading (Some wall) = refused_as_26_exactly wall blocks
    by_reading None = (malformed (bad_list blocks), (λ bad. rw bad refl))

-- 1

never_1 : (wall : Wall) (blocks : List Block) → choice wall blocks ≡ refused 1 → ⊥
never_1 wall blocks is = go (only_these_refusals wall blocks)
  where
    go : ((choice wall blocks).refusal ≡ 0) ⊎ ((choice wall blocks).refusal ≡ 2) ⊎ ((choice wall blocks).refusal ≡ 26) ⊎ ((choice wall blocks).refusal ≡ 27) → ⊥
    go (inl other) = omega (arith, sym other ∙ ap (λ (c : Choice). c.refusal) is)
    go (inr (inl other)) = omega (arith, sym other ∙ ap (λ (c : Choice). c.refusal) is)
    go (inr (inr (inl other))) = omega (arith, sym other ∙ ap (λ (c : Choice). c.refusal) is)
    go (inr (inr (inr other))) = omega (arith, sym other ∙ ap (λ (c : Choice). c.refusal) is)

pub choice_not_a_line : ChoiceNotALine
choice_not_a_line line blocks = (
  (λ is. from (read_line line) refl is),
  (λ all. ap (λ (r : Option Wall). choice_read r blocks) ((malformed_exactly line).1 all.1) ∙ ap (λ (bad : Bool). refused (cond bad 26 1)) all.0),
)
  where
    good : (bad : Bool) → refused (cond bad 26 1) ≡ refused 1 → bad ≡ false
    good true is = absurd (let no· : ⊥ = omega (arith, ap (λ (c : Choice). c.refusal) is) in no·)
    good false is = refl

    from : (r : Option Wall) → read_line line ≡ r → choice_read r blocks ≡ refused 1 →
        (bad_list blocks ≡ false) × ((wall : Wall) → NineDigits (numbers_of wall) → line ≡ line_of wall → ⊥)
    from (Some wall) read is = absurd (never_1 wall blocks is)
    from None read is = (good (bad_list blocks) is, (malformed_exactly line).0 read)

-- 2

pub choice_out_of_range : ChoiceOutOfRange
choice_out_of_range line blocks = (
  (λ is. from (read_line line) refl is),
  (λ all.
      let wall = all.1.0 in
      ap (λ (l : List ℕ). choice_line l blocks) all.1.2 ∙ choice_of_record wall blocks all.1.1 ∙ (refused_as_2_exactly wall blocks).1 (all.0, all.1.3)),
)
  where
    not_2 : (bad : Bool) → refused (cond bad 26 1) ≡ refused 2 → ⊥
    not_2 true is = omega (arith, ap (λ (c : Choice). c.refusal) is)
    not_2 false is = omega (arith, ap (λ (c : Choice). c.refusal) is)

    from : (r : Option Wall) → read_line line ≡ r → choice_read r blocks ≡ refused 2 → (bad_list blocks ≡ false) × LineOutOfRange line
    from (Some wall) read is =
        let sound = reading_sound line wall read in
        let both = (refused_as_2_exactly wall blocks).0 is in
        (both.0, (wall, sound.1, sound.0, both.1))
    from None read is = absurd (not_2 (bad_list blocks) is)

pub only_these_refusals_of_lines : OnlyTheseRefusalsOfLines
only_these_refusals_of_lines line blocks = by_reading (read_line line)
  where
    OneOf : Choice → Type 0
    OneOf c = (c.refusal ≡ 0) ⊎ (c.refusal ≡ 1) ⊎ (c.refusal ≡ 2) ⊎ (c.refusal ≡ 26) ⊎ (c.refusal ≡ 27)

    of_a_record : (c : Choice) → (c.refusal ≡ 0) ⊎ (c.refusal ≡ 2) ⊎ (c.refusal ≡ 26) ⊎ (c.refusal ≡ 27) → OneOf c
    of_a_record c (inl is) = inl is
    of_a_record c (inr is) = inr (inr is)

    malformed : (bad : Bool) → OneOf (refused (cond bad 26 1))
    malformed true = inr (inr (inr (inl refl)))
    malformed false = inr (inl refl)

    by_reading : (r : Option Wall) → OneOf (choice_read r blocks)
    by_reading (Some wall) = of_a_record (choice wall blocks) (only_these_refusals wall blocks)
    by_reading None = malformed (bad_list blocks)

-- F put in

pub strength_put_in : StrengthPutIn
strength_put_in (Storey wall) block nine within = line_of_record (with_strength (Storey wall) block.strength) (omega (arith, nine, within))
strength_put_in (Cellar wall) block nine within = line_of_record (with_strength (Cellar wall) block.strength) (omega (arith, nine, within))
