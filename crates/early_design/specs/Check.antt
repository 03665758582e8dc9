-- Document 02, #109, for a low and a high `S` record: its refusals, and the answer where none applies.
use Rattle.std.specs.Prelude.{ℕ, Bool, true, false, cond, not, ◌&&◌, ◌||◌, List, [], ◌∷◌, eqb, ltb, Result, Ok, Err}
use Rattle.basis.specs.Refusal.{first_or}
use Rattle.storey.specs.declared.StoreyWall.{StoreyWall}
use Rattle.storey.specs.Record.{numbers, with_dead, with_imposed, with_strength, with_span, with_floor_load, with_building}
use Rattle.storey.specs.Range.{in_range}
use Rattle.storey.specs.Check as StoreyCheck
use Rattle.early_design.specs.declared.RangeAnswer.{RangeAnswer}
use Rattle.early_design.specs.declared.RangeAnswer.TheVariants.{AllAccepted, NoneAccepted, SomeAccepted}
use Rattle.early_design.specs.declared.RangeResult.{RangeResult}
use Rattle.early_design.specs.Between.{every_record}

-- "a low value is above its high value": of "G, Q, F, L, q, H"
unfoldable pub low_above_high : (low high : StoreyWall) → Bool
low_above_high low high =
    ltb high.dead low.dead || ltb high.imposed low.imposed || ltb high.strength low.strength || ltb high.span low.span
    || ltb high.floorload low.floorload || ltb high.building low.building

-- A record with G, Q, F, L, q and H of another.
abbrev pub with_six_of : (other w : StoreyWall) → StoreyWall
with_six_of other w =
    let loads = with_imposed (with_dead w other.dead) other.imposed in
    let spanned = with_span (with_strength loads other.strength) other.span in
    with_building (with_floor_load spanned other.floorload) other.building

abbrev pub same_numbers : List ℕ → List ℕ → Bool
same_numbers [] [] = true
same_numbers [] (m ∷ ms) = false
same_numbers (n ∷ ns) [] = false
same_numbers (n ∷ ns) (m ∷ ms) = eqb n m && same_numbers ns ms

-- "another number differs": "agree except in G, Q, F, L, q, H"
unfoldable pub another_differs : (low high : StoreyWall) → Bool
another_differs low high = not (same_numbers (numbers (with_six_of high low)) (numbers high))

-- "L with M above 0 included": "Where M isn't 0, L must agree too."
unfoldable pub two_way_span_differs : (low high : StoreyWall) → Bool
two_way_span_differs low high = ltb 0 low.otherspan && not (eqb low.span high.span)

-- 25: "when a low value is above its high value or another number differs, L with M above 0 included"
unfoldable pub not_low_and_high : (low high : StoreyWall) → Bool
not_low_and_high low high = low_above_high low high || another_differs low high || two_way_span_differs low high

-- "A line that document 01 refuses as 1 or 2 is refused so here, low record first"; 1 is about a line, and stands with the entries. Then 25.
abbrev pub refusals : (low high : StoreyWall) → List (ℕ × Bool)
refusals low high =
    (2, not (in_range low))
    ∷ (2, not (in_range high))
    ∷ (25, not_low_and_high low high)
    ∷ []

abbrev pub accepted : StoreyWall → Bool
accepted wall = eqb (StoreyCheck.check wall).refusal 0

-- "1 if every record between them is accepted, 2 if none is, 3 otherwise"
unfoldable pub answer : (low high : StoreyWall) → RangeAnswer
answer low high =
    cond (every_record low high accepted) AllAccepted (cond (every_record low high (λ wall. not (accepted wall))) NoneAccepted SomeAccepted)

-- What is answered of any two records: the first refusal that applies, or the answer.
abbrev pub check : (low high : StoreyWall) → Result RangeAnswer ℕ
check low high = first_or Err (refusals low high) (Ok (answer low high))

-- The numbers of the answers.
abbrev pub number_of_answer : RangeAnswer → ℕ
number_of_answer AllAccepted = 1
number_of_answer NoneAccepted = 2
number_of_answer SomeAccepted = 3

-- Refusal and answer as two numbers: "a refusal stands with 0 in place of the 1, 2 or 3".
abbrev pub range_result : Result RangeAnswer ℕ → RangeResult
range_result (Ok given) = record { refusal = 0; answer = number_of_answer given }
range_result (Err refusal) = record { refusal = refusal; answer = 0 }
