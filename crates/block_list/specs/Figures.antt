-- Inputs of the program `choose` and its answers.
use Rattle.std.specs.Prelude.{List, [], ◌∷◌, ◌≡◌}
use mathlib.Core.List.{flat_map}
use Prim.Native.String.{String}
use Rattle.text.specs.Quoted.{bytes}
use Rattle.block_list.specs.Choice.{choice_of_text, choice_text}

abbrev pub Answers : List String → String → Type 0
Answers input answer = choice_text (choice_of_text (flat_map bytes input)) ≡ bytes answer

abbrev pub WorkedTexts : Type 0
WorkedTexts =
    -- K, the last line without its end
    Answers ("C 365 2500 2000 6000 20000 500 0 40000 10000 5000\n" ∷ "179 1\n" ∷ "180 3\n" ∷ "200 2" ∷ []) "0 3 3\n"
    -- none is accepted
    × Answers ("C 365 2500 2000 6000 20000 500 0 40000 10000 5000\n" ∷ "179 1\n" ∷ []) "27 0 1\n"
    -- a block line that is not two numbers: two spaces, a leading 0, ten digits, no number
    × Answers ("C 365 2500 2000 6000 20000 500 0 40000 10000 5000\n" ∷ "180  3\n" ∷ []) "26 0 0\n"
    × Answers ("C 365 2500 2000 6000 20000 500 0 40000 10000 5000\n" ∷ "0180 3\n" ∷ []) "26 0 0\n"
    × Answers ("C 365 2500 2000 6000 20000 500 0 40000 10000 5000\n" ∷ "180 1000000000\n" ∷ []) "26 0 0\n"
    × Answers ("C 365 2500 2000 6000 20000 500 0 40000 10000 5000\n" ∷ "180 3\n" ∷ "\n" ∷ []) "26 0 0\n"
    -- a record's line that is none, with blocks and without
    × Answers ("C 365\n" ∷ "180 3\n" ∷ []) "1 0 0\n"
    × Answers ("C 365\n" ∷ []) "26 0 0\n"
    × Answers [] "26 0 0\n"
