-- Document 01's whole case: "A; A with support 2 and L=6000; A with G=200000; K; `S 175` print ..". Document 02, #103: "Example A then has N 210000
-- and spare 142425, with support 2 and L=6000 spare 87500; the other lines of the whole case keep their numbers."
use mathlib.Core.List.{[], ◌∷◌, flat_map}
use Rattle.std.specs.Prelude.{◌≡◌}
use Rattle.text.specs.Quoted.{bytes}
use Rattle.lines.specs.Output.{output_of}

abbrev pub WholeCase : Type 0
WholeCase =
    output_of (flat_map bytes (
    "S 1 175 2625 5000 2 0 1 5000 175 500 0 60000 90000 2250 9000 3 0 0 0\n"
    ∷ "S 1 175 2625 5000 2 0 2 6000 175 500 0 60000 90000 2250 9000 3 0 0 0\n"
    ∷ "S 1 175 2625 5000 2 0 1 5000 175 500 0 200000 90000 2250 9000 3 0 0 0\n"
    ∷ "C 365 2500 2000 6000 20000 500 0 40000 10000 5000\n"
    ∷ "S 175\n"
    ∷ []))
    ≡ flat_map bytes (
    "0 19688 210000 352425 142425\n"
    ∷ "0 19688 210000 297500 87500\n"
    ∷ "13 19688 405000 352425 -52575\n"
    ∷ "0 27398 69000 344722 275722\n"
    ∷ "1 0 0 0 0\n"
    ∷ [])
