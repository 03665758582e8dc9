-- The text read back.
use Rattle.std.specs.Prelude.{ℕ, ◌+◌, ◌-◌, ◌*◌, ◌≤◌, cond, List, [], ◌∷◌, ◌++◌, ◌≡◌, eqb, ℤ, pos, neg_ℤ, length, get_or, drop}
use Rattle.basis.specs.declared.CheckResult.{CheckResult}
use Rattle.report.specs.Text.{result_text}
use Rattle.report.specs.Written.{written}

-- The number whose digits stand before the next byte `stop`, and the bytes behind that byte. `value` is the number read so far.
unfoldable pub read_number : ℕ → ℕ → List ℕ → ℕ × List ℕ
read_number stop value [] = (value, [])
read_number stop value (byte ∷ rest) = cond (eqb byte stop) (value, rest) (read_number stop (10 * value + (byte - 48)) rest)

-- The same, negative where a minus sign stands first.
unfoldable pub read_signed : ℕ → List ℕ → ℤ
read_signed stop text =
    cond (eqb (get_or text 0 0) 45) (neg_ℤ (pos (read_number stop 0 (drop 1 text)).0)) (pos (read_number stop 0 text).0)

unfoldable pub read_result : List ℕ → CheckResult
read_result text =
    let refusal = read_number 32 0 text in
    let second = read_number 32 0 refusal.1 in
    let load = read_number 32 0 second.1 in
    let resistance = read_number 32 0 load.1 in
    record {
      refusal = refusal.0;
      second = second.0;
      load = load.0;
      resistance = resistance.0;
      spare = read_signed 10 resistance.1;
    }

-- The text of every result gives its five numbers back, whatever lies behind the text.
abbrev pub TextReadsBack : Type 0
TextReadsBack = (r : CheckResult) (behind : List ℕ) → read_result (result_text r ++ behind) ≡ r

-- So does a buffer that the text fits, once it is written there.
abbrev pub BufferReadsBack : Type 0
BufferReadsBack = (r : CheckResult) (buffer : List ℕ) → length (result_text r) ≤ length buffer → read_result (written r buffer).buffer ≡ r
