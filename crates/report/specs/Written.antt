-- What the writer leaves in a lent buffer, and what it returns.
use Rattle.std.specs.Prelude.{ℕ, cond, List, leb, length}
use Rattle.basis.specs.declared.CheckResult.{CheckResult}
use Rattle.buffer.specs.Overwrite.{overwrite}
use Rattle.report.specs.Text.{result_text}

pub record Written : Type 0 where
  pub buffer : List ℕ
  pub count : ℕ

-- The buffer with the text from its first byte on, "bytes after that are untouched", and the text's length. Where the text does not fit,
-- the buffer as it was, and 0.
abbrev pub text_written : (text buffer : List ℕ) → Written
text_written text buffer = record { buffer = overwrite buffer 0 text; count = cond (leb (length text) (length buffer)) (length text) 0 }

abbrev pub written : CheckResult → List ℕ → Written
written r buffer = text_written (result_text r) buffer
