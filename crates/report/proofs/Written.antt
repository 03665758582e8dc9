-- Laws of what a writer leaves.
use Prim.Native.Nat.{ℕ, ◌≤◌, ◌<◌}
use native.Mathlib.Omega.{arith}
use mathlib.Core.List.{List}
use mathlib.Core.Path.{◌≡◌, sym, ◌∙◌}
use lib.ListN.{length}
use borrow.Author.Tests.{le-leb, lt-leb}
use Rattle.basis.specs.declared.CheckResult.{CheckResult}
use Rattle.buffer.specs.Overwrite.{overwrite}
use Rattle.buffer.proofs.Overwrite.{overwrite_beyond}
use Rattle.report.specs.Text.{result_text}
use Rattle.report.specs.Written.{Written, text_written, written}

pub text_count : (text l : List ℕ) → length text ≤ length l → (text_written text l).count ≡ length text
text_count text l fits = rw (le-leb (length text) (length l) fits)

-- The text is in place and its length is returned; or it does not fit.
pub text_fits_in :
    (text l : List ℕ) {out : List ℕ} {count : ℕ} → length text ≤ length l → out ≡ overwrite l 0 text → count ≡ length text
    → ◌≡◌ {A = Written} (record { buffer = out; count = count }) (text_written text l)
text_fits_in text l fits buffer count = λ i. record { buffer = buffer i; count = (count ∙ sym (text_count text l fits)) i }

pub text_beyond : (text l : List ℕ) → length l < length text → ◌≡◌ {A = Written} (record { buffer = l; count = 0 }) (text_written text l)
text_beyond text l beyond =
    rw (lt-leb (length text) (length l) beyond)
    (λ i. record { buffer = sym (overwrite_beyond l 0 text (omega arith)) i; count = 0 })

pub written_count : (r : CheckResult) (l : List ℕ) → length (result_text r) ≤ length l → (written r l).count ≡ length (result_text r)
written_count r l fits = text_count (result_text r) l fits
