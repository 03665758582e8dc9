-- The text and the buffer read back: read byte by byte, the digits of n make n again, since n is ten times its tenth part and its last digit.
use Prim.Native.Nat.{ℕ, suc, ◌+◌, ◌*◌, ◌/◌, ◌%◌, ◌≤◌, ◌<◌}
use native.Mathlib.Omega.{arith}
use mathlib.Core.List.{List, ◌∷◌, ◌++◌, append_assoc}
use mathlib.Core.Path.{◌≡◌, refl, ap, ◌∙◌}
use lib.Dec.{lit<}
use lib.IntN.{ℤ, pos, negsuc, neg_ℤ}
use lib.ListN.{length, get_or, drop}
use borrow.Author.Tests.{eq-eqb, ne_eqb}
use Rattle.buffer.proofs.Overwrite.{overwrite_start}
use Rattle.text.specs.Decimal.{decimal}
use Rattle.report.specs.Text.{signed, result_text}
use Rattle.report.specs.Reading.{read_number, read_signed, read_result, TextReadsBack, BufferReadsBack}
use Rattle.report.proofs.Text.{text_in_order, append_cons}
use Rattle.text.proofs.Decimal.{by_digits, decimal_digit, decimal_more}

-- ── a number ──
read_number_digit : (stop value digit : ℕ) (rest : List ℕ) → stop < 48 → read_number stop value ((48 + digit) ∷ rest) ≡ read_number stop (10 * value + digit) rest
unfolding read_number
read_number_digit stop value digit rest h =
    rw (ne_eqb (48 + digit) stop (omega arith)) (ap (λ v. read_number stop (10 * value + v) rest) (omega arith))

read_number_digits : (stop : ℕ) → stop < 48 → (n : ℕ) (rest : List ℕ) → read_number stop 0 (decimal n ++ rest) ≡ read_number stop n rest
read_number_digits stop h =
    by_digits (λ n. (rest : List ℕ) → read_number stop 0 (decimal n ++ rest) ≡ read_number stop n rest)
    (λ n one rest. rw (decimal_digit n one) (read_number_digit stop 0 n rest h ∙ ap (λ v. read_number stop v rest) (omega arith)))
    (λ n more tenth rest.
    rw (decimal_more n more, append_assoc)
    (tenth ((48 + n % 10) ∷ rest) ∙ read_number_digit stop (n / 10) (n % 10) rest h ∙ ap (λ v. read_number stop v rest) (omega arith)))

read_number_text : (stop : ℕ) → stop < 48 → (n : ℕ) (rest : List ℕ) → read_number stop 0 (decimal n ++ stop ∷ rest) ≡ (n, rest)
unfolding read_number
read_number_text stop h n rest = read_number_digits stop h n (stop ∷ rest) ∙ rw (eq-eqb stop stop refl)

-- ── a signed number ──
decimal_head : (n : ℕ) (rest : List ℕ) → 48 ≤ get_or (decimal n ++ rest) 0 0
decimal_head =
    by_digits (λ n. (rest : List ℕ) → 48 ≤ get_or (decimal n ++ rest) 0 0)
    (λ n one rest. rw (decimal_digit n one) (omega arith)) (λ n more tenth rest. rw (decimal_more n more, append_assoc) (tenth _))

read_signed_text : (stop : ℕ) → stop < 45 → (z : ℤ) (rest : List ℕ) → read_signed stop (signed z ++ stop ∷ rest) ≡ z
unfolding read_signed signed
read_signed_text stop h (pos n) rest =
    rw (ne_eqb (get_or (decimal n ++ stop ∷ rest) 0 0) 45 (omega (arith, decimal_head n (stop ∷ rest))), read_signed)
    (ap (λ r. pos r.0) (read_number_text stop (omega arith) n rest))
read_signed_text stop h (negsuc n) rest = ap (λ r. neg_ℤ (pos r.0)) (read_number_text stop (omega arith) (suc n) rest)

-- ── the result ──
pub text_reads_back : TextReadsBack
unfolding read_result
text_reads_back r behind = rw text_in_order (simp append_cons (simp (read_number_text 32 (lit< tt), read_signed_text 10 (lit< tt))))

pub buffer_reads_back : BufferReadsBack
buffer_reads_back r buffer fits = ap read_result (overwrite_start buffer (result_text r) fits) ∙ text_reads_back r (drop (length (result_text r)) buffer)
