-- Document 02, #107: "Store lines, each ended by byte 10, in blocks of 512 bytes." A block is a list of bytes.
use Rattle.std.specs.Prelude.{ℕ, ◌+◌, ◌-◌, ◌*◌, ◌/◌, ◌%◌, Bool, ◌&&◌, ◌||◌, cond, List, [], ◌∷◌, ◌++◌, eqb, leb, length, get_or, take, drop, replicate, sum, Result, Ok, Err}
use Rattle.std.specs.List.{list_all}

-- ".. low byte first": a number below 65536 in two bytes, and the number of the two bytes at a place.
unfoldable pub two_bytes : ℕ → List ℕ
two_bytes n = n % 256 ∷ n / 256 ∷ []

unfoldable pub number_at : ℕ → List ℕ → ℕ
number_at place block = get_or block place 0 + 256 * get_or block (place + 1) 0

-- ── the block that holds some lines ──
-- "Bytes 0 and 1 hold the number of bytes used, at most 508 .. Bytes 2 and 3 hold the sum of all other bytes of the block modulo 65536 .. Lines follow
-- from byte 4, whole, the remainder zero."
unfoldable pub block_of : List ℕ → List ℕ
block_of lines =
    let count = two_bytes (length lines) in
    let rest = lines ++ replicate (508 - length lines) 0 in
    count ++ (two_bytes ((sum count + sum rest) % 65536) ++ rest)

-- ── what a block yields ──
unfoldable pub used : List ℕ → ℕ
used block = number_at 0 block

unfoldable pub sum_of_others : List ℕ → ℕ
sum_of_others block = (sum (take 2 block) + sum (drop 4 block)) % 65536

unfoldable pub used_part : List ℕ → List ℕ
used_part block = take (used block) (drop 4 block)

unfoldable pub remainder : List ℕ → List ℕ
remainder block = drop (4 + used block) block

-- Whole lines, or none: bytes that are not "nonempty and [don't] end in byte 10".
unfoldable pub whole_lines : List ℕ → Bool
whole_lines bytes = eqb (length bytes) 0 || eqb (get_or bytes (length bytes - 1) 0) 10

-- Length, count, sum and remainder are right, and the used part is whole lines.
unfoldable pub valid : List ℕ → Bool
valid block =
    eqb (length block) 512
    && (leb (used block) 508
    && (eqb (number_at 2 block) (sum_of_others block)
    && (list_all (λ byte. eqb byte 0) (remainder block)
    && whole_lines (used_part block))))

-- "The reader takes a block alone, also one filled less tightly, and yields exactly its used part. 23 when a block has a wrong length, count, sum or
-- remainder, or its used part is nonempty and doesn't end in byte 10, and it then yields nothing".
unfoldable pub read_block : List ℕ → Result (List ℕ) ℕ
read_block block = cond (valid block) (Ok (used_part block)) (Err 23)
