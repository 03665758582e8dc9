-- Proofs of the claims: block lines are read exactly, and a run that keeps little chooses as for the whole input.
use Rattle.std.proofs.Common.{Option, Some, None}
use Prim.Native.Nat.{ℕ, suc, ◌+◌, ◌*◌, ◌/◌, ◌%◌, ◌^◌, ◌≤◌, ◌<◌, min}
use mathlib.Core.Bool.{Bool, true, false, cond, not}
use mathlib.Core.List.{List, [], ◌∷◌, ◌++◌, append_assoc, append-nil}
use mathlib.Core.Path.{◌≡◌, ◌∙◌, refl, sym, ap, ap₂}
use Rattle.basis.proofs.Choice.{and_left, and_right}
use lib.Seq.{drop-cons, drop-length, take-append_seam, take-append-add, drop-append_seam, drop-append-add}
use Rattle.std.proofs.lemmas.List.{take-append-drop, take_all, take_min}
use Rattle.std.proofs.lemmas.List.Quantifiers.{position-Some}
use native.Mathlib.Decide.{dec_le}
use native.Mathlib.Nat.{add_assoc}
use native.Mathlib.Omega.{arith}
use lib.Dec.{eqb}
use lib.ListN.{length, take, drop, get_or, length-append, length-take}
use borrow.Author.Tests.{ne_eqb, eqb-true, lt-ltb}
use Rattle.std.specs.List.{position, position_or_len, list_all}
use Rattle.std.proofs.lemmas.Option.{none-some, same_Some}
use Rattle.text.specs.LineEnd.{ended, line_length, in_front, lines_of}
use Rattle.text.proofs.LineEnd.{ended_cases, line_cases, unended_take, line_length_append, line_length_unended, line_length_line}
use Rattle.text.specs.Decimal.{decimal}
use Rattle.text.proofs.Decimal.{by_digits, decimal_digit, decimal_more, decimal_length_bound}
use Rattle.walls.specs.declared.Wall.{Wall}
use Rattle.line.specs.Reading.{read_line}
use Rattle.line.proofs.LongLine.{long_line_unread}
use Rattle.selection.specs.declared.Block.{Block}
use Rattle.selection.specs.Choice.{refused}
use Rattle.wallcheck.specs.BlockChoice.{choice_read}
use Rattle.block_list.specs.Reading.{block_of, parted, read_number, read_block, with_block, read_blocks}
use Rattle.block_list.specs.Choice.{choice_listed, choice_of_text}
use Rattle.block_list.specs.Keeping.{kept_of}
use Rattle.block_list.specs.Claims.{block_line, BlockReadExactly, Run, stops, reads, RunChooses, LittleIsKept}
use Rattle.block_list.proofs.Choosing.{choice_too_long, choice_parted}
use Rattle.block_list.proofs.Keeping.{take_take}
use Rattle.block_list.proofs.Number.{number_read_exactly}

pub little_is_kept : LittleIsKept
unfolding kept_of
little_is_kept bytes = rw (length-append, length-take, length-take) (omega arith)

-- ---- the line of a block

-- No digit is the space, so the space is found behind F.
abbrev is_space : ℕ → Bool
is_space byte = eqb byte 32

abbrev no_space : List ℕ → Bool
no_space bytes = list_all (λ byte. not (is_space byte)) bytes

no_space_append : (a b : List ℕ) → no_space a ≡ true → no_space b ≡ true → no_space (a ++ b) ≡ true
no_space_append [] b none none' = none'
no_space_append (byte ∷ a) b none none' =
    rw (and_left (not (is_space byte)) (no_space a) none) (no_space_append a b (and_right (not (is_space byte)) (no_space a) none) none')

digits_no_space : (n : ℕ) → no_space (decimal n) ≡ true
digits_no_space =
    by_digits (λ n. no_space (decimal n) ≡ true)
    (λ n one. rw (decimal_digit n one, ne_eqb (48 + n) 32 (λ e. omega arith)) refl)
    (λ n more tenth. rw (decimal_more n more) (no_space_append (decimal (n / 10)) ((48 + n % 10) ∷ []) tenth (rw (ne_eqb (48 + n % 10) 32 (λ e. omega arith)) refl)))

space_behind : (a b : List ℕ) → no_space a ≡ true → position_or_len is_space (a ++ 32 ∷ b) ≡ length a
space_behind [] b none = refl
space_behind (byte ∷ a) b none =
    rw (and_left (not (is_space byte)) (no_space a) none) (omega (arith, space_behind a b (and_right (not (is_space byte)) (no_space a) none)))

-- Bytes up to a byte, that byte, and those behind it.
parts_at : (l : List ℕ) (place : ℕ) → place < length l → get_or l place 0 ≡ 32 → l ≡ take place l ++ 32 ∷ drop (place + 1) l
parts_at l place within is =
    let next : suc place ≡ place + 1 = omega arith in
    sym (take-append-drop place l)
    ∙ ap (λ (rest : List ℕ). take place l ++ rest) (drop-cons l place 0 within ∙ ap₂ (λ (byte n : ℕ). byte ∷ drop n l) is next)

both_read : (F price : Option ℕ) (block : Block) → block_of F price ≡ Some block → (F ≡ Some block.strength) × (price ≡ Some block.price)
both_read (Some F) (Some price) block is =
    let same = same_Some (record { strength = F; price = price }) block is in
    (ap (λ (b : Block). Some b.strength) same, ap (λ (b : Block). Some b.price) same)
both_read (Some F) None block is = absurd (none-some block is)
both_read None price block is = absurd (none-some block is)

pub block_read_exactly : BlockReadExactly
unfolding read_block
block_read_exactly line block = (
  (λ is. from (position is_space line) refl is),
  (λ all. to all.0 all.1 all.2),
)
  where
    from : (space : Option ℕ) → position is_space line ≡ space → parted line space ≡ Some block →
        (block.strength < 10 ^ 9) × (block.price < 10 ^ 9) × (line ≡ block_line block)
    from (Some place) at is =
        let found = position-Some is_space line place 0 at in
        let numbers = both_read (read_number (take place line)) (read_number (drop (place + 1) line)) block is in
        let F = (number_read_exactly (take place line) block.strength).0 numbers.0 in
        let price = (number_read_exactly (drop (place + 1) line) block.price).0 numbers.1 in (
          F.0,
          price.0,
          parts_at line place found.0 (eqb-true _ 32 found.1) ∙ ap₂ (λ (a b : List ℕ). a ++ 32 ∷ b) F.1 price.1,
        )
    from None at is = absurd (none-some block is)

    to : block.strength < 10 ^ 9 → block.price < 10 ^ 9 → line ≡ block_line block → parted line (position is_space line) ≡ Some block
    to F price is =
        let digits = decimal block.strength in
        let found = space_behind digits (decimal block.price) (digits_no_space block.strength) in
        let within : length digits < length (digits ++ 32 ∷ decimal block.price) = rw length-append (omega arith) in
        let at : position is_space (digits ++ 32 ∷ decimal block.price) ≡ Some (length digits) = rw (found, lt-ltb _ _ within) refl in
        ap (λ (l : List ℕ). parted l (position is_space l)) is
        ∙ ap (parted (digits ++ 32 ∷ decimal block.price)) at
        ∙ ap₂ (λ (a b : List ℕ). block_of (read_number a) (read_number b)) (take-append_seam digits (32 ∷ decimal block.price)) (drop-append-add digits (32 ∷ decimal block.price) 1)
        ∙ ap₂ block_of ((number_read_exactly digits block.strength).1 (F, refl)) ((number_read_exactly (decimal block.price) block.price).1 (price, refl))

-- ---- a list of too many bytes has too many blocks, or a line that is none

block_line_length : (line : List ℕ) (block : Block) → read_block line ≡ Some block → length line ≤ 19
block_line_length line block is =
    let exactly = (block_read_exactly line block).0 is in
    omega (
      arith,
      ap length exactly.2,
      length-append (decimal block.strength) (32 ∷ decimal block.price),
      decimal_length_bound 8 block.strength exactly.0,
      decimal_length_bound 8 block.price exactly.1,
    )

-- The bytes of lines with their ends.
abbrev bytes_of : List (List ℕ) → ℕ
bytes_of [] = 0
bytes_of (line ∷ lines) = length line + 1 + bytes_of lines

bytes_in_front : (byte : ℕ) (lines : List (List ℕ)) → bytes_of lines + 1 ≤ bytes_of (in_front byte lines)
unfolding in_front
bytes_in_front byte [] = omega arith
bytes_in_front byte (line ∷ lines) = omega arith

bytes_of_lines : (text : List ℕ) → length text ≤ bytes_of (lines_of text)
unfolding lines_of
bytes_of_lines [] = omega arith
bytes_of_lines (byte ∷ bytes) = go (eqb byte 10) (bytes_of_lines bytes)
  where
    go : (ends : Bool) → length bytes ≤ bytes_of (lines_of bytes) → suc (length bytes) ≤ bytes_of (cond ends ([] ∷ lines_of bytes) (in_front byte (lines_of bytes)))
    go true most = omega (arith, most)
    go false most = omega (arith, most, bytes_in_front byte (lines_of bytes))

bytes_of_blocks : (lines : List (List ℕ)) (blocks : List Block) → read_blocks lines ≡ Some blocks → bytes_of lines ≤ 20 * length blocks
unfolding read_blocks
bytes_of_blocks [] blocks is = omega arith
bytes_of_blocks (line ∷ lines) blocks is = go (read_block line) refl (read_blocks lines) (bytes_of_blocks lines) is
  where
    go : (first : Option Block) → read_block line ≡ first → (others : Option (List Block)) →
        ((blocks : List Block) → others ≡ Some blocks → bytes_of lines ≤ 20 * length blocks) → with_block first others ≡ Some blocks →
        length line + 1 + bytes_of lines ≤ 20 * length blocks
    go (Some block) read (Some rest) most is =
        omega (arith, block_line_length line block read, most rest refl, ap length (same_Some (block ∷ rest) blocks is))
    go (Some block) read None most is = absurd (none-some blocks is)
    go None read others most is = absurd (none-some blocks is)

long_list_refused : (line list : List ℕ) → 1280 < length list → choice_listed line (read_blocks (lines_of list)) ≡ refused 26
long_list_refused line list long =
    choice_too_long line (read_blocks (lines_of list))
    (λ blocks is. omega (arith, long, bytes_of_lines list, bytes_of_blocks (lines_of list) blocks is))

-- ---- the choice does not depend on what is not kept

-- A record's line may be cut behind 201 bytes: it is none of the form then, as it was.
same_record : (a rest : List ℕ) → read_line (take 201 a ++ rest) ≡ read_line (a ++ rest)
same_record a rest = go (dec_le (length a) 201)
  where
    go : Dec (length a ≤ 201) → read_line (take 201 a ++ rest) ≡ read_line (a ++ rest)
    go (yes short) = ap (λ (l : List ℕ). read_line (l ++ rest)) (take_all 201 a short)
    go (no long) =
        long_line_unread (take 201 a ++ rest) (rw (length-append, length-take) (omega (arith, long)))
        ∙ sym (long_line_unread (a ++ rest) (rw length-append (omega (arith, long))))

-- So may the list behind 1281 bytes: there are too many then.
same_list : (line list more : List ℕ) → choice_listed line (read_blocks (lines_of (take 1281 list ++ more))) ≡ choice_listed line (read_blocks (lines_of (list ++ more)))
same_list line list more = go (dec_le (length list) 1281)
  where
    go : Dec (length list ≤ 1281) → choice_listed line (read_blocks (lines_of (take 1281 list ++ more))) ≡ choice_listed line (read_blocks (lines_of (list ++ more)))
    go (yes short) = ap (λ (l : List ℕ). choice_listed line (read_blocks (lines_of (l ++ more)))) (take_all 1281 list short)
    go (no long) =
        long_list_refused line (take 1281 list ++ more) (rw (length-append, length-take) (omega (arith, long)))
        ∙ sym (long_list_refused line (list ++ more) (rw length-append (omega (arith, long))))

-- The choice, where bytes without byte 10 stand first.
choice_behind : (a more : List ℕ) → ended a ≡ false →
    choice_of_text (a ++ more) ≡ choice_listed (a ++ take (line_length more) more) (read_blocks (lines_of (drop (line_length more + 1) more)))
choice_behind a more unended =
    let size = line_length_append a more unended in
    choice_parted (a ++ more)
    ∙ ap (λ (n : ℕ). choice_listed (take n (a ++ more)) (read_blocks (lines_of (drop (n + 1) (a ++ more))))) size
    ∙ ap₂ (λ (line list : List ℕ). choice_listed line (read_blocks (lines_of list)))
    (take-append-add a more (line_length more))
    (ap (λ (n : ℕ). drop n (a ++ more)) (add_assoc (length a) (line_length more) 1) ∙ drop-append-add a more (line_length more + 1))

choice_of_line : (line list : List ℕ) → ended line ≡ false → choice_of_text (line ++ 10 ∷ list) ≡ choice_listed (line ++ []) (read_blocks (lines_of list))
unfolding line_length
choice_of_line line list unended = choice_behind line (10 ∷ list) unended

same_record_choice : (a rest : List ℕ) (read : Option (List Block)) → choice_listed (take 201 a ++ rest) read ≡ choice_listed (a ++ rest) read
same_record_choice a rest (Some blocks) = ap (λ (r : Option Wall). choice_read r blocks) (same_record a rest)
same_record_choice a rest None = refl

-- Of bytes without byte 10 the first 201 are kept.
kept_unended : (bytes : List ℕ) → ended bytes ≡ false → kept_of bytes ≡ take 201 bytes
unfolding kept_of
kept_unended bytes unended =
    let size = line_length_unended bytes unended in
    let few : min (length bytes) 201 ≡ min 201 (length bytes) = omega arith in
    ap (λ (n : ℕ). take (min n 201) bytes ++ take 1282 (drop n bytes)) size
    ∙ ap₂ (λ (a b : List ℕ). a ++ take 1282 b) (ap (λ (n : ℕ). take n bytes) few ∙ take_min 201 bytes) (drop-length bytes)
    ∙ append-nil (take 201 bytes)

-- Of a line, its end and what follows, the first 201 bytes of the line and 1281 of what follows.
kept_line : (line rest : List ℕ) → ended line ≡ false → kept_of (line ++ 10 ∷ rest) ≡ take 201 line ++ 10 ∷ take 1281 rest
unfolding kept_of
kept_line line rest unended =
    let size = line_length_line line rest unended in
    let cut : take (min (length line) 201) (line ++ 10 ∷ rest) ≡ take 201 line =
    sym (take_take (length line) 201 (min (length line) 201) (line ++ 10 ∷ rest) refl) ∙ ap (take 201) (take-append_seam line (10 ∷ rest)) in
    ap (λ (n : ℕ). take (min n 201) (line ++ 10 ∷ rest) ++ take 1282 (drop n (line ++ 10 ∷ rest))) size
    ∙ ap₂ (λ (a b : List ℕ). a ++ take 1282 b) cut (drop-append_seam line (10 ∷ rest))

keeps_choice : (bytes more : List ℕ) → choice_of_text (kept_of bytes ++ more) ≡ choice_of_text (bytes ++ more)
keeps_choice bytes more =
    ended_cases (choice_of_text (kept_of bytes ++ more) ≡ choice_of_text (bytes ++ more)) bytes
    (λ is. line_cases (λ l. choice_of_text (kept_of l ++ more) ≡ choice_of_text (l ++ more)) whole bytes is)
    unended
  where
    whole : (line rest : List ℕ) → ended line ≡ false → choice_of_text (kept_of (line ++ 10 ∷ rest) ++ more) ≡ choice_of_text ((line ++ 10 ∷ rest) ++ more)
    whole line rest isnt =
        ap (λ (l : List ℕ). choice_of_text (l ++ more)) (kept_line line rest isnt)
        ∙ ap choice_of_text (append_assoc (take 201 line) (10 ∷ take 1281 rest) more)
        ∙ choice_of_line (take 201 line) (take 1281 rest ++ more) (unended_take line 201 isnt)
        ∙ same_record_choice line [] (read_blocks (lines_of (take 1281 rest ++ more)))
        ∙ same_list (line ++ []) rest more
        ∙ sym (choice_of_line line (rest ++ more) isnt)
        ∙ ap choice_of_text (sym (append_assoc line (10 ∷ rest) more))

    unended : ended bytes ≡ false → choice_of_text (kept_of bytes ++ more) ≡ choice_of_text (bytes ++ more)
    unended isnt =
        ap (λ (l : List ℕ). choice_of_text (l ++ more)) (kept_unended bytes isnt)
        ∙ choice_behind (take 201 bytes) more (unended_take bytes 201 isnt)
        ∙ same_record_choice bytes (take (line_length more) more) (read_blocks (lines_of (drop (line_length more + 1) more)))
        ∙ sym (choice_behind bytes more isnt)

run_keeps : {held input rest : List ℕ} → Run held input rest → choice_of_text rest ≡ choice_of_text (held ++ input)
run_keeps {held = held} stops = ap choice_of_text (sym (append-nil held))
run_keeps {held = held} (reads {input = input} piece run) =
    run_keeps run ∙ keeps_choice (held ++ piece) input ∙ ap choice_of_text (append_assoc held piece input)

pub run_chooses : RunChooses
run_chooses input rest run = run_keeps run
