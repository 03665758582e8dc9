-- For the program `unpack`, which document 02 does not speak of: the lines of the blocks at hand, up to the first that is refused.
use Rattle.std.specs.Prelude.{ℕ, zero, suc, ◌/◌, ◌≤◌, true, cond, List, [], ◌++◌, ◌≡◌, length, take, drop}
use Rattle.buffer.specs.Overwrite.{overwrite}
use Rattle.archive.specs.declared.Unpacked.{Unpacked}
use Rattle.archive.specs.Block.{valid, used_part}
use Rattle.archive.specs.Packing.{storable, contents, archive_of}

-- How many of the first `most` blocks yield, up to the first that is refused. A last piece under 512 bytes is.
unfoldable pub yielding : ℕ → List ℕ → ℕ
yielding zero archive = 0
yielding (suc most) archive = cond (valid (take 512 archive)) (suc (yielding most (drop 512 archive))) 0

-- What so many blocks yield, one behind the other.
unfoldable pub yielded : ℕ → List ℕ → List ℕ
yielded zero archive = []
yielded (suc blocks) archive = used_part (take 512 archive) ++ yielded blocks (drop 512 archive)

-- What `unpack` hands back and leaves in the buffer: as many blocks as it surely has room for.
pub record UnpackedInto : Type 0 where
  pub unpacked : Unpacked
  pub buffer : List ℕ

unfoldable pub unpacked_into : List ℕ → List ℕ → UnpackedInto
unpacked_into archive buffer =
    let blocks = yielding (length buffer / 512) archive in
    record {
      unpacked = record { blocks = blocks; written = length (yielded blocks archive) };
      buffer = overwrite buffer 0 (yielded blocks archive);
    }

-- Of the archive of a text every block yields, and together they yield the text.
abbrev pub UnpackedIsText : Type 0
UnpackedIsText =
    (text : List ℕ) → storable text ≡ true → (most : ℕ) → length (contents text) ≤ most
    → (yielding most (archive_of text) ≡ length (contents text)) × (yielded (length (contents text)) (archive_of text) ≡ text)
