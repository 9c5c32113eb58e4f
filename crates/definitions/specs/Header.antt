-- A block's header: 24 bytes, little-endian.
use Rattle.std.specs.Prelude.{ℕ, List, ◌++◌}
use Rattle.definitions.specs.Reply.{Reply, Outcome, answer, needing, writing}
use Rattle.definitions.specs.Bytes.{u32_at, u64_at, le}

-- any four bytes are an id, kept as the number that they stand for
pub record Header : Type 0 where
  pub id : ℕ
  pub reserved : ℕ
  pub block_length : ℕ
  pub link_count : ℕ

abbrev pub header_in : List ℕ → Header
header_in s = record { id = u32_at s 0; reserved = u32_at s 4; block_length = u64_at s 8; link_count = u64_at s 16 }

-- under 24 bytes: 2
unfoldable pub header_of : List ℕ → Reply Header
header_of s = needing s 24 (answer (header_in s))

-- and back; 6 without the room
unfoldable pub header_bytes : Header → List ℕ
header_bytes h = le 4 h.id ++ le 4 h.reserved ++ le 8 h.block_length ++ le 8 h.link_count

unfoldable pub header_written : List ℕ → Header → Outcome ℕ
header_written out h = writing out (header_bytes h) 24
