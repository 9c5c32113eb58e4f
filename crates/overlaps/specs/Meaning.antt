-- What the code's own types mean in the definitions, and what the contracts cite beside these.
use Rattle.std.specs.Prelude.{ℕ, ◌+◌, ◌-◌, ◌*◌, ◌/◌, ◌%◌, ◌≤◌, ◌<◌, min, max, ◌≡◌, Bool, not, ltb, Option, Some, None, Result}
use Rattle.definitions.specs.Reply.{Reply}
use Rattle.definitions.specs.Bytes.{Order, bytes_for}
use Rattle.definitions.specs.DataType.{unsigned_integer, order_of}
use Rattle.definitions.specs.Channel.{Channel, bit_place, is_sound_number}
use Rattle.definitions.specs.Overlap.{share_a_bit, Overlap, pair, none}
use Rattle.definitions.proofs.Shared.{Within}
use Rattle.refusals.specs.Meaning.{replied}
use Rattle.refusals.specs.declared.Refusal.{Refusal}
use Rattle.fields.specs.Form.{order_meant}
use Rattle.overlaps.specs.declared.answer.Pair.{Pair}
use Rattle.overlaps.specs.declared.place.FieldPlace.{FieldPlace}
use Rattle.overlaps.specs.declared.run.Run.{Run}

abbrev pub found_meant : Option Pair → Overlap
found_meant (Some p) = pair p.first p.second
found_meant None = none

abbrev pub overlap_reply : Result (Option Pair) Refusal → Reply Overlap
overlap_reply = replied found_meant

-- ---- fields

-- an unsigned integer in the record itself
abbrev pub unsigned_at : Order → ℕ → ℕ → ℕ → Channel
unsigned_at order byte offset count = record {
  data_type = unsigned_integer order;
  channel_type = 0;
  bit_offset = offset;
  byte_offset = byte;
  bit_count = count;
  flags = 0;
  invalidation_bit = 0;
  data_link = 0;
}

abbrev pub field_meant : FieldPlace → Channel
field_meant f = unsigned_at (order_meant f.big_endian) f.byte_offset f.bit_offset f.bit_count

-- the unsigned integer that has the bits of a channel's field
abbrev pub bare : Channel → Channel
bare c = unsigned_at (order_of c.data_type) c.byte_offset c.bit_offset c.bit_count

-- a record byte that the field reaches into
abbrev pub InSpan : Channel → ℕ → Type 0
InSpan c byte = (c.byte_offset ≤ byte) × (byte < c.byte_offset + bytes_for c.bit_offset c.bit_count)

-- the run is the bits of the record byte that belong to the field, and all of them
pub record Covers (c : Channel) (byte : ℕ) (run : Run) : Type 0 where
  pub there : (t : ℕ) → run.from ≤ t → t < run.to → (k : ℕ) × (Within c k × (bit_place c k ≡ byte * 8 + t))
  pub all : (k : ℕ) → Within c k → bit_place c k / 8 ≡ byte → (run.from ≤ k % 8) × (k % 8 < run.to)

abbrev pub bits_of_byte : ℕ → ℕ → ℕ → Run
bits_of_byte low high m = record { from = low - 8 * m; to = min (high - 8 * m) 8 }

abbrev pub meets : Run → Run → Bool
meets x y = ltb (max x.from y.from) (min x.to y.to)

-- ---- the list, where each entry means a channel

-- an entry that is no sound number
abbrev pub is_other : {A : Type 0} → (A → Channel) → A → Bool
is_other meant x = not (is_sound_number (meant x))

-- one whose field shares a bit with that of c
abbrev pub shares_with : {A : Type 0} → (A → Channel) → Channel → A → Bool
shares_with meant c x = share_a_bit c (meant x)
