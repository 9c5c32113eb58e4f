-- Where in each record of one size a channel's number lies, and the bit that tells whether it is valid.
use Rattle.std.specs.Prelude.{◌≡◌, Bool, true, false, List, ℕ, ◌+◌, ◌-◌, ◌*◌, ◌/◌, ◌%◌, ◌^◌, ◌≤◌, ◌<◌, length, get_or, ltb, eqb, Option, Some, None, if◌then◌else◌}
use Rattle.definitions.specs.Reply.{answer}
use Rattle.definitions.specs.Bytes.{bit, bytes_for, field_at}
use Rattle.definitions.specs.Channel.{Channel, Group, Value, float_bits, is_floating, bounded_value_of}
use Rattle.definitions.specs.Report.{has_no_value}
use Rattle.fields.specs.Form.{order_meant, number_kind}
use Rattle.fields.specs.declared.form.Number.{Number}
use Rattle.fields.specs.declared.form.Number.TheVariants.{Unsigned, Signed, Float}
use Rattle.tally.specs.Words.{signed_zero, Words}
use Rattle.slots.specs.declared.slot.Slot.{Slot}
use Rattle.slots.specs.declared.slot.SlotFound.{SlotFound}
use Rattle.slots.specs.declared.slot.SlotFound.TheVariants.{Found, AllInvalid, NoValue}
use Rattle.slots.specs.declared.word.WordPlace.{WordPlace}

-- the word of a field x of count bits: an integer as the word that counts it from the least one of 64 bits, and a float as a
-- double's pattern
abbrev pub word_of : Number → ℕ → ℕ → ℕ
word_of Unsigned count x = x
word_of Signed count x = if ltb x (2 ^ (count - 1)) then x + signed_zero else x - 2 ^ (count - 1) + (signed_zero - 2 ^ (count - 1))
word_of Float count x = float_bits count x

-- the word of the number in a record
abbrev pub slot_word : Slot → List ℕ → ℕ
slot_word w s = word_of w.number w.count (field_at (order_meant w.big_endian) s w.at w.offset w.count)

-- a record is valid where a bit of it is clear
abbrev pub slot_valid : Slot → List ℕ → Bool
slot_valid w s = eqb (bit (get_or s w.flag_at 0) w.flag_bit) 0

-- the field and the bit lie in each record of `size` bytes
pub record Within (size : ℕ) (w : Slot) : Type 0 where
  pub low : w.offset < 8
  pub some : 1 ≤ w.count
  pub few : w.count ≤ 64
  pub inside : w.at + bytes_for w.offset w.count ≤ size
  pub width : is_floating (number_kind w.number) ≡ true → (w.count ≡ 64 → ⊥) → w.count ≡ 32
  pub flag : w.flag_at < size
  -- bit 8 of a byte is clear in all: a channel whose values are all valid has that one
  pub flag_bit : w.flag_bit ≤ 8

-- the slot tells of every record of `size` bytes what the definitions say of it
pub record SlotOf (size : ℕ) (g : Group) (c : Channel) (w : Slot) : Type 0 where
  pub within : Within size w
  pub tells : (s : List ℕ) → ((i : ℕ) → get_or s i 0 < 256) → length s ≡ size
      → (v : Value) × (bounded_value_of s g c ≡ answer (record { value = v; valid = slot_valid w s })) × Words w.number (slot_word w s) v

-- in records of one size all have a value, or none has: 18 to 22 ask nothing of their bytes
abbrev pub SlotTold : ℕ → Group → Channel → SlotFound → Type 0
SlotTold size g c (Found w) = SlotOf size g c w
SlotTold size g c AllInvalid = (s : List ℕ) → length s ≡ size → (v : Value) × (bounded_value_of s g c ≡ answer (record { value = v; valid = false }))
SlotTold size g c NoValue = (s : List ℕ) → length s ≡ size → has_no_value (bounded_value_of s g c) ≡ true

-- bit `from` of the eight bytes at p is the first one of the field
abbrev pub PlaceTold : ℕ → Slot → Option WordPlace → Type 0
PlaceTold size w (Some p) = (p.at + 8 ≤ size) × (8 * p.at + p.from ≡ 8 * w.at + w.offset) × (p.from + w.count ≤ 64)
PlaceTold size w None = Unit {0}

-- how far below the field the word of eight bytes is read: those before it stand there, or where the first byte is the highest, those
-- after it
abbrev pub shift_in : Bool → ℕ → ℕ → ℕ
shift_in true from count = (64 - from - count) / 8 * 8 + from % 8
shift_in false from count = from

pub record ShiftTold (size : ℕ) (w : Slot) (p shift : ℕ) : Type 0 where
  pub from : ℕ
  pub place : PlaceTold size w (Some (record { at = p; from = from }))
  pub is : shift ≡ shift_in w.big_endian from w.count
