-- How the writing of a number v into a channel's field of a record s ends, and what is said of the record t that it leaves.
use Rattle.std.specs.Prelude.{◌≡◌, ◌⊎◌, Bool, true, false, List, ℕ, ◌+◌, ◌*◌, ◌^◌, ◌<◌, length}
use Rattle.definitions.specs.Reply.{Outcome, answer, refusal}
use Rattle.definitions.specs.DataType.{DataType, unsigned_integer, signed_integer, float, complex, string, byte_array, mime_sample, mime_stream, can_open_date, can_open_time, unknown, kind_of}
use Rattle.definitions.specs.Channel.{Channel, Group, variable_length, is_number, value_of, double_in, record_double, valid_of, bounded_valid_of, bit_place}
use Rattle.definitions.specs.Overlap.{share_a_bit}
use Rattle.definitions.specs.WrittenValue.{Given, given_unsigned, given_signed, given_double, given_other, field_given, field_written}
use Rattle.definitions.proofs.Shared.{Within}
use Rattle.bit_fields.proofs.StoredFields.{bit_there}
use Rattle.encoder.specs.Meaning.{value_given}
use Rattle.theorems.specs.Exactly.{FieldStands, Takes, Writable}

-- ---- how it ends

abbrev is_unsigned : Given → Bool
is_unsigned (given_unsigned n) = true
is_unsigned (given_signed z) = false
is_unsigned (given_double pattern) = false
is_unsigned given_other = false

abbrev is_signed : Given → Bool
is_signed (given_unsigned n) = false
is_signed (given_signed z) = true
is_signed (given_double pattern) = false
is_signed given_other = false

abbrev is_double : Given → Bool
is_double (given_unsigned n) = false
is_double (given_signed z) = false
is_double (given_double pattern) = true
is_double given_other = false

-- whether it is of the type's kind
abbrev pub of_kind : DataType → Given → Bool
of_kind (unsigned_integer o) v = is_unsigned v
of_kind (signed_integer o) v = is_signed v
of_kind (float o) v = is_double v
of_kind (complex o) v = false
of_kind (string e) v = false
of_kind byte_array v = false
of_kind mime_sample v = false
of_kind mime_stream v = false
of_kind can_open_date v = false
of_kind can_open_time v = false
of_kind (unknown code) v = false

pub data WrittenEnds (s : List ℕ) (id_size : ℕ) (c : Channel) (v : Given) (o : Outcome (Unit {0})) : Type 0 where
  -- 18 to 22: as decoding is refused
  not_decoded : (n t : ℕ) → value_of s id_size c ≡ refusal n t → o ≡ record { reply = refusal n t; buffer = s } → WrittenEnds s id_size c v o
  -- 25: a payload, or a number of another kind than the type's, or a type that is no number's
  other_kind : FieldStands s id_size c → (variable_length c ≡ true) ⊎ (of_kind c.data_type v ≡ false)
      → o ≡ record { reply = refusal 25 0; buffer = s } → WrittenEnds s id_size c v o
  -- 24: the right kind, and not in the field's range
  does_not_fit : FieldStands s id_size c → variable_length c ≡ false → of_kind c.data_type v ≡ true → (Takes c.data_type c.bit_count v → ⊥)
      → o ≡ record { reply = refusal 24 0; buffer = s } → WrittenEnds s id_size c v o
  is_written : Writable s id_size c v → (x : ℕ) → field_given s id_size c v ≡ answer x
      → o ≡ record { reply = answer tt; buffer = field_written s id_size c x } → WrittenEnds s id_size c v o

-- ---- what it leaves

-- a number is given
abbrev pub IsNumber : Given → Type 0
IsNumber (given_unsigned n) = Unit {0}
IsNumber (given_signed z) = Unit {0}
IsNumber (given_double pattern) = Unit {0}
IsNumber given_other = ⊥

-- a double is given by a pattern of 64 bits
abbrev pub Sized : Given → Type 0
Sized (given_unsigned n) = Unit {0}
Sized (given_signed z) = Unit {0}
Sized (given_double pattern) = pattern < 2 ^ 64
Sized given_other = Unit {0}

-- where bit k of a field stands in a record with its id
abbrev pub record_place : ℕ → Channel → ℕ → ℕ
record_place id_size c k = id_size * 8 + bit_place c k

-- what was given is decoded, and its double
pub record DecodesTo (t : List ℕ) (id_size : ℕ) (c : Channel) (v : Given) : Type 0 where
  pub value : value_of t id_size c ≡ answer (value_given v)
  pub double : record_double t id_size c ≡ double_in (answer (value_given v))

-- nothing changed but bits of the channel's field
pub record SameOutside (s t : List ℕ) (id_size : ℕ) (c : Channel) : Type 0 where
  pub long : length t ≡ length s
  -- every bit that is not the field's
  pub bits : (p : ℕ) → ((k : ℕ) → Within c k → record_place id_size c k ≡ p → ⊥) → bit_there t p ≡ bit_there s p
  -- so a fixed number that shares no bit with it
  pub others : (d : Channel) → variable_length d ≡ false → is_number (kind_of d.data_type) ≡ true → share_a_bit c d ≡ false
      → (value_of t id_size d ≡ value_of s id_size d) × (record_double t id_size d ≡ record_double s id_size d)
  -- and the validity of a channel, this one or another, whose invalidation bit is none of the field's
  pub validity : (g : Group) (d : Channel) → g.id_size ≡ id_size → ((k : ℕ) → Within c k → bit_place c k ≡ g.data_bytes * 8 + d.invalidation_bit → ⊥)
      → (valid_of t g d ≡ valid_of s g d) × (bounded_valid_of t g d ≡ bounded_valid_of s g d)
