-- What is known of the field that was chosen.
use Rattle.std.specs.Prelude.{◌≡◌, Bool, not, ◌&&◌, Result, Ok, Err, List, ℕ, ◌+◌, ◌^◌, ◌<◌, ltb}
use Rattle.definitions.specs.Reply.{answer}
use Rattle.definitions.specs.Bytes.{bytes_for}
use Rattle.definitions.specs.DataType.{order_of}
use Rattle.definitions.specs.Channel.{Channel, Value, start_of, is_well_described, value_of}
use Rattle.definitions.specs.WrittenValue.{Given, other_kind, field_given}
use Rattle.refusals.specs.Meaning.{refused}
use Rattle.refusals.specs.declared.Refusal.{Refusal}
use Rattle.fields.specs.Form.{order_meant, number_kind}
use Rattle.fields.specs.declared.form.Number.{Number}
use Rattle.fields.specs.Known.{FieldBounds}
use Rattle.encoder.specs.declared.encode.FieldChosen.{FieldChosen}

-- no number goes into such a channel, where it has a value at all
abbrev pub TakesNone : List ℕ → ℕ → Channel → Type 0
TakesNone s id_size c = (v : Given) (old : Value) → value_of s id_size c ≡ answer old → field_given s id_size c v ≡ other_kind

-- so whatever is given is refused
abbrev pub AlwaysRefused : List ℕ → ℕ → Channel → Refusal → Type 0
AlwaysRefused s id_size c r = (v : Given) → field_given s id_size c v ≡ refused r

-- a number's field passes all tests of decoding, in a record of l bytes
abbrev pub is_readable : ℕ → ℕ → Number → Channel → Bool
is_readable l id_size number c =
    is_well_described (number_kind number) c
    && not (ltb l (id_size + c.byte_offset + bytes_for c.bit_offset c.bit_count))

-- the field that was chosen lies in the record, and its bits fit into it
pub record Placed (s : List ℕ) (id_size : ℕ) (c : Channel) (v : Given) (f : FieldChosen) : Type 0 where
  pub bits : field_given s id_size c v ≡ answer f.bits
  pub start : f.at ≡ start_of id_size c
  pub order : order_meant f.big_endian ≡ order_of c.data_type
  pub bounds : FieldBounds s f.at c.bit_offset c.bit_count
  pub below : f.bits < 2 ^ c.bit_count

abbrev pub Chosen : List ℕ → ℕ → Channel → Given → Result FieldChosen Refusal → Type 0
Chosen s id_size c v (Ok f) = Placed s id_size c v f
Chosen s id_size c v (Err r) = field_given s id_size c v ≡ refused r
