-- A number written into a channel's field of a record.
use Rattle.std.specs.Prelude.{ℕ, suc, ◌-◌, ◌^◌, Bool, List, ℤ, pos, negsuc, ltb, eqb, if◌then◌else◌}
use Rattle.definitions.specs.Reply.{Reply, Outcome, answer, refusal, and_then, on_answer}
use Rattle.definitions.specs.Bytes.{field_set}
use Rattle.definitions.specs.Ieee754.{narrowed, narrows}
use Rattle.definitions.specs.DataType.{DataType, unsigned_integer, signed_integer, float, complex, string, byte_array, mime_sample, mime_stream, can_open_date, can_open_time, unknown, order_of}
use Rattle.definitions.specs.Channel.{Channel, variable_length, start_of, value_of}

-- what is given: an integer, a double by its 64-bit pattern, or what is no number
pub data Given : Type 0 where
  given_unsigned : ℕ → Given
  given_signed : ℤ → Given
  given_double : ℕ → Given
  given_other : Given

-- ---- the bits that stand for it

-- 24: the value does not fit the width
abbrev pub fitting : Bool → ℕ → Reply ℕ
fitting fits x = if fits then answer x else refusal 24 0

-- 25: the value is of another kind than the type, or the channel is no fixed number
abbrev pub other_kind : Reply ℕ
other_kind = refusal 25 0

-- two's complement: an integer from -2^(width_1) to 2^(width_1) - 1; -(k + 1) is 2^width - (k + 1)
abbrev pub complement_of : ℕ → ℤ → Reply ℕ
complement_of width (pos n) = fitting (ltb n (2 ^ (width - 1))) n
complement_of width (negsuc k) = fitting (ltb k (2 ^ (width - 1))) (2 ^ width - suc k)

-- the field of count bits, by its type's kind: below 2^count; in two's complement; a pattern, of 32 bits only where
-- widening returns the double's own
abbrev pub unsigned_field : ℕ → Given → Reply ℕ
unsigned_field count (given_unsigned n) = fitting (ltb n (2 ^ count)) n
unsigned_field count (given_signed z) = other_kind
unsigned_field count (given_double b) = other_kind
unsigned_field count given_other = other_kind

abbrev pub signed_field : ℕ → Given → Reply ℕ
signed_field count (given_unsigned n) = other_kind
signed_field count (given_signed z) = complement_of count z
signed_field count (given_double b) = other_kind
signed_field count given_other = other_kind

abbrev pub float_field : ℕ → Given → Reply ℕ
float_field count (given_unsigned n) = other_kind
float_field count (given_signed z) = other_kind
float_field count (given_double b) = if eqb count 64 then answer b else fitting (narrows b) (narrowed b)
float_field count given_other = other_kind

abbrev pub type_field : DataType → ℕ → Given → Reply ℕ
type_field (unsigned_integer o) count v = unsigned_field count v
type_field (signed_integer o) count v = signed_field count v
type_field (float o) count v = float_field count v
type_field (complex o) count v = other_kind
type_field (string e) count v = other_kind
type_field byte_array count v = other_kind
type_field mime_sample count v = other_kind
type_field mime_stream count v = other_kind
type_field can_open_date count v = other_kind
type_field can_open_time count v = other_kind
type_field (unknown code) count v = other_kind

-- ---- the record with them

-- first what decoding refuses of that record, 18 to 22, of every channel; then 25, then 24
unfoldable pub field_given : List ℕ → ℕ → Channel → Given → Reply ℕ
field_given s id_size c v =
    and_then (value_of s id_size c) (λ old. if variable_length c then other_kind else type_field c.data_type c.bit_count v)

-- the record s with x in the channel's field
abbrev pub field_written : List ℕ → ℕ → Channel → ℕ → List ℕ
field_written s id_size c x = field_set (order_of c.data_type) s (start_of id_size c) c.bit_offset c.bit_count x

-- nothing is answered; a refusal leaves the record as it was
unfoldable pub value_written : List ℕ → ℕ → Channel → Given → Outcome (Unit {0})
value_written s id_size c v =
    on_answer (field_given s id_size c v) (λ x. record { reply = answer tt; buffer = field_written s id_size c x }) s
