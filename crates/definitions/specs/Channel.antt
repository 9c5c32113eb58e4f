-- A channel's value in a record, as a double too, and its validity.
use Rattle.std.specs.Prelude.{ℕ, ◌+◌, ◌*◌, ◌/◌, ◌%◌, max, List, Bool, true, false, not, ◌&&◌, ◌||◌, ℤ, pos, length, get_or, ltb, eqb, Float, if◌then◌else◌}
use Rattle.std.specs.Float.{binary64}
use Rattle.std.specs.Float.Ieee.{of_bits}
use Rattle.definitions.specs.Reply.{Reply, answer, refusal, and_then, told}
use Rattle.definitions.specs.Bytes.{Order, span, bit, bytes_for, byte_with, field_at, twos_complement}
use Rattle.definitions.specs.Ieee754.{nan_pattern, double_of, widened}
use Rattle.definitions.specs.Unicode.{stopped}
use Rattle.definitions.specs.DataType.{DataType, unsigned_integer, signed_integer, float, complex, string, byte_array, mime_sample, mime_stream, can_open_date, can_open_time, unknown, Kind, integer, floating, whole, undecoded, kind_of, order_of}

-- what is known of a channel
pub record Channel : Type 0 where
  pub data_type : DataType
  pub channel_type : ℕ
  pub bit_offset : ℕ
  pub byte_offset : ℕ
  pub bit_count : ℕ
  pub flags : ℕ
  pub invalidation_bit : ℕ
  pub data_link : ℕ

-- what is known of a channel's group: how many bytes the id in front of each record has, the channels' data behind it, and the
-- invalidation bits at the end
pub record Group : Type 0 where
  pub id_size : ℕ
  pub data_bytes : ℕ
  pub invalidation_bytes : ℕ

-- ---- where the field lies

-- a channel of variable length with a link to its data: what is given is not a record but a payload
abbrev pub variable_length : Channel → Bool
variable_length c = eqb c.channel_type 1 && not (eqb c.data_link 0)

-- behind the record id and the byte offset; a payload has neither
abbrev pub start_of : ℕ → Channel → ℕ
start_of id_size c = if variable_length c then 0 else id_size + c.byte_offset

-- as many bytes as the offset and the width reach into, and never none
abbrev pub bit_span : Channel → ℕ
bit_span c = max 1 (bytes_for c.bit_offset c.bit_count)

-- a number has the span of its bits. What is no number is all n bytes of a payload; in a record it is the whole bytes of
-- the bit count where it is text, bytes or MIME, which know no bit offset, and else the span of its bits
abbrev pub span_in : Bool → Kind → ℕ → Channel → ℕ
span_in payload integer n c = bit_span c
span_in payload floating n c = bit_span c
span_in payload whole n c = if payload then n else c.bit_count / 8
span_in payload undecoded n c = if payload then n else bit_span c

abbrev pub span_of : List ℕ → Channel → ℕ
span_of s c = span_in (variable_length c) (kind_of c.data_type) (length s) c

-- ---- the value

-- a text or bytes: where in the slice, and how many; a double: its value, and its 64-bit pattern
pub data Value : Type 0 where
  unsigned : ℕ → Value
  signed : ℤ → Value
  double : Float → ℕ → Value
  text bytes sample stream : ℕ → ℕ → Value
  unknown_value : Value

abbrev pub double_value : ℕ → Value
double_value pattern = double (of_bits binary64 pattern) pattern

-- the pattern of a field: itself, or what a single widens to
abbrev pub float_bits : ℕ → ℕ → ℕ
float_bits count x = if eqb count 64 then x else widened x

-- the field of a number
abbrev pub number_in : Order → List ℕ → ℕ → Channel → ℕ
number_in o s at c = field_at o s at c.bit_offset c.bit_count

-- what the n bytes from `at` on stand for; a text ends where it stops
unfoldable pub decoded : DataType → List ℕ → ℕ → ℕ → Channel → Value
decoded (unsigned_integer o) s at n c = unsigned (number_in o s at c)
decoded (signed_integer o) s at n c = signed (twos_complement c.bit_count (number_in o s at c))
decoded (float o) s at n c = double_value (float_bits c.bit_count (number_in o s at c))
decoded (string e) s at n c = text at (length (stopped e (span s at n)))
decoded byte_array s at n c = bytes at n
decoded mime_sample s at n c = sample at n
decoded mime_stream s at n c = stream at n
decoded can_open_date s at n c = unknown_value
decoded can_open_time s at n c = unknown_value
decoded (complex o) s at n c = unknown_value
decoded (unknown code) s at n c = unknown_value

abbrev pub is_integer : Kind → Bool
is_integer integer = true
is_integer floating = false
is_integer whole = false
is_integer undecoded = false

abbrev pub is_floating : Kind → Bool
is_floating integer = false
is_floating floating = true
is_floating whole = false
is_floating undecoded = false

abbrev pub is_number : Kind → Bool
is_number k = is_integer k || is_floating k

-- a fixed number: a number in the record itself
abbrev pub is_fixed_number : Channel → Bool
is_fixed_number c = is_number (kind_of c.data_type) && not (variable_length c)

-- a number's description passes 18, 19, 20 and 22, the tests below that ask nothing of the slice
abbrev pub is_well_described : Kind → Channel → Bool
is_well_described k c =
    not (eqb c.bit_count 0) && not (ltb 7 c.bit_offset) && not (is_integer k && ltb 64 c.bit_count)
    && not (is_floating k && not (eqb c.bit_count 32 || eqb c.bit_count 64))

-- a fixed number that has a value in every record which is long enough
unfoldable pub is_sound_number : Channel → Bool
is_sound_number c = is_fixed_number c && is_well_described (kind_of c.data_type) c

-- where bit k of the number in a field's span stands in the record, counted from behind the record id: 8 bits to a byte, the lowest first
abbrev pub bit_place : Channel → ℕ → ℕ
bit_place c k = (c.byte_offset + byte_with (order_of c.data_type) (bytes_for c.bit_offset c.bit_count) k) * 8 + k % 8

-- The tests in turn. 18: a number of no bits. 19: one that begins behind its first byte. 20: an integer of over 64 bits.
-- 21: a field of any kind that ends outside the slice; told are the bytes that the slice needs, counted from its front.
-- 22: a float that is neither a single nor a double
unfoldable pub value_by : Kind → ℕ → ℕ → List ℕ → Channel → Reply Value
value_by k at n s c =
    if is_number k && eqb c.bit_count 0 then refusal 18 0
    else if is_number k && ltb 7 c.bit_offset then refusal 19 0
    else if is_integer k && ltb 64 c.bit_count then refusal 20 0
    else if ltb (length s) (at + n) then refusal 21 (told (at + n))
    else if is_floating k && not (eqb c.bit_count 32 || eqb c.bit_count 64) then refusal 22 0
    else answer (decoded c.data_type s at n c)

unfoldable pub value_of : List ℕ → ℕ → Channel → Reply Value
value_of s id_size c = value_by (kind_of c.data_type) (start_of id_size c) (span_of s c) s c

-- ---- as a double

-- integers: the nearest double; floats as they are; no number, or refused: NaN
abbrev pub double_in : Reply Value → ℕ
double_in (answer (unsigned n)) = double_of (pos n)
double_in (answer (signed z)) = double_of z
double_in (answer (double x pattern)) = pattern
double_in (answer (text at n)) = nan_pattern
double_in (answer (bytes at n)) = nan_pattern
double_in (answer (sample at n)) = nan_pattern
double_in (answer (stream at n)) = nan_pattern
double_in (answer unknown_value) = nan_pattern
double_in (refusal number told) = nan_pattern

-- a payload gives NaN too
unfoldable pub record_double : List ℕ → ℕ → Channel → ℕ
record_double s id_size c = if variable_length c then nan_pattern else double_in (value_of s id_size c)

-- ---- validity

-- flag 0: never. Without flag 1: always. With it, where the invalidation bit is clear, as one beyond the slice counts. Here the
-- invalidation bytes have no end but the slice's
unfoldable pub valid_of : List ℕ → Group → Channel → Bool
valid_of s g c =
    if eqb (bit c.flags 0) 1 then false
    else if eqb (bit c.flags 1) 0 then true
    else eqb (bit (get_or s (g.id_size + g.data_bytes + c.invalidation_bit / 8) 0) (c.invalidation_bit % 8)) 0

-- both; there is no validity without a value
pub record ValidValue : Type 0 where
  pub value : Value
  pub valid : Bool

unfoldable pub valid_value_of : List ℕ → Group → Channel → Reply ValidValue
valid_value_of s g c = and_then (value_of s g.id_size c) (λ v. answer (record { value = v; valid = valid_of s g c }))

-- ---- validity where the invalidation bytes have an end

-- a record of the group: the id, the data and the invalidation bytes, and nothing else
abbrev pub record_length : Group → ℕ
record_length g = g.id_size + g.data_bytes + g.invalidation_bytes

-- flag 0 clear and flag 1 set: the invalidation bit tells
abbrev pub has_invalidation_bit : Channel → Bool
has_invalidation_bit c = eqb (bit c.flags 0) 0 && eqb (bit c.flags 1) 1

-- What is asked of a record of n bytes before that bit is read; none of its bytes plays a part. 28: n is not the length of the
-- group's records. 29: the bit that tells is behind the last of the invalidation bytes
unfoldable pub area_of : ℕ → Group → Channel → Reply (Unit {0})
area_of n g c =
    if not (eqb n (record_length g)) then refusal 28 0
    else if has_invalidation_bit c && not (ltb c.invalidation_bit (8 * g.invalidation_bytes)) then refusal 29 0
    else answer tt

-- then it is as above, and the bit is inside
unfoldable pub bounded_valid_of : List ℕ → Group → Channel → Reply Bool
bounded_valid_of s g c = and_then (area_of (length s) g c) (λ u. answer (valid_of s g c))

-- both: what refuses the value comes first
unfoldable pub bounded_value_of : List ℕ → Group → Channel → Reply ValidValue
bounded_value_of s g c =
    and_then (value_of s g.id_size c) (λ v. and_then (bounded_valid_of s g c) (λ b. answer (record { value = v; valid = b })))
