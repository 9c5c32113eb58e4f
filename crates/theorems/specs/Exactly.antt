-- When a call answers: the exact conditions.
use Rattle.std.specs.Prelude.{◌≡◌, ◌⊎◌, List, true, false, ℕ, ◌+◌, ◌-◌, ◌*◌, ◌^◌, ◌≤◌, ◌<◌, pos, negsuc, length}
use Rattle.definitions.specs.Reply.{Reply, answer}
use Rattle.definitions.specs.DataType.{DataType, unsigned_integer, signed_integer, float, complex, string, byte_array, mime_sample, mime_stream, can_open_date, can_open_time, unknown, Kind, integer, floating, whole, undecoded, kind_of}
use Rattle.definitions.specs.Bytes.{span, u32_at, u64_at, id_at}
use Rattle.definitions.specs.DataList.{Lengths, equal, variable, id_dl, link_limit, flags_at, rest_in, list_size, rest_for}
use Rattle.definitions.specs.ChannelBlock.{id_cn, fields_at}
use Rattle.definitions.specs.Ieee754.{widened, narrowed}
use Rattle.definitions.specs.Channel.{Channel, Group, variable_length, start_of, span_of, is_number, record_length, has_invalidation_bit}
use Rattle.definitions.specs.WrittenValue.{Given, given_unsigned, given_signed, given_double, given_other}
use Rattle.definitions.specs.Chain.{Block, id_dt, file_limit, record_limit, joined}
use Rattle.definitions.specs.Accepted.{Accepted}
use Rattle.definitions.specs.Payload.{id_sd}

-- there is an answer where P holds, and nowhere else
pub record Exactly {A : Type 0} (P : Type 0) (r : Reply A) : Type 0 where
  pub answers : P → (a : A) × (r ≡ answer a)
  pub only : (a : A) → r ≡ answer a → P

-- the same of a reply's number, which is 0 for an answer
pub record ExactlyZero (P : Type 0) (number : ℕ) : Type 0 where
  pub answers : P → number ≡ 0
  pub only : number ≡ 0 → P

-- ---- a list that is read: the id, a link, and room for all that the fields take

pub record ListStands (s : List ℕ) : Type 0 where
  pub named : id_at s 0 id_dl ≡ true
  pub some : 0 < u64_at s 16
  pub whole : flags_at (u64_at s 16) + 8 + rest_in s (u64_at s 16) * 8 ≤ length s

-- ---- a channel block that is read: the id, eight links, and room for the fields behind all links

pub record ChannelStands (s : List ℕ) : Type 0 where
  pub named : id_at s 0 id_cn ≡ true
  pub enough : 8 ≤ u64_at s 16
  pub whole : fields_at (u64_at s 16) + 72 ≤ length s

-- ---- a list to be written: as many offsets as links

abbrev pub Counted : ℕ → Lengths → Type 0
Counted n (equal k) = Unit {0}
Counted n (variable ns) = n ≡ length ns

pub record ListFits (out links : List ℕ) (l : Lengths) : Type 0 where
  pub few : length links ≤ link_limit
  pub counted : Counted (length links) l
  pub room : list_size (length links) (length (rest_for l)) ≤ length out

-- ---- a field

-- the widths that a value of this kind can have
abbrev pub Legal : Kind → Channel → Type 0
Legal integer c = (0 < c.bit_count) × (c.bit_count ≤ 64) × (c.bit_offset ≤ 7)
Legal floating c = ((c.bit_count ≡ 32) ⊎ (c.bit_count ≡ 64)) × (c.bit_offset ≤ 7)
Legal whole c = Unit {0}
Legal undecoded c = Unit {0}

pub record FieldStands (s : List ℕ) (id_size : ℕ) (c : Channel) : Type 0 where
  pub legal : Legal (kind_of c.data_type) c
  pub inside : start_of id_size c + span_of s c ≤ length s

-- ---- a field and its validity, where the invalidation bytes have an end

-- a record of n bytes is one of the group, and the invalidation bit that tells is inside
pub record InArea (n : ℕ) (g : Group) (c : Channel) : Type 0 where
  pub long : n ≡ record_length g
  pub below : has_invalidation_bit c ≡ true → c.invalidation_bit < 8 * g.invalidation_bytes

pub record BoundedStands (s : List ℕ) (g : Group) (c : Channel) : Type 0 where
  pub field : FieldStands s g.id_size c
  pub area : InArea (length s) g c

-- ---- a number to be written

-- what a field of count bits takes, by its type: a number below 2^count; one of two's complement; a pattern, of 32 bits only
-- where widening returns it; and no field takes a number of another kind
abbrev pub TakesUnsigned : ℕ → Given → Type 0
TakesUnsigned count (given_unsigned n) = n < 2 ^ count
TakesUnsigned count (given_signed z) = ⊥
TakesUnsigned count (given_double pattern) = ⊥
TakesUnsigned count given_other = ⊥

abbrev pub TakesSigned : ℕ → Given → Type 0
TakesSigned count (given_unsigned n) = ⊥
TakesSigned count (given_signed (pos n)) = n < 2 ^ (count - 1)
TakesSigned count (given_signed (negsuc k)) = k < 2 ^ (count - 1)
TakesSigned count (given_double pattern) = ⊥
TakesSigned count given_other = ⊥

abbrev pub TakesFloat : ℕ → Given → Type 0
TakesFloat count (given_unsigned n) = ⊥
TakesFloat count (given_signed z) = ⊥
TakesFloat count (given_double pattern) = (count ≡ 64) ⊎ (widened (narrowed pattern) ≡ pattern)
TakesFloat count given_other = ⊥

abbrev pub Takes : DataType → ℕ → Given → Type 0
Takes (unsigned_integer o) count v = TakesUnsigned count v
Takes (signed_integer o) count v = TakesSigned count v
Takes (float o) count v = TakesFloat count v
Takes (complex o) count v = ⊥
Takes (string e) count v = ⊥
Takes byte_array count v = ⊥
Takes mime_sample count v = ⊥
Takes mime_stream count v = ⊥
Takes can_open_date count v = ⊥
Takes can_open_time count v = ⊥
Takes (unknown code) count v = ⊥

pub record Writable (s : List ℕ) (id_size : ℕ) (c : Channel) (v : Given) : Type 0 where
  pub field : FieldStands s id_size c
  pub fixed : variable_length c ≡ false
  pub takes : Takes c.data_type c.bit_count v

-- ---- the joined data, a record of it, and a value in that

pub record Joinable (f : List ℕ) (start : ℕ) : Type 0 where
  pub short : length f ≤ file_limit
  pub blocks : List Block
  pub accepted : Accepted id_dt f start blocks

pub record Fetchable (f : List ℕ) (start k size : ℕ) (out : List ℕ) : Type 0 where
  pub some : 0 < size
  pub small : size ≤ record_limit
  pub room : size ≤ length out
  pub short : length f ≤ file_limit
  pub blocks : List Block
  pub accepted : Accepted id_dt f start blocks
  pub inside : k * size + size ≤ length (joined f blocks)

pub record ValueFetchable (f : List ℕ) (start k size : ℕ) (g : Group) (c : Channel) (out : List ℕ) : Type 0 where
  pub fetchable : Fetchable f start k size out
  -- in the record's own bytes
  pub field : FieldStands (span (joined f fetchable.blocks) (k * size) size) g.id_size c
  -- the record size is the group's
  pub area : InArea size g c

-- ---- a payload

-- a channel of variable length with a field of eight whole bytes
pub record Positioned (c : Channel) : Type 0 where
  pub variable : c.channel_type ≡ 1
  pub linked : 0 < c.data_link
  pub from_first : c.bit_offset ≡ 0
  pub eight : c.bit_count ≡ 64

-- the record that can be fetched
abbrev pub record_bytes : (f : List ℕ) (start k size : ℕ) (out : List ℕ) → Fetchable f start k size out → List ℕ
record_bytes f start k size out h = span (joined f h.blocks) (k * size) size

pub record PayloadFetchable (f : List ℕ) (start k size id_size : ℕ) (c : Channel) (out room : List ℕ) : Type 0 where
  pub positioned : Positioned c
  pub fetchable : Fetchable f start k size out
  -- the position lies in the record
  pub within : id_size + c.byte_offset + 8 ≤ size
  pub blocks : List Block
  pub accepted : Accepted id_sd f c.data_link blocks
  -- there the length n lies in the joined data, and the payload behind it
  pub position : ℕ
  pub told : u64_at (record_bytes f start k size out fetchable) (id_size + c.byte_offset) ≡ position
  pub n : ℕ
  pub length_is : u32_at (joined f blocks) position ≡ n
  pub inside : position + 4 + n ≤ length (joined f blocks)
  -- the buffer holds it, and a number has its eight bytes
  pub fits : n ≤ length room
  pub enough : is_number (kind_of c.data_type) ≡ true → 8 ≤ n
