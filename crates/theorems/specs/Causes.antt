-- Why a field has no value, or no validity: the exact conditions.
use Rattle.std.specs.Prelude.{◌≡◌, List, true, ℕ, ◌+◌, ◌*◌, ◌≤◌, ◌<◌, length}
use Rattle.definitions.specs.Reply.{Reply, told}
use Rattle.definitions.specs.DataType.{kind_of}
use Rattle.definitions.specs.Channel.{Channel, Group, start_of, span_of, is_integer, is_floating, is_number, record_length, has_invalidation_bit}
use Rattle.theorems.specs.Exactly.{Exactly, FieldStands, InArea, BoundedStands}
use Rattle.theorems.specs.Refused.{Cause, refused, ◌or_else◌, RefusedExactly}

abbrev pub Not : Type 0 → Type 0
Not P = P → ⊥

-- ---- the five causes

abbrev pub NoBits : Channel → Type 0
NoBits c = (is_number (kind_of c.data_type) ≡ true) × (c.bit_count ≡ 0)

abbrev pub BadBitOffset : Channel → Type 0
BadBitOffset c = (is_number (kind_of c.data_type) ≡ true) × (7 < c.bit_offset)

abbrev pub IntegerTooWide : Channel → Type 0
IntegerTooWide c = (is_integer (kind_of c.data_type) ≡ true) × (64 < c.bit_count)

-- the bytes that the slice needs, from its front
abbrev pub needed : List ℕ → ℕ → Channel → ℕ
needed s id_size c = start_of id_size c + span_of s c

abbrev pub FieldOutside : List ℕ → ℕ → Channel → Type 0
FieldOutside s id_size c = length s < needed s id_size c

abbrev pub BadFloatWidth : Channel → Type 0
BadFloatWidth c = (is_floating (kind_of c.data_type) ≡ true) × (Not (c.bit_count ≡ 32) × Not (c.bit_count ≡ 64))

-- in this order, and there is no other
abbrev pub field_refused : List ℕ → ℕ → Channel → Cause
field_refused s id_size c =
    refused 18 0 (NoBits c)
    or_else refused 19 0 (BadBitOffset c)
    or_else refused 20 0 (IntegerTooWide c)
    or_else refused 21 (told (needed s id_size c)) (FieldOutside s id_size c)
    or_else refused 22 0 (BadFloatWidth c)

-- ---- the two of validity, in a record of n bytes; no byte of it plays a part

abbrev pub OtherLength : ℕ → Group → Type 0
OtherLength n g = Not (n ≡ record_length g)

abbrev pub BitOutside : Group → Channel → Type 0
BitOutside g c = (has_invalidation_bit c ≡ true) × (8 * g.invalidation_bytes ≤ c.invalidation_bit)

abbrev pub area_refused : ℕ → Group → Channel → Cause
area_refused n g c = refused 28 0 (OtherLength n g) or_else refused 29 0 (BitOutside g c)

-- a value with its validity: the value's own first
abbrev pub bounded_refused : List ℕ → Group → Channel → Cause
bounded_refused s g c = field_refused s g.id_size c or_else area_refused (length s) g c

-- ---- answered exactly where P holds, and refused exactly where c says so

pub record Replies {A : Type 0} (P : Type 0) (c : Cause) (r : Reply A) : Type 0 where
  pub answers : Exactly P r
  pub refusals : RefusedExactly c r

abbrev pub FieldReplies : {A : Type 0} → List ℕ → ℕ → Channel → Reply A → Type 0
FieldReplies s id_size c r = Replies (FieldStands s id_size c) (field_refused s id_size c) r

abbrev pub ValidityReplies : {A : Type 0} → ℕ → Group → Channel → Reply A → Type 0
ValidityReplies n g c r = Replies (InArea n g c) (area_refused n g c) r

abbrev pub BoundedReplies : {A : Type 0} → List ℕ → Group → Channel → Reply A → Type 0
BoundedReplies s g c r = Replies (BoundedStands s g c) (bounded_refused s g c) r
