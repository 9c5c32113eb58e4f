-- Why the joined data, a record of it, a value in that or a payload is not read: each refusal with its condition, in the order of the
-- tests.
use Rattle.std.specs.Prelude.{◌≡◌, ◌⊎◌, true, List, ℕ, ◌+◌, ◌*◌, ◌<◌, length}
use Rattle.definitions.specs.Reply.{answer, told}
use Rattle.definitions.specs.Bytes.{u32_at, u64_at}
use Rattle.definitions.specs.DataType.{kind_of}
use Rattle.definitions.specs.Channel.{Channel, Group, is_number}
use Rattle.definitions.specs.Chain.{Block, id_dt, joined, file_limit, record_limit}
use Rattle.definitions.specs.Accepted.{Accepted}
use Rattle.definitions.specs.Payload.{id_sd, joined_of, payload_of}
use Rattle.theorems.specs.Exactly.{Fetchable, Positioned, record_bytes}
use Rattle.theorems.specs.Causes.{Not, bounded_refused}
use Rattle.theorems.specs.Refused.{Cause, refused, ◌or_else◌}
use Rattle.theorems.specs.BlockCauses.{no_room}
use Rattle.theorems.specs.ChainCauses.{chain_refused}

-- ---- the joined data, and a record of it

abbrev pub length_refused : List ℕ → ℕ → Cause
length_refused f start = refused 7 0 (file_limit < length f) or_else chain_refused id_dt f start

-- not from 1 to 16,384, or more than the buffer holds
abbrev pub BadSize : ℕ → ℕ → Type 0
BadSize size room = (size ≡ 0) ⊎ (record_limit < size) ⊎ (room < size)

-- P holds of the joined data of an accepted chain
abbrev pub JoinedSo : List ℕ → List ℕ → ℕ → (List ℕ → Type 0) → Type 0
JoinedSo id f start P = (blocks : List Block) × (Accepted id f start blocks × P (joined f blocks))

abbrev pub record_refused : List ℕ → ℕ → ℕ → ℕ → List ℕ → Cause
record_refused f start k size out =
    refused 15 0 (BadSize size (length out))
    or_else length_refused f start  -- 7, and the chain's own
    or_else refused 16 0 (JoinedSo id_dt f start (λ j. length j < k * size + size))  -- the data ends before record k does

-- what the record that is fetched is refused for
unfoldable pub of_record : List ℕ → ℕ → ℕ → ℕ → List ℕ → (List ℕ → Cause) → Cause
of_record f start k size out c n t = (h : Fetchable f start k size out) × c (record_bytes f start k size out h) n t

-- then the field, in the record's own bytes
abbrev pub record_value_refused : List ℕ → ℕ → ℕ → ℕ → List ℕ → Group → Channel → Cause
record_value_refused f start k size out g c =
    record_refused f start k size out
    or_else of_record f start k size out (λ s. bounded_refused s g c)

-- ---- the payload of a record

-- where the record s says that it is
abbrev pub position_in : List ℕ → ℕ → Channel → ℕ
position_in s id_size c = u64_at s (id_size + c.byte_offset)

-- the data of the chain at the data link ends before so many bytes
abbrev pub EndsBefore : List ℕ → Channel → (List ℕ → ℕ) → Type 0
EndsBefore f c end = JoinedSo id_sd f c.data_link (λ j. length j < end j)

abbrev pub payload_refused : List ℕ → List ℕ → ℕ → Channel → Cause
payload_refused f s id_size c =
    refused 21 (told (id_size + c.byte_offset + 8)) (length s < id_size + c.byte_offset + 8)  -- the record ends before the position does
    or_else chain_refused id_sd f c.data_link
    or_else refused 23 0 (EndsBefore f c (λ j. position_in s id_size c + 4))  -- the data before the length
    or_else refused 23 0 (EndsBefore f c (λ j. position_in s id_size c + 4 + u32_at j (position_in s id_size c)))  -- or before the payload

-- what the payload that the record s tells is refused for
unfoldable pub of_payload : List ℕ → List ℕ → ℕ → Channel → (List ℕ → Cause) → Cause
of_payload f s id_size c d n t = (payload : List ℕ) × ((payload_of (joined_of id_sd f c.data_link) s id_size c ≡ answer payload) × d payload n t)

-- a number has eight bytes
abbrev pub TooFewBytes : Channel → List ℕ → Type 0
TooFewBytes c payload = (is_number (kind_of c.data_type) ≡ true) × (length payload < 8)

-- in the record s: its payload; then the room for that, and the bytes of a number
abbrev pub payload_value_refused : List ℕ → List ℕ → ℕ → Channel → List ℕ → Cause
payload_value_refused f s id_size c room =
    payload_refused f s id_size c
    or_else of_payload f s id_size c (λ payload. no_room room (length payload) or_else refused 21 8 (TooFewBytes c payload))

abbrev pub record_payload_refused : List ℕ → ℕ → ℕ → ℕ → List ℕ → ℕ → Channel → List ℕ → Cause
record_payload_refused f start k size out id_size c room =
    refused 35 0 (Not (Positioned c))  -- no channel whose field is a position
    or_else record_refused f start k size out
    or_else of_record f start k size out (λ s. payload_value_refused f s id_size c room)
