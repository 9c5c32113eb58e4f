-- How a call that fetches a payload ends: what it replies, and what it leaves in the record's buffer and in the payload's.
use Rattle.std.specs.Prelude.{◌≡◌, List, ◌++◌, true, ℕ, ◌≤◌, ◌<◌, length, drop}
use Rattle.definitions.specs.Reply.{Reply, answer, refusal, told}
use Rattle.definitions.specs.DataType.{kind_of}
use Rattle.definitions.specs.Channel.{Channel, Group, Value, is_number, value_of, valid_of}
use Rattle.definitions.specs.Chain.{fetched}
use Rattle.definitions.specs.Payload.{id_sd, joined_of, payload_of, PayloadValue, Outcomes}
use Rattle.theorems.specs.Exactly.{Fetchable, Positioned, record_bytes}
use Rattle.theorems.specs.Causes.{Not}
use Rattle.theorems.specs.FetchEnds.{record_left}

-- a row of the table: the reply, the record's buffer, the payload's
abbrev pub EndsSo : Outcomes PayloadValue → Reply PayloadValue → List ℕ → List ℕ → Type 0
EndsSo o reply left later = o ≡ record { reply = reply; record_buffer = left; payload_buffer = later }

-- a payload that was fetched, in the front of its buffer
abbrev pub payload_left : List ℕ → List ℕ → List ℕ
payload_left payload room = payload ++ drop (length payload) room

-- the payload that a fetched record tells, or what refuses it: 21 for the position, the chain's own, 23
abbrev pub payload_told : (f : List ℕ) (start k size : ℕ) (out : List ℕ) → Fetchable f start k size out → ℕ → Channel → Reply (List ℕ)
payload_told f start k size out h id_size c = payload_of (joined_of id_sd f c.data_link) (record_bytes f start k size out h) id_size c

pub data PayloadEnds (f : List ℕ) (start k size : ℕ) (g : Group) (c : Channel) (out room : List ℕ) (o : Outcomes PayloadValue) : Type 0 where
  -- 35: both buffers are as they were
  no_position : Not (Positioned c) → EndsSo o (refusal 35 0) out room → PayloadEnds f start k size g c out room o
  -- the record's own, 15, 7, its chain's, 16: both buffers are as they were
  no_record : (n t : ℕ) → Positioned c → (fetched f start k size out).reply ≡ refusal n t
      → EndsSo o (refusal n t) out room → PayloadEnds f start k size g c out room o
  -- 21, the chain's own, 23: the record stays
  no_payload : (h : Fetchable f start k size out) (n t : ℕ) → Positioned c → payload_told f start k size out h g.id_size c ≡ refusal n t
      → EndsSo o (refusal n t) (record_left f start k size out h) room → PayloadEnds f start k size g c out room o
  -- 6: the record stays
  no_room : (h : Fetchable f start k size out) (payload : List ℕ) → Positioned c → payload_told f start k size out h g.id_size c ≡ answer payload
      → length room < length payload
      → EndsSo o (refusal 6 (told (length payload))) (record_left f start k size out h) room → PayloadEnds f start k size g c out room o
  -- 21: a number whose payload has fewer than 8 bytes; the record stays, and the payload
  no_value : (h : Fetchable f start k size out) (payload : List ℕ) → Positioned c → payload_told f start k size out h g.id_size c ≡ answer payload
      → length payload ≤ length room → is_number (kind_of c.data_type) ≡ true → length payload < 8
      → EndsSo o (refusal 21 8) (record_left f start k size out h) (payload_left payload room) → PayloadEnds f start k size g c out room o
  -- an answer: the value of the payload alone, and the validity of the record
  a_value : (h : Fetchable f start k size out) (payload : List ℕ) (v : Value) → Positioned c → payload_told f start k size out h g.id_size c ≡ answer payload
      → length payload ≤ length room → value_of payload g.id_size c ≡ answer v
      → EndsSo o (answer (record { value = v; valid = valid_of (record_bytes f start k size out h) g c; size = length payload }))
      (record_left f start k size out h) (payload_left payload room) → PayloadEnds f start k size g c out room o
