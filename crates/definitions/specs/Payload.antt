-- A value that is kept outside its record: the record holds a position in the joined data of a chain of `##SD` blocks, and
-- there stand a length of four bytes and so many bytes of payload.
use Rattle.std.specs.Prelude.{ℕ, ◌+◌, List, [], ◌∷◌, Bool, not, ◌&&◌, length, take, ltb, eqb, if◌then◌else◌}
use Rattle.definitions.specs.Reply.{Reply, Outcome, answer, refusal, and_then, on_answer, told, writing}
use Rattle.definitions.specs.Bytes.{span, u32_at, u64_at}
use Rattle.definitions.specs.Channel.{Channel, Group, Value, variable_length, value_of, valid_of}
use Rattle.definitions.specs.Chain.{joined, chain_of, fetched}

-- `##SD`
abbrev pub id_sd : List ℕ
id_sd = 35 ∷ 35 ∷ 83 ∷ 68 ∷ []

-- ---- the position

-- a channel of variable length, whose field in the record is eight whole bytes; another is 35
abbrev pub holds_position : Channel → Bool
holds_position c = variable_length c && eqb c.bit_offset 0 && eqb c.bit_count 64

-- The position in the record s, behind the record id and the byte offset: little-endian, whatever the data type. 21: the
-- record ends before it does; told are the bytes that the record needs
unfoldable pub position_of : List ℕ → ℕ → Channel → Reply ℕ
position_of s id_size c =
    if ltb (length s) (id_size + c.byte_offset + 8) then refusal 21 (told (id_size + c.byte_offset + 8))
    else answer (u64_at s (id_size + c.byte_offset))

-- ---- the payload

-- at position p of the joined data j; 23: the data ends before the length does, or before the payload does
unfoldable pub payload_at : List ℕ → ℕ → Reply (List ℕ)
payload_at j p =
    if ltb (length j) (p + 4) then refusal 23 0
    else if ltb (length j) (p + 4 + u32_at j p) then refusal 23 0
    else answer (span j (p + 4) (u32_at j p))

-- the joined data of the chain from `start` on, or what refuses the chain
unfoldable pub joined_of : List ℕ → List ℕ → ℕ → Reply (List ℕ)
joined_of id f start = and_then (chain_of id f start) (λ bs. answer (joined f bs))

-- the payload of the record s, where j is the joined data or what refuses it
unfoldable pub payload_of : Reply (List ℕ) → List ℕ → ℕ → Channel → Reply (List ℕ)
payload_of j s id_size c = and_then (position_of s id_size c) (λ p. and_then j (λ bytes. payload_at bytes p))

-- and into a buffer; 6: that is too small
abbrev pub stored : Reply (List ℕ) → List ℕ → Outcome (List ℕ)
stored payload out = on_answer payload (λ bytes. writing out bytes bytes) out

-- ---- its value

pub record PayloadValue : Type 0 where
  pub value : Value
  pub valid : Bool
  -- the bytes of the payload
  pub size : ℕ

-- the value is that of the payload alone, and the validity that of the record s
unfoldable pub payload_value_of : List ℕ → Group → Channel → List ℕ → Reply PayloadValue
payload_value_of s g c payload =
    and_then (value_of payload g.id_size c) (λ v. answer (record { value = v; valid = valid_of s g c; size = length payload }))

-- the reply of a call that was lent two buffers, and both as the call leaves them
pub record Outcomes (A : Type 0) : Type 0 where
  pub reply : Reply A
  pub record_buffer : List ℕ
  pub payload_buffer : List ℕ

-- behind the fetch o of a record into its buffer, and the fetch p of its payload
abbrev pub value_behind : ℕ → Group → Channel → Outcome (Unit {0}) → Outcome (List ℕ) → Outcomes PayloadValue
value_behind size g c o p = record {
  reply = and_then p.reply (payload_value_of (take size o.buffer) g c);
  record_buffer = o.buffer;
  payload_buffer = p.buffer;
}

-- Behind the fetch o alone: what refuses the record, or the position in it, refuses the payload. What was fetched stays in its
-- buffer, whatever is refused then
abbrev pub payload_behind : Reply (List ℕ) → ℕ → Group → Channel → Outcome (Unit {0}) → List ℕ → Outcomes PayloadValue
payload_behind j size g c o out =
    value_behind size g c o
    (stored (and_then o.reply (λ u. payload_of j (take size o.buffer) g.id_size c)) out)

-- 35, the record's own, 21 for the position, the chain's own at the data link, 23, 6, and the payload's own
unfoldable pub payload_fetched : List ℕ → ℕ → ℕ → ℕ → Group → Channel → List ℕ → List ℕ → Outcomes PayloadValue
payload_fetched f start k size g c out payloadOut =
    if not (holds_position c) then record { reply = refusal 35 0; record_buffer = out; payload_buffer = payloadOut }
    else payload_behind (joined_of id_sd f c.data_link) size g c (fetched f start k size out) payloadOut
