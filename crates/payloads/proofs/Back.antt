-- An answer comes back from its meaning, so no two mean the same.
use mathlib.Core.Path.{◌≡◌, ap}
use mathlib.Core.List.{List}
use Prim.Native.Nat.{ℕ}
use Rattle.std.specs.Prelude.{Result}
use Rattle.definitions.specs.Payload.{PayloadValue, Outcomes}
use Rattle.refusals.specs.declared.Refusal.{Refusal}
use Rattle.refusals.proofs.Back.{replied_one}
use Rattle.fields.specs.declared.value.DecodedValue.{DecodedValue}
use Rattle.fields.proofs.Back.{value_decoded, value_back}
use Rattle.payloads.specs.Meaning.{payload_meant, payload_reply, payload_fetched_by}
use Rattle.payloads.specs.declared.value.DecodedPayload.{DecodedPayload}

abbrev pub payload_decoded : PayloadValue → DecodedPayload
payload_decoded v = record { value = value_decoded v.value; is_valid = v.valid; length = v.size }

pub payload_back : (v : DecodedPayload) → payload_decoded (payload_meant v) ≡ v
payload_back v = ap (λ (x : DecodedValue). record { value = x; is_valid = v.is_valid; length = v.length }) (value_back v.value)

pub payload_one : (a b : Result DecodedPayload Refusal) → payload_reply a ≡ payload_reply b → a ≡ b
payload_one = replied_one payload_meant payload_decoded payload_back

-- a reply with the buffers that it leaves
pub payload_fetched_one : (a b : Result DecodedPayload Refusal) (x y v w : List ℕ) → payload_fetched_by a x v ≡ payload_fetched_by b y w → (a ≡ b) × (x ≡ y) × (v ≡ w)
payload_fetched_one a b x y v w e = (
  payload_one a b (ap (λ (o : Outcomes PayloadValue). o.reply) e),
  ap (λ (o : Outcomes PayloadValue). o.record_buffer) e,
  ap (λ (o : Outcomes PayloadValue). o.payload_buffer) e,
)
