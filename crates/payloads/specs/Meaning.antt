-- What each answer, with the buffers that its call leaves, means in the definitions.
use Rattle.std.specs.Prelude.{◌≡◌, ℕ, ◌≤◌, List, length, take, Result, Ok}
use Rattle.definitions.specs.Reply.{Reply, Outcome}
use Rattle.definitions.specs.Payload.{PayloadValue, Outcomes}
use Rattle.refusals.specs.Meaning.{replied}
use Rattle.refusals.specs.declared.Refusal.{Refusal}
use Rattle.fields.specs.Meaning.{value_meant}
use Rattle.places.specs.declared.place.DataPosition.{DataPosition}
use Rattle.payloads.specs.declared.value.DecodedPayload.{DecodedPayload}

abbrev pub position_reply : Result DataPosition Refusal → Reply ℕ
position_reply = replied (λ q. q.0)

-- the payload is what stands in the front of the buffer
abbrev pub stored_reply : Result ℕ Refusal → List ℕ → Reply (List ℕ)
stored_reply r left = replied (λ n. take n left) r

abbrev pub stored_by : Result ℕ Refusal → List ℕ → Outcome (List ℕ)
stored_by r left = record { reply = stored_reply r left; buffer = left }

-- the buffer is left so, with as many bytes as are told
pub record Stores (o : Outcome (List ℕ)) (r : Result ℕ Refusal) (left : List ℕ) : Type 0 where
  pub outcome : stored_by r left ≡ o
  pub room : (n : ℕ) → r ≡ Ok n → n ≤ length left

abbrev pub payload_meant : DecodedPayload → PayloadValue
payload_meant v = record { value = value_meant v.value; valid = v.is_valid; size = v.length }

abbrev pub payload_reply : Result DecodedPayload Refusal → Reply PayloadValue
payload_reply = replied payload_meant

abbrev pub payload_fetched_by : Result DecodedPayload Refusal → List ℕ → List ℕ → Outcomes PayloadValue
payload_fetched_by r a b = record { reply = payload_reply r; record_buffer = a; payload_buffer = b }
