-- How the library's call that fetches a payload ends, and when it answers: about the call's own clause.
use mathlib.Core.Path.{sym, ap, subst}
use mathlib.Core.List.{List}
use Prim.Native.Nat.{ℕ}
use contract.Lifetimes.{Lfts}
use Rattle.std.specs.Prelude.{Result}
use Rattle.definitions.specs.Payload.{PayloadValue, Outcomes}
use Rattle.refusals.specs.declared.Refusal.{Refusal}
use Rattle.mf4.specs.Clauses.{Slice, Room}
use Rattle.fields.specs.Meaning.{channel_meant, group_meant}
use Rattle.fields.specs.declared.channel.Channel.{Channel}
use Rattle.fields.specs.declared.group.Group.{Group}
use Rattle.places.specs.declared.place.FileAddress.{FileAddress}
use Rattle.payloads.specs.Meaning.{payload_reply, payload_fetched_by}
use Rattle.payloads.specs.declared.value.DecodedPayload.{DecodedPayload}
use Rattle.theorems.specs.Clauses.{ReadsPayload}
use Rattle.theorems.specs.Exactly.{Exactly, PayloadFetchable}
use Rattle.theorems.specs.PayloadEnds.{PayloadEnds}
use Rattle.theorems.proofs.Payloads.PayloadEnds.{payload_ends}
use Rattle.theorems.proofs.Payloads.PayloadAnswers.{payload_exactly}

module _ (κs : Lfts 3) (file : Slice) (start : FileAddress) (number size : ℕ) (group : Group) (channel : Channel) (out room : Room)
    (y : Result DecodedPayload Refusal) (after later : List ℕ) (p : ReadsPayload κs file start number size group channel out room y after later) where
  pub record_payload_ends : PayloadEnds file.now start.0 number size (group_meant group) (channel_meant channel) out.now room.now (payload_fetched_by y after later)
  record_payload_ends =
      subst (PayloadEnds file.now start.0 number size (group_meant group) (channel_meant channel) out.now room.now) (sym p)
      (payload_ends file.now start.0 number size (group_meant group) (channel_meant channel) out.now room.now)

  pub record_payload_exactly : Exactly (PayloadFetchable file.now start.0 number size (group_meant group).id_size (channel_meant channel) out.now room.now) (payload_reply y)
  record_payload_exactly =
      subst (Exactly (PayloadFetchable file.now start.0 number size (group_meant group).id_size (channel_meant channel) out.now room.now))
      (sym (ap (λ (o : Outcomes PayloadValue). o.reply) p))
      (payload_exactly file.now start.0 number size (group_meant group) (channel_meant channel) out.now room.now)
