-- When a payload is refused, exactly: about each call's own clause.
use mathlib.Core.Path.{ap}
use mathlib.Core.List.{List}
use Prim.Native.Nat.{ℕ}
use contract.Lifetimes.{Lfts}
use Rattle.std.specs.Prelude.{Result}
use Rattle.definitions.specs.Payload.{PayloadValue, Outcomes}
use Rattle.refusals.specs.declared.Refusal.{Refusal}
use Rattle.fields.specs.Meaning.{group_meant, channel_meant}
use Rattle.fields.specs.declared.channel.Channel.{Channel}
use Rattle.fields.specs.declared.group.Group.{Group}
use Rattle.places.specs.declared.place.FileAddress.{FileAddress}
use Rattle.payloads.specs.Meaning.{payload_reply}
use Rattle.payloads.specs.declared.value.DecodedPayload.{DecodedPayload}
use Rattle.block_replies.specs.Channels.{channel_given}
use Rattle.replies.specs.Values.{group_given}
use Rattle.block_replies.specs.declared.channel.Mf4Channel.{Mf4Channel}
use Rattle.replies.specs.declared.group.Mf4Group.{Mf4Group}
use Rattle.replies.specs.declared.payload.Mf4PayloadReply.{Mf4PayloadReply}
use Rattle.mf4.specs.Clauses.{Slice, Room}
use Rattle.theorems.specs.Refused.{RefusedExactly, ToldExactly}
use Rattle.theorems.specs.RecordCauses.{record_payload_refused}
use Rattle.theorems.specs.Clauses.{ReadsPayload}
use Rattle.theorems.specs.ClausesToC.{ReadsPayloadC}
use Rattle.theorems.proofs.Calls.TestsInTurn.{as_is, told_exactly}
use Rattle.theorems.proofs.Payloads.PayloadCauses.{payload_fetched_refused}
use Rattle.replies.proofs.ToldToC.{of_kind_told}
use Rattle.theorems.proofs.Payloads.PayloadsToC.{Told, payload_tellable, mf4_record_payload_told}

pub record_payload_refused_law : (κs : Lfts 3) (file : Slice) (start : FileAddress) (number size : ℕ) (group : Group) (channel : Channel) (out room : Room) (y : Result DecodedPayload Refusal) (after later : List ℕ)
    → ReadsPayload κs file start number size group channel out room y after later
    → RefusedExactly (record_payload_refused file.now start.0 number size out.now (group_meant group).id_size (channel_meant channel) room.now) (payload_reply y)
record_payload_refused_law κs file start number size group channel out room y after later p =
    as_is (ap (λ (o : Outcomes PayloadValue). o.reply) p)
    (payload_fetched_refused file.now start.0 number size (group_meant group) (channel_meant channel) out.now room.now)

-- for C
pub mf4_record_payload_refused : (κs : Lfts 3) (file : Slice) (start number size : ℕ) (group : Mf4Group) (channel : Mf4Channel) (out room : Room) (y : Mf4PayloadReply) (after later : List ℕ)
    → ReadsPayloadC κs file start number size group channel out room y after later
    → ToldExactly (record_payload_refused file.now start number size out.now (group_given group).id_size (channel_given channel) room.now) y.reply y.told
mf4_record_payload_refused κs file start number size group channel out room y after later p =
    let told = of_kind_told Told y.reply y.told y.kind _ _
    (payload_tellable file.now start number size (group_given group) (channel_given channel) out.now room.now)
    (mf4_record_payload_told κs file start number size group channel out room y after later p) in
    told_exactly _ _ _ _ told
    (payload_fetched_refused file.now start number size (group_given group) (channel_given channel) out.now room.now)
