-- When each of 18 to 22 is given, and of 28 and 29, exactly: about each call's own clause.
use mathlib.Core.Path.{◌≡◌, sym, ◌∙◌, subst}
use mathlib.Core.Bool.{Bool}
use mathlib.Core.List.{List}
use Prim.Native.Nat.{ℕ, ◌*◌}
use contract.Lifetimes.{Lfts}
use lib.ListN.{length}
use Rattle.std.specs.Prelude.{Result}
use Rattle.definitions.specs.Reply.{Reply}
use Rattle.definitions.specs.Bytes.{span}
use Rattle.definitions.specs.Chain.{joined}
use Rattle.refusals.specs.declared.Refusal.{Refusal}
use Rattle.fields.specs.Meaning.{channel_meant, group_meant, value_reply, valid_value_reply, validity_reply}
use Rattle.fields.specs.declared.channel.Channel.{Channel}
use Rattle.fields.specs.declared.group.Group.{Group}
use Rattle.fields.specs.declared.value.DecodedValue.{DecodedValue}
use Rattle.fields.specs.declared.value.DecodedChannelValue.{DecodedChannelValue}
use Rattle.places.specs.declared.place.FileAddress.{FileAddress}
use Rattle.block_replies.specs.Channels.{channel_given}
use Rattle.replies.specs.Values.{group_given}
use Rattle.block_replies.specs.declared.channel.Mf4Channel.{Mf4Channel}
use Rattle.replies.specs.declared.group.Mf4Group.{Mf4Group}
use Rattle.replies.specs.declared.values.Mf4ValueReply.{Mf4ValueReply}
use Rattle.replies.specs.declared.valid_values.Mf4ValidValueReply.{Mf4ValidValueReply}
use Rattle.replies.specs.declared.validity.Mf4ValidityReply.{Mf4ValidityReply}
use Rattle.replies.proofs.ToldToC.{value_reply_again, valid_value_again, validity_again}
use Rattle.mf4.specs.Clauses.{Slice, Room}
use Rattle.theorems.specs.Exactly.{Fetchable}
use Rattle.theorems.specs.Causes.{Replies, FieldReplies, ValidityReplies, BoundedReplies}
use Rattle.theorems.specs.Refused.{Cause}
use Rattle.theorems.specs.Clauses.{ReadsValue, ReadsValidValue, ReadsBoundedValue, ChecksBoundedValidity, ReadsRecordValue}
use Rattle.theorems.specs.ClausesToC.{ReadsValueC, ReadsValidValueC, ReadsUnboundedC, ChecksValidityC, ReadsRecordValueC}
use Rattle.theorems.proofs.Calls.Outcomes.{of_outcome}
use Rattle.theorems.proofs.Calls.Answers.{value_of_record}
use Rattle.theorems.proofs.Fields.Causes.{value_replies, valid_value_replies, bounded_valid_replies, bounded_value_replies}
use Rattle.theorems.proofs.Calls.ToldToC.{mf4_decode_value_told, mf4_decode_valid_value_told, mf4_decode_valid_value_unbounded_told, mf4_check_validity_told, mf4_record_value_told}

-- a reply that is the definition's
as_defined : {A P : Type 0} {c : Cause} {r q : Reply A} → r ≡ q → Replies P c q → Replies P c r
as_defined {P = P} {c = c} e h = subst (Replies P c) (sym e) h

pub value_read_replies : (κs : Lfts 1) (bytes : Slice) (id_size : ℕ) (channel : Channel) (y : Result DecodedValue Refusal)
    → ReadsValue κs bytes id_size channel y → FieldReplies bytes.now id_size (channel_meant channel) (value_reply y)
value_read_replies κs bytes id_size channel y p = as_defined p (value_replies bytes.now id_size (channel_meant channel))

pub valid_value_read_replies : (κs : Lfts 1) (bytes : Slice) (group : Group) (channel : Channel) (y : Result DecodedChannelValue Refusal)
    → ReadsValidValue κs bytes group channel y → FieldReplies bytes.now (group_meant group).id_size (channel_meant channel) (valid_value_reply y)
valid_value_read_replies κs bytes group channel y p = as_defined p (valid_value_replies bytes.now (group_meant group) (channel_meant channel))

pub bounded_value_read_replies : (κs : Lfts 1) (bytes : Slice) (group : Group) (channel : Channel) (y : Result DecodedChannelValue Refusal)
    → ReadsBoundedValue κs bytes group channel y → BoundedReplies bytes.now (group_meant group) (channel_meant channel) (valid_value_reply y)
bounded_value_read_replies κs bytes group channel y p = as_defined p (bounded_value_replies bytes.now (group_meant group) (channel_meant channel))

pub bounded_validity_replies : (κs : Lfts 1) (bytes : Slice) (group : Group) (channel : Channel) (y : Result Bool Refusal)
    → ChecksBoundedValidity κs bytes group channel y → ValidityReplies (length bytes.now) (group_meant group) (channel_meant channel) (validity_reply y)
bounded_validity_replies κs bytes group channel y p = as_defined p (bounded_valid_replies bytes.now (group_meant group) (channel_meant channel))

-- of a record that can be fetched, on its own bytes
pub record_value_replies : (κs : Lfts 2) (file : Slice) (start : FileAddress) (number size : ℕ) (group : Group) (channel : Channel) (out : Room) (y : Result DecodedChannelValue Refusal) (after : List ℕ)
    → ReadsRecordValue κs file start number size group channel out y after → (h : Fetchable file.now start.0 number size out.now)
    → BoundedReplies (span (joined file.now h.blocks) (number * size) size) (group_meant group) (channel_meant channel) (valid_value_reply y)
record_value_replies κs file start number size group channel out y after p h =
    as_defined (of_outcome p ∙ value_of_record file.now start.0 number size out.now (group_meant group) (channel_meant channel) h)
    (bounded_value_replies _ (group_meant group) (channel_meant channel))

-- ---- for C: of the reply that the struct tells

pub mf4_decode_value_replies : (κs : Lfts 1) (bytes : Slice) (id_size : ℕ) (channel : Mf4Channel) (y : Mf4ValueReply)
    → ReadsValueC κs bytes id_size channel y → FieldReplies bytes.now id_size (channel_given channel) (value_reply_again y)
mf4_decode_value_replies κs bytes id_size channel y p =
    as_defined (mf4_decode_value_told κs bytes id_size channel y p) (value_replies bytes.now id_size (channel_given channel))

pub mf4_decode_valid_value_replies : (κs : Lfts 1) (bytes : Slice) (group : Mf4Group) (channel : Mf4Channel) (y : Mf4ValidValueReply)
    → ReadsValidValueC κs bytes group channel y → BoundedReplies bytes.now (group_given group) (channel_given channel) (valid_value_again y)
mf4_decode_valid_value_replies κs bytes group channel y p =
    as_defined (mf4_decode_valid_value_told κs bytes group channel y p) (bounded_value_replies bytes.now (group_given group) (channel_given channel))

pub mf4_decode_valid_value_unbounded_replies : (κs : Lfts 1) (bytes : Slice) (group : Mf4Group) (channel : Mf4Channel) (y : Mf4ValidValueReply)
    → ReadsUnboundedC κs bytes group channel y → FieldReplies bytes.now (group_given group).id_size (channel_given channel) (valid_value_again y)
mf4_decode_valid_value_unbounded_replies κs bytes group channel y p =
    as_defined (mf4_decode_valid_value_unbounded_told κs bytes group channel y p) (valid_value_replies bytes.now (group_given group) (channel_given channel))

pub mf4_check_validity_replies : (κs : Lfts 1) (bytes : Slice) (group : Mf4Group) (channel : Mf4Channel) (y : Mf4ValidityReply)
    → ChecksValidityC κs bytes group channel y → ValidityReplies (length bytes.now) (group_given group) (channel_given channel) (validity_again y)
mf4_check_validity_replies κs bytes group channel y p =
    as_defined (mf4_check_validity_told κs bytes group channel y p) (bounded_valid_replies bytes.now (group_given group) (channel_given channel))

pub mf4_record_value_replies : (κs : Lfts 2) (file : Slice) (start number size : ℕ) (group : Mf4Group) (channel : Mf4Channel) (out : Room) (y : Mf4ValidValueReply) (after : List ℕ)
    → ReadsRecordValueC κs file start number size group channel out y after → (h : Fetchable file.now start number size out.now)
    → BoundedReplies (span (joined file.now h.blocks) (number * size) size) (group_given group) (channel_given channel) (valid_value_again y)
mf4_record_value_replies κs file start number size group channel out y after p h =
    as_defined
    (mf4_record_value_told κs file start number size group channel out y after p
    ∙ value_of_record file.now start number size out.now (group_given group) (channel_given channel) h)
    (bounded_value_replies _ (group_given group) (channel_given channel))
