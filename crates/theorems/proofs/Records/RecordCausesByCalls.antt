-- When the length of the joined data, a record of it and a value in that are refused, exactly: about each call's own clause.
use mathlib.Core.List.{List}
use Prim.Native.Nat.{ℕ}
use contract.Lifetimes.{Lfts}
use Rattle.std.specs.Prelude.{Result}
use Rattle.refusals.specs.declared.Refusal.{Refusal}
use Rattle.fields.specs.Meaning.{group_meant, channel_meant, valid_value_reply}
use Rattle.fields.specs.declared.channel.Channel.{Channel}
use Rattle.fields.specs.declared.group.Group.{Group}
use Rattle.fields.specs.declared.value.DecodedChannelValue.{DecodedChannelValue}
use Rattle.chain.specs.Meaning.{chain_reply}
use Rattle.places.specs.declared.place.FileAddress.{FileAddress}
use Rattle.places.specs.declared.place.DataPosition.{DataPosition}
use Rattle.records.specs.Meaning.{record_reply}
use Rattle.block_replies.specs.Channels.{channel_given}
use Rattle.replies.specs.Values.{group_given}
use Rattle.block_replies.specs.declared.channel.Mf4Channel.{Mf4Channel}
use Rattle.replies.specs.declared.group.Mf4Group.{Mf4Group}
use Rattle.replies.specs.declared.valid_values.Mf4ValidValueReply.{Mf4ValidValueReply}
use Rattle.replies.specs.declared.fetches.Mf4LengthReply.{Mf4LengthReply}
use Rattle.replies.specs.declared.done.Mf4DoneReply.{Mf4DoneReply}
use Rattle.mf4.specs.Clauses.{Slice, Room}
use Rattle.theorems.specs.Refused.{RefusedExactly, ToldExactly}
use Rattle.theorems.specs.RecordCauses.{length_refused, record_refused, record_value_refused}
use Rattle.theorems.specs.Clauses.{ReadsLength, ReadsRecord, ReadsRecordValue}
use Rattle.theorems.specs.ClausesToC.{ReadsLengthC, ReadsRecordC, ReadsRecordValueC}
use Rattle.replies.proofs.ToldToC.{of_kind_told}
use Rattle.theorems.proofs.Calls.Outcomes.{of_outcome}
use Rattle.theorems.proofs.Calls.ToldToC.{Judged, value_fetched_tellable, mf4_data_length_told, mf4_read_record_told, mf4_record_value_told}
use Rattle.theorems.proofs.Calls.TestsInTurn.{as_is, told_exactly}
use Rattle.theorems.proofs.Records.RecordCauses.{length_refused_law, record_refused_law, value_fetched_refused}

pub chain_length_refused : (κs : Lfts 1) (file : Slice) (start : FileAddress) (y : Result DataPosition Refusal)
    → ReadsLength κs file start y → RefusedExactly (length_refused file.now start.0) (chain_reply y)
chain_length_refused κs file start y p = as_is p (length_refused_law file.now start.0)

pub record_read_refused : (κs : Lfts 2) (file : Slice) (start : FileAddress) (number size : ℕ) (out : Room) (y : Result (Unit {0}) Refusal) (after : List ℕ)
    → ReadsRecord κs file start number size out y after → RefusedExactly (record_refused file.now start.0 number size out.now) (record_reply y)
record_read_refused κs file start number size out y after p = as_is (of_outcome p) (record_refused_law file.now start.0 number size out.now)

pub record_value_refused_law : (κs : Lfts 2) (file : Slice) (start : FileAddress) (number size : ℕ) (group : Group) (channel : Channel) (out : Room) (y : Result DecodedChannelValue Refusal) (after : List ℕ)
    → ReadsRecordValue κs file start number size group channel out y after
    → RefusedExactly (record_value_refused file.now start.0 number size out.now (group_meant group) (channel_meant channel)) (valid_value_reply y)
record_value_refused_law κs file start number size group channel out y after p =
    as_is (of_outcome p) (value_fetched_refused file.now start.0 number size out.now (group_meant group) (channel_meant channel))

-- ---- for C

pub mf4_data_length_refused : (κs : Lfts 1) (file : Slice) (start : ℕ) (y : Mf4LengthReply)
    → ReadsLengthC κs file start y → ToldExactly (length_refused file.now start) y.reply y.told
mf4_data_length_refused κs file start y p = told_exactly _ _ _ _ (mf4_data_length_told κs file start y p) (length_refused_law file.now start)

pub mf4_read_record_refused : (κs : Lfts 2) (file : Slice) (start number size : ℕ) (out : Room) (y : Mf4DoneReply) (after : List ℕ)
    → ReadsRecordC κs file start number size out y after → ToldExactly (record_refused file.now start number size out.now) y.reply y.told
mf4_read_record_refused κs file start number size out y after p =
    told_exactly _ _ _ _ (mf4_read_record_told κs file start number size out y after p) (record_refused_law file.now start number size out.now)

pub mf4_record_value_refused : (κs : Lfts 2) (file : Slice) (start number size : ℕ) (group : Mf4Group) (channel : Mf4Channel) (out : Room) (y : Mf4ValidValueReply) (after : List ℕ)
    → ReadsRecordValueC κs file start number size group channel out y after
    → ToldExactly (record_value_refused file.now start number size out.now (group_given group) (channel_given channel)) y.reply y.told
mf4_record_value_refused κs file start number size group channel out y after p =
    let told = of_kind_told Judged y.reply y.told y.kind _ _
    (value_fetched_tellable file.now start number size (group_given group) (channel_given channel) out.now)
    (mf4_record_value_told κs file start number size group channel out y after p) in
    told_exactly _ _ _ _ told
    (value_fetched_refused file.now start number size out.now (group_given group) (channel_given channel))
