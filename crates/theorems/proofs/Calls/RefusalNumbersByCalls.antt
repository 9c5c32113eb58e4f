-- Which numbers the refusals of each call have: about its own clause.
use mathlib.Core.Path.{◌≡◌, sym, ap, ◌∙◌}
use mathlib.Core.Bool.{Bool}
use mathlib.Core.List.{List}
use Prim.Native.Nat.{ℕ}
use contract.Lifetimes.{Lfts}
use Rattle.std.specs.Prelude.{Result}
use Rattle.definitions.specs.Reply.{Reply}
use Rattle.definitions.specs.DataList.{equal, variable}
use Rattle.definitions.specs.Payload.{PayloadValue, Outcomes}
use Rattle.refusals.specs.declared.Refusal.{Refusal}
use Rattle.blocks.specs.Meaning.{header_reply, header_meant, written_reply, list_reply}
use Rattle.blocks.specs.declared.header.BlockHeader.{BlockHeader}
use Rattle.blocks.specs.declared.data_list.DataListBlock.{DataListBlock}
use Rattle.channels.specs.Meaning.{channel_block_reply, channel_block_meant}
use Rattle.channels.specs.declared.channel_block.ChannelBlock.{ChannelBlock}
use Rattle.encodings.specs.Meaning.{encoding_of}
use Rattle.text.specs.Meaning.{text_reply}
use Rattle.encodings.specs.declared.encoding.Encoding.{Encoding}
use Rattle.text.specs.declared.answer.TextWritten.{TextWritten}
use Rattle.fields.specs.Meaning.{channel_meant, group_meant, value_reply, valid_value_reply, validity_reply}
use Rattle.fields.specs.declared.channel.Channel.{Channel}
use Rattle.fields.specs.declared.group.Group.{Group}
use Rattle.fields.specs.declared.value.DecodedValue.{DecodedValue}
use Rattle.fields.specs.declared.value.DecodedChannelValue.{DecodedChannelValue}
use Rattle.encoder.specs.Meaning.{given_meant, written_reply as stored_reply}
use Rattle.encoder.specs.declared.number.NumberGiven.{NumberGiven}
use Rattle.chain.specs.Meaning.{chain_reply}
use Rattle.places.specs.declared.place.FileAddress.{FileAddress}
use Rattle.places.specs.declared.place.DataPosition.{DataPosition}
use Rattle.records.specs.Meaning.{record_reply}
use Rattle.payloads.specs.Meaning.{payload_reply}
use Rattle.payloads.specs.declared.value.DecodedPayload.{DecodedPayload}
use Rattle.mf4.specs.Clauses.{Slice, Room}
use Rattle.theorems.specs.Clauses.{ReadsHeader, WritesHeader, ReadsList, WritesEqual, WritesVariable, ReadsChannel, WritesChannel, WritesText, ReadsValue, ReadsValidValue, ReadsBoundedValue, ChecksBoundedValidity, WritesValue, ReadsLength, ReadsRecord, ReadsRecordValue, ReadsPayload}
use Rattle.theorems.proofs.Calls.Outcomes.{of_outcome}
use Rattle.theorems.proofs.Calls.RefusalNumbers.{Numbered, OfBlocks, OfFields, OfArea, OfBounded, OfFetches, OfPayloads, header_numbered, list_numbered, channel_numbered, header_written_numbered, channel_written_numbered, list_written_numbered, text_written_numbered, length_numbered, fetched_numbered, value_numbered, valid_value_numbered, bounded_valid_numbered, bounded_value_numbered, value_fetched_numbered}
use Rattle.theorems.proofs.Payloads.PayloadEnds.{fetched_payload_numbered}
use Rattle.theorems.proofs.Writing.WrittenEnds.{OfWriting, value_written_numbered}

-- a reply that is the definition's
pub numbered : {A : Type 0} {P : ℕ → ℕ → Type 0} {r q : Reply A} → r ≡ q → Numbered P q → Numbered P r
numbered e h n t i = h n t (sym e ∙ i)

-- ---- blocks

pub header_read_numbered : (κs : Lfts 1) (bytes : Slice) (y : Result BlockHeader Refusal) → ReadsHeader κs bytes y → Numbered OfBlocks (header_reply y)
header_read_numbered κs bytes y p = numbered p (header_numbered bytes.now)

pub header_write_numbered : (κs : Lfts 1) (header : BlockHeader) (out : Room) (y : Result ℕ Refusal) (after : List ℕ)
    → WritesHeader κs header out y after → Numbered OfBlocks (written_reply y)
header_write_numbered κs header out y after p = numbered (of_outcome p) (header_written_numbered out.now (header_meant header))

pub list_read_numbered : (κs : Lfts 1) (bytes : Slice) (y : Result DataListBlock Refusal) → ReadsList κs bytes y → Numbered OfBlocks (list_reply y)
list_read_numbered κs bytes y p = numbered p (list_numbered bytes.now)

pub list_equal_numbered : (κs : Lfts 2) (next : ℕ) (links : Slice) (length : ℕ) (out : Room) (y : Result ℕ Refusal) (after : List ℕ)
    → WritesEqual κs next links length out y after → Numbered OfBlocks (written_reply y)
list_equal_numbered κs next links length out y after p = numbered (of_outcome p) (list_written_numbered out.now next links.now (equal length))

pub list_variable_numbered : (κs : Lfts 3) (next : ℕ) (links offsets : Slice) (out : Room) (y : Result ℕ Refusal) (after : List ℕ)
    → WritesVariable κs next links offsets out y after → Numbered OfBlocks (written_reply y)
list_variable_numbered κs next links offsets out y after p = numbered (of_outcome p) (list_written_numbered out.now next links.now (variable offsets.now))

pub channel_read_numbered : (κs : Lfts 1) (bytes : Slice) (y : Result ChannelBlock Refusal) → ReadsChannel κs bytes y → Numbered OfBlocks (channel_block_reply y)
channel_read_numbered κs bytes y p = numbered p (channel_numbered bytes.now)

pub channel_write_numbered : (κs : Lfts 1) (block : ChannelBlock) (out : Room) (y : Result ℕ Refusal) (after : List ℕ)
    → WritesChannel κs block out y after → Numbered OfBlocks (written_reply y)
channel_write_numbered κs block out y after p = numbered (of_outcome p) (channel_written_numbered out.now (channel_block_meant block))

-- ---- a text

pub text_write_numbered : (κs : Lfts 2) (encoding : Encoding) (bytes : Slice) (out : Room) (y : Result TextWritten Refusal) (after : List ℕ)
    → WritesText κs encoding bytes out y after → Numbered OfBlocks (text_reply y)
text_write_numbered κs encoding bytes out y after p = numbered (of_outcome p) (text_written_numbered out.now (encoding_of encoding) bytes.now)

-- ---- a field, read and written

pub value_read_numbered : (κs : Lfts 1) (bytes : Slice) (id_size : ℕ) (channel : Channel) (y : Result DecodedValue Refusal)
    → ReadsValue κs bytes id_size channel y → Numbered OfFields (value_reply y)
value_read_numbered κs bytes id_size channel y p = numbered p (value_numbered bytes.now id_size (channel_meant channel))

pub valid_value_read_numbered : (κs : Lfts 1) (bytes : Slice) (group : Group) (channel : Channel) (y : Result DecodedChannelValue Refusal)
    → ReadsValidValue κs bytes group channel y → Numbered OfFields (valid_value_reply y)
valid_value_read_numbered κs bytes group channel y p = numbered p (valid_value_numbered bytes.now (group_meant group) (channel_meant channel))

pub bounded_value_read_numbered : (κs : Lfts 1) (bytes : Slice) (group : Group) (channel : Channel) (y : Result DecodedChannelValue Refusal)
    → ReadsBoundedValue κs bytes group channel y → Numbered OfBounded (valid_value_reply y)
bounded_value_read_numbered κs bytes group channel y p = numbered p (bounded_value_numbered bytes.now (group_meant group) (channel_meant channel))

pub bounded_validity_numbered : (κs : Lfts 1) (bytes : Slice) (group : Group) (channel : Channel) (y : Result Bool Refusal)
    → ChecksBoundedValidity κs bytes group channel y → Numbered OfArea (validity_reply y)
bounded_validity_numbered κs bytes group channel y p = numbered p (bounded_valid_numbered bytes.now (group_meant group) (channel_meant channel))

pub value_write_numbered : (κs : Lfts 1) (id_size : ℕ) (channel : Channel) (given : NumberGiven) (bytes : Room) (y : Result (Unit {0}) Refusal) (after : List ℕ)
    → WritesValue κs id_size channel given bytes y after → Numbered OfWriting (stored_reply y)
value_write_numbered κs id_size channel given bytes y after p =
    numbered (of_outcome p) (value_written_numbered bytes.now id_size (channel_meant channel) (given_meant given))

-- ---- the joined data, a record of it, a value in that, and a payload

pub chain_length_numbered : (κs : Lfts 1) (file : Slice) (start : FileAddress) (y : Result DataPosition Refusal) → ReadsLength κs file start y → Numbered OfBlocks (chain_reply y)
chain_length_numbered κs file start y p = numbered p (length_numbered file.now start.0)

pub record_read_numbered : (κs : Lfts 2) (file : Slice) (start : FileAddress) (number size : ℕ) (out : Room) (y : Result (Unit {0}) Refusal) (after : List ℕ)
    → ReadsRecord κs file start number size out y after → Numbered OfBlocks (record_reply y)
record_read_numbered κs file start number size out y after p = numbered (of_outcome p) (fetched_numbered file.now start.0 number size out.now)

pub record_value_numbered : (κs : Lfts 2) (file : Slice) (start : FileAddress) (number size : ℕ) (group : Group) (channel : Channel) (out : Room) (y : Result DecodedChannelValue Refusal) (after : List ℕ)
    → ReadsRecordValue κs file start number size group channel out y after → Numbered OfFetches (valid_value_reply y)
record_value_numbered κs file start number size group channel out y after p =
    numbered (of_outcome p) (value_fetched_numbered file.now start.0 number size out.now (group_meant group) (channel_meant channel))

pub record_payload_numbered : (κs : Lfts 3) (file : Slice) (start : FileAddress) (number size : ℕ) (group : Group) (channel : Channel) (out room : Room) (y : Result DecodedPayload Refusal) (after later : List ℕ)
    → ReadsPayload κs file start number size group channel out room y after later → Numbered OfPayloads (payload_reply y)
record_payload_numbered κs file start number size group channel out room y after later p =
    numbered (ap (λ (o : Outcomes PayloadValue). o.reply) p)
    (fetched_payload_numbered file.now start.0 number size (group_meant group) (channel_meant channel) out.now room.now)
