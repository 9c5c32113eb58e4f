-- When each call answers, exactly, and that a buffer of a known room always suffices for a text: about each call's own clause. Of
-- payloads `PayloadsByCalls` has it, of a number that is written `WrittenValuesByCalls`.
use mathlib.Core.Path.{◌≡◌, sym, ◌∙◌}
use mathlib.Core.Bool.{Bool}
use mathlib.Core.List.{List}
use Prim.Native.Nat.{ℕ, ◌≤◌}
use native.Mathlib.Omega.{arith}
use contract.Lifetimes.{Lfts}
use lib.ListN.{length}
use Rattle.std.specs.Prelude.{Result}
use Rattle.definitions.specs.Reply.{Reply, answer}
use Rattle.definitions.specs.Unicode.{TextWritten, text_of}
use Rattle.definitions.specs.DataList.{equal, variable}
use Rattle.refusals.specs.declared.Refusal.{Refusal}
use Rattle.mf4.specs.Clauses.{Slice, Room}
use Rattle.theorems.specs.Exactly.{Exactly, ListStands, ChannelStands, ListFits, FieldStands, InArea, BoundedStands, Joinable, Fetchable, ValueFetchable}
use Rattle.theorems.specs.Clauses.{ReadsHeader, WritesHeader, ReadsList, WritesEqual, WritesVariable, ReadsChannel, WritesChannel, WritesText, ReadsValue, ReadsValidValue, ReadsBoundedValue, ChecksBoundedValidity, ReadsLength, ReadsRecord, ReadsRecordValue}
use Rattle.theorems.proofs.Calls.Outcomes.{of_outcome}
use Rattle.theorems.proofs.Calls.Answers.{header_exactly, list_exactly, channel_exactly, header_written_exactly, channel_written_exactly, list_written_exactly, text_written_exactly, value_exactly, valid_value_exactly, bounded_valid_exactly, bounded_value_exactly, length_exactly, fetched_exactly, value_fetched_exactly}
use Rattle.blocks.specs.Meaning.{header_reply, header_meant, written_reply, list_reply}
use Rattle.channels.specs.Meaning.{channel_block_reply, channel_block_meant}
use Rattle.blocks.specs.declared.header.BlockHeader.{BlockHeader}
use Rattle.blocks.specs.declared.data_list.DataListBlock.{DataListBlock}
use Rattle.channels.specs.declared.channel_block.ChannelBlock.{ChannelBlock}
use Rattle.encodings.specs.Meaning.{encoding_of}
use Rattle.text.specs.Meaning.{text_reply}
use Rattle.encodings.specs.declared.encoding.Encoding.{Encoding}
use Rattle.text.specs.declared.answer.TextWritten.{TextWritten as TextLeft}
use Rattle.text.proofs.FirstChar.{Bytes}
use Rattle.text.proofs.Room.{room, text_room}
use Rattle.fields.specs.Meaning.{channel_meant, group_meant, value_reply, valid_value_reply, validity_reply}
use Rattle.fields.specs.declared.channel.Channel.{Channel}
use Rattle.fields.specs.declared.group.Group.{Group}
use Rattle.fields.specs.declared.value.DecodedValue.{DecodedValue}
use Rattle.fields.specs.declared.value.DecodedChannelValue.{DecodedChannelValue}
use Rattle.chain.specs.Meaning.{chain_reply}
use Rattle.records.specs.Meaning.{record_reply}
use Rattle.places.specs.declared.place.FileAddress.{FileAddress}
use Rattle.places.specs.declared.place.DataPosition.{DataPosition}

-- a reply that is the definition's
pub exactly : {A P : Type 0} {r q : Reply A} → r ≡ q → Exactly P q → Exactly P r
exactly e h = record { answers = λ p. let a = h.answers p in (a.0, e ∙ a.1); only = λ a i. h.only a (sym e ∙ i) }

-- ---- blocks

pub header_read_exactly : (κs : Lfts 1) (bytes : Slice) (y : Result BlockHeader Refusal) → ReadsHeader κs bytes y → Exactly (24 ≤ length bytes.now) (header_reply y)
header_read_exactly κs bytes y p = exactly p (header_exactly bytes.now)

pub header_write_exactly : (κs : Lfts 1) (header : BlockHeader) (out : Room) (y : Result ℕ Refusal) (after : List ℕ)
    → WritesHeader κs header out y after → Exactly (24 ≤ length out.now) (written_reply y)
header_write_exactly κs header out y after p = exactly (of_outcome p) (header_written_exactly out.now (header_meant header))

pub list_read_exactly : (κs : Lfts 1) (bytes : Slice) (y : Result DataListBlock Refusal) → ReadsList κs bytes y → Exactly (ListStands bytes.now) (list_reply y)
list_read_exactly κs bytes y p = exactly p (list_exactly bytes.now)

pub channel_read_exactly : (κs : Lfts 1) (bytes : Slice) (y : Result ChannelBlock Refusal) → ReadsChannel κs bytes y
    → Exactly (ChannelStands bytes.now) (channel_block_reply y)
channel_read_exactly κs bytes y p = exactly p (channel_exactly bytes.now)

pub channel_write_exactly : (κs : Lfts 1) (block : ChannelBlock) (out : Room) (y : Result ℕ Refusal) (after : List ℕ)
    → WritesChannel κs block out y after → Exactly (160 ≤ length out.now) (written_reply y)
channel_write_exactly κs block out y after p = exactly (of_outcome p) (channel_written_exactly out.now (channel_block_meant block))

pub list_equal_exactly : (κs : Lfts 2) (next : ℕ) (links : Slice) (length : ℕ) (out : Room) (y : Result ℕ Refusal) (after : List ℕ)
    → WritesEqual κs next links length out y after → Exactly (ListFits out.now links.now (equal length)) (written_reply y)
list_equal_exactly κs next links length out y after p = exactly (of_outcome p) (list_written_exactly out.now next links.now (equal length))

pub list_variable_exactly : (κs : Lfts 3) (next : ℕ) (links offsets : Slice) (out : Room) (y : Result ℕ Refusal) (after : List ℕ)
    → WritesVariable κs next links offsets out y after → Exactly (ListFits out.now links.now (variable offsets.now)) (written_reply y)
list_variable_exactly κs next links offsets out y after p =
    exactly (of_outcome p) (list_written_exactly out.now next links.now (variable offsets.now))

-- ---- a text

module _ (κs : Lfts 2) (encoding : Encoding) (bytes : Slice) (out : Room) (y : Result TextLeft Refusal) (after : List ℕ) (p : WritesText κs encoding bytes out y after) where
  pub text_write_exactly : Exactly (length (text_of (encoding_of encoding) bytes.now).bytes ≤ length out.now) (text_reply y)
  text_write_exactly = exactly (of_outcome p) (text_written_exactly out.now (encoding_of encoding) bytes.now)

  -- into twice its bytes, and no fewer than 17, every text is written
  pub text_write_answers : Bytes bytes.now → room (length bytes.now) ≤ length out.now → (t : TextWritten) × (text_reply y ≡ answer t)
  text_write_answers b l = text_write_exactly.answers (omega (arith, text_room (encoding_of encoding) bytes.now b))

-- ---- a field

pub value_read_exactly : (κs : Lfts 1) (bytes : Slice) (id_size : ℕ) (channel : Channel) (y : Result DecodedValue Refusal)
    → ReadsValue κs bytes id_size channel y → Exactly (FieldStands bytes.now id_size (channel_meant channel)) (value_reply y)
value_read_exactly κs bytes id_size channel y p = exactly p (value_exactly bytes.now id_size (channel_meant channel))

pub valid_value_read_exactly : (κs : Lfts 1) (bytes : Slice) (group : Group) (channel : Channel) (y : Result DecodedChannelValue Refusal)
    → ReadsValidValue κs bytes group channel y → Exactly (FieldStands bytes.now (group_meant group).id_size (channel_meant channel)) (valid_value_reply y)
valid_value_read_exactly κs bytes group channel y p = exactly p (valid_value_exactly bytes.now (group_meant group) (channel_meant channel))

pub bounded_value_read_exactly : (κs : Lfts 1) (bytes : Slice) (group : Group) (channel : Channel) (y : Result DecodedChannelValue Refusal)
    → ReadsBoundedValue κs bytes group channel y → Exactly (BoundedStands bytes.now (group_meant group) (channel_meant channel)) (valid_value_reply y)
bounded_value_read_exactly κs bytes group channel y p = exactly p (bounded_value_exactly bytes.now (group_meant group) (channel_meant channel))

pub bounded_validity_exactly : (κs : Lfts 1) (bytes : Slice) (group : Group) (channel : Channel) (y : Result Bool Refusal)
    → ChecksBoundedValidity κs bytes group channel y → Exactly (InArea (length bytes.now) (group_meant group) (channel_meant channel)) (validity_reply y)
bounded_validity_exactly κs bytes group channel y p = exactly p (bounded_valid_exactly bytes.now (group_meant group) (channel_meant channel))

-- ---- a chain

pub chain_length_exactly : (κs : Lfts 1) (file : Slice) (start : FileAddress) (y : Result DataPosition Refusal)
    → ReadsLength κs file start y → Exactly (Joinable file.now start.0) (chain_reply y)
chain_length_exactly κs file start y p = exactly p (length_exactly file.now start.0)

-- ---- a record

pub record_read_exactly : (κs : Lfts 2) (file : Slice) (start : FileAddress) (number size : ℕ) (out : Room) (y : Result (Unit {0}) Refusal) (after : List ℕ)
    → ReadsRecord κs file start number size out y after → Exactly (Fetchable file.now start.0 number size out.now) (record_reply y)
record_read_exactly κs file start number size out y after p = exactly (of_outcome p) (fetched_exactly file.now start.0 number size out.now)

pub record_value_exactly : (κs : Lfts 2) (file : Slice) (start : FileAddress) (number size : ℕ) (group : Group) (channel : Channel) (out : Room) (y : Result DecodedChannelValue Refusal) (after : List ℕ)
    → ReadsRecordValue κs file start number size group channel out y after
    → Exactly (ValueFetchable file.now start.0 number size (group_meant group) (channel_meant channel) out.now) (valid_value_reply y)
record_value_exactly κs file start number size group channel out y after p =
    exactly (of_outcome p) (value_fetched_exactly file.now start.0 number size out.now (group_meant group) (channel_meant channel))
