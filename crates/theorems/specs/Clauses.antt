-- The clause of each call of the library, as a fact of its arguments, its result y and, where it is lent a buffer to write to,
-- what the buffer holds afterwards.
use Rattle.std.specs.Prelude.{ℕ, List, Bool, Result}
use contract.Lifetimes.{Lfts}
use Rattle.refusals.specs.declared.Refusal.{Refusal}
use Rattle.mf4.specs.Clauses.{Slice, Room, Allows}
use Rattle.blocks.specs.declared.header.BlockHeader.{BlockHeader}
use Rattle.data_types.specs.declared.data_type.DataType.{DataType}
use Rattle.blocks.specs.declared.data_list.DataListBlock.{DataListBlock}
use Rattle.channels.specs.declared.channel_block.ChannelBlock.{ChannelBlock}
use Rattle.encodings.specs.declared.encoding.Encoding.{Encoding}
use Rattle.text.specs.declared.answer.TextWritten.{TextWritten}
use Rattle.fields.specs.declared.channel.Channel.{Channel}
use Rattle.fields.specs.declared.group.Group.{Group}
use Rattle.fields.specs.declared.value.DecodedValue.{DecodedValue}
use Rattle.fields.specs.declared.value.DecodedChannelValue.{DecodedChannelValue}
use Rattle.encoder.specs.declared.number.NumberGiven.{NumberGiven}
use Rattle.places.specs.declared.place.FileAddress.{FileAddress}
use Rattle.places.specs.declared.place.DataPosition.{DataPosition}
use Rattle.payloads.specs.declared.value.DecodedPayload.{DecodedPayload}
use Rattle.tally.specs.declared.report.Report.{Report}
use Rattle.blocks.proofs.header.BlockHeader.from_bytes.Kinds as header_read_kinds
use Rattle.blocks.proofs.header.BlockHeader.from_bytes.Reads as header_read
use Rattle.blocks.proofs.header.BlockHeader.to_bytes.Kinds as header_write_kinds
use Rattle.blocks.proofs.header.BlockHeader.to_bytes.Reads as header_write
use Rattle.data_types.proofs.data_type.DataType.from_u8.Kinds as type_read_kinds
use Rattle.data_types.proofs.data_type.DataType.from_u8.Reads as type_read
use Rattle.data_types.proofs.data_type.DataType.to_u8.Kinds as type_code_kinds
use Rattle.data_types.proofs.data_type.DataType.to_u8.Reads as type_code
use Rattle.blocks.proofs.data_list.DataListBlock.from_bytes.Kinds as list_read_kinds
use Rattle.blocks.proofs.data_list.DataListBlock.from_bytes.Reads as list_read
use Rattle.blocks.proofs.data_list.DataListBlock.write_equal.Kinds as list_equal_kinds
use Rattle.blocks.proofs.data_list.DataListBlock.write_equal.Reads as list_equal
use Rattle.blocks.proofs.data_list.DataListBlock.write_variable.Kinds as list_variable_kinds
use Rattle.blocks.proofs.data_list.DataListBlock.write_variable.Reads as list_variable
use Rattle.channels.proofs.channel_block.ChannelBlock.from_bytes.Kinds as channel_read_kinds
use Rattle.channels.proofs.channel_block.ChannelBlock.from_bytes.Reads as channel_read
use Rattle.channels.proofs.channel_block.ChannelBlock.to_bytes.Kinds as channel_write_kinds
use Rattle.channels.proofs.channel_block.ChannelBlock.to_bytes.Reads as channel_write
use Rattle.channels.proofs.channel_block.ChannelBlock.channel.Kinds as channel_describe_kinds
use Rattle.channels.proofs.channel_block.ChannelBlock.channel.Reads as channel_describe
use Rattle.text.proofs.write_text.Kinds as text_write_kinds
use Rattle.text.proofs.write_text.Reads as text_write
use Rattle.decoder.proofs.decode_channel_value.Kinds as value_read_kinds
use Rattle.decoder.proofs.decode_channel_value.Reads as value_read
use Rattle.decoder.proofs.decode_channel_value_with_validity.Kinds as valid_value_read_kinds
use Rattle.decoder.proofs.decode_channel_value_with_validity.Reads as valid_value_read
use Rattle.fields.proofs.check_value_validity.Kinds as validity_kinds
use Rattle.fields.proofs.check_value_validity.Reads as validity
use Rattle.decoder.proofs.decode_channel_value_with_bounded_validity.Kinds as bounded_value_read_kinds
use Rattle.decoder.proofs.decode_channel_value_with_bounded_validity.Reads as bounded_value_read
use Rattle.fields.proofs.check_bounded_validity.Kinds as bounded_validity_kinds
use Rattle.fields.proofs.check_bounded_validity.Reads as bounded_validity
use Rattle.decoder.proofs.decode_f64_from_record.Kinds as record_double_kinds
use Rattle.decoder.proofs.decode_f64_from_record.Reads as record_double
use Rattle.encoder.proofs.encode_channel_value.Kinds as value_write_kinds
use Rattle.encoder.proofs.encode_channel_value.Reads as value_write
use Rattle.chain.proofs.data_length.Kinds as chain_length_kinds
use Rattle.chain.proofs.data_length.Reads as chain_length
use Rattle.records.proofs.read_record.Kinds as record_read_kinds
use Rattle.records.proofs.read_record.Reads as record_read
use Rattle.records.proofs.read_value.Kinds as record_value_kinds
use Rattle.records.proofs.read_value.Reads as record_value
use Rattle.table.proofs.open_table.Kinds as table_open_kinds
use Rattle.table.proofs.open_table.Reads as table_open
use Rattle.table.proofs.extend_table.Kinds as table_extend_kinds
use Rattle.table.proofs.extend_table.Reads as table_extend
use Rattle.table.proofs.shorten_table.Kinds as table_shorten_kinds
use Rattle.table.proofs.shorten_table.Reads as table_shorten
use Rattle.table.proofs.fetch_record.Kinds as table_record_kinds
use Rattle.table.proofs.fetch_record.Reads as table_record
use Rattle.table.proofs.fetch_value.Kinds as table_value_kinds
use Rattle.table.proofs.fetch_value.Reads as table_value
use Rattle.payloads.proofs.read_payload.Kinds as record_payload_kinds
use Rattle.payloads.proofs.read_payload.Reads as record_payload
use Rattle.report.proofs.report_channel.Kinds as channel_report_kinds
use Rattle.report.proofs.report_channel.Reads as channel_report

-- ---- blocks

abbrev pub ReadsHeader : Lfts 1 → Slice → Result BlockHeader Refusal → Type 0
ReadsHeader κs bytes y = Allows 1 header_read_kinds.ps header_read_kinds.r header_read.Learnt κs (bytes, tt) y (tt, tt)

abbrev pub WritesHeader : Lfts 1 → BlockHeader → Room → Result ℕ Refusal → List ℕ → Type 0
WritesHeader κs header out y after = Allows 1 header_write_kinds.ps header_write_kinds.r header_write.Learnt κs (header, (out, tt)) y (tt, (after, tt))

abbrev pub ReadsList : Lfts 1 → Slice → Result DataListBlock Refusal → Type 0
ReadsList κs bytes y = Allows 1 list_read_kinds.ps list_read_kinds.r list_read.Learnt κs (bytes, tt) y (tt, tt)

abbrev pub WritesEqual : Lfts 2 → ℕ → Slice → ℕ → Room → Result ℕ Refusal → List ℕ → Type 0
WritesEqual κs next links length out y after =
    Allows 2 list_equal_kinds.ps list_equal_kinds.r list_equal.Learnt κs (next, (links, (length, (out, tt)))) y (tt, (tt, (tt, (after, tt))))

abbrev pub WritesVariable : Lfts 3 → ℕ → Slice → Slice → Room → Result ℕ Refusal → List ℕ → Type 0
WritesVariable κs next links offsets out y after =
    Allows 3 list_variable_kinds.ps list_variable_kinds.r list_variable.Learnt κs (next, (links, (offsets, (out, tt)))) y (tt, (tt, (tt, (after, tt))))

abbrev pub ReadsChannel : Lfts 1 → Slice → Result ChannelBlock Refusal → Type 0
ReadsChannel κs bytes y = Allows 1 channel_read_kinds.ps channel_read_kinds.r channel_read.Learnt κs (bytes, tt) y (tt, tt)

abbrev pub WritesChannel : Lfts 1 → ChannelBlock → Room → Result ℕ Refusal → List ℕ → Type 0
WritesChannel κs block out y after = Allows 1 channel_write_kinds.ps channel_write_kinds.r channel_write.Learnt κs (block, (out, tt)) y (tt, (after, tt))

abbrev pub DescribesChannel : Lfts 0 → ChannelBlock → Channel → Type 0
DescribesChannel κs block y = Allows 0 channel_describe_kinds.ps channel_describe_kinds.r channel_describe.Learnt κs (block, tt) y (tt, tt)

-- ---- a type

abbrev pub ReadsType : Lfts 0 → ℕ → DataType → Type 0
ReadsType κs code y = Allows 0 type_read_kinds.ps type_read_kinds.r type_read.Learnt κs (code, tt) y (tt, tt)

abbrev pub GivesCode : Lfts 0 → DataType → ℕ → Type 0
GivesCode κs type y = Allows 0 type_code_kinds.ps type_code_kinds.r type_code.Learnt κs (type, tt) y (tt, tt)

-- ---- a text

abbrev pub WritesText : Lfts 2 → Encoding → Slice → Room → Result TextWritten Refusal → List ℕ → Type 0
WritesText κs encoding bytes out y after =
    Allows 2 text_write_kinds.ps text_write_kinds.r text_write.Learnt κs (encoding, (bytes, (out, tt))) y (tt, (tt, (after, tt)))

-- ---- a field

abbrev pub ReadsValue : Lfts 1 → Slice → ℕ → Channel → Result DecodedValue Refusal → Type 0
ReadsValue κs bytes id_size channel y =
    Allows 1 value_read_kinds.ps value_read_kinds.r value_read.Learnt κs (bytes, (id_size, (channel, tt))) y (tt, (tt, (tt, tt)))

abbrev pub ReadsValidValue : Lfts 1 → Slice → Group → Channel → Result DecodedChannelValue Refusal → Type 0
ReadsValidValue κs bytes group channel y =
    Allows 1 valid_value_read_kinds.ps valid_value_read_kinds.r valid_value_read.Learnt κs (bytes, (group, (channel, tt))) y (tt, (tt, (tt, tt)))

abbrev pub ChecksValidity : Lfts 1 → Slice → Group → Channel → Bool → Type 0
ChecksValidity κs bytes group channel y =
    Allows 1 validity_kinds.ps validity_kinds.r validity.Learnt κs (bytes, (group, (channel, tt))) y (tt, (tt, (tt, tt)))

abbrev pub ReadsBoundedValue : Lfts 1 → Slice → Group → Channel → Result DecodedChannelValue Refusal → Type 0
ReadsBoundedValue κs bytes group channel y =
    Allows 1 bounded_value_read_kinds.ps bounded_value_read_kinds.r bounded_value_read.Learnt κs (bytes, (group, (channel, tt))) y (tt, (tt, (tt, tt)))

abbrev pub ChecksBoundedValidity : Lfts 1 → Slice → Group → Channel → Result Bool Refusal → Type 0
ChecksBoundedValidity κs bytes group channel y =
    Allows 1 bounded_validity_kinds.ps bounded_validity_kinds.r bounded_validity.Learnt κs (bytes, (group, (channel, tt))) y (tt, (tt, (tt, tt)))

abbrev pub ReadsDouble : Lfts 1 → Slice → ℕ → Channel → ℕ → Type 0
ReadsDouble κs bytes id_size channel y =
    Allows 1 record_double_kinds.ps record_double_kinds.r record_double.Learnt κs (bytes, (id_size, (channel, tt))) y (tt, (tt, (tt, tt)))

abbrev pub WritesValue : Lfts 1 → ℕ → Channel → NumberGiven → Room → Result (Unit {0}) Refusal → List ℕ → Type 0
WritesValue κs id_size channel given bytes y after =
    Allows 1 value_write_kinds.ps value_write_kinds.r value_write.Learnt κs (id_size, (channel, (given, (bytes, tt)))) y (tt, (tt, (tt, (after, tt))))

-- ---- a chain

abbrev pub ReadsLength : Lfts 1 → Slice → FileAddress → Result DataPosition Refusal → Type 0
ReadsLength κs file start y =
    Allows 1 chain_length_kinds.ps chain_length_kinds.r chain_length.Learnt κs (file, (start, tt)) y (tt, (tt, tt))

-- ---- a record

abbrev pub ReadsRecord : Lfts 2 → Slice → FileAddress → ℕ → ℕ → Room → Result (Unit {0}) Refusal → List ℕ → Type 0
ReadsRecord κs file start number size out y after =
    Allows 2 record_read_kinds.ps record_read_kinds.r record_read.Learnt κs
    (file, (start, (number, (size, (out, tt))))) y (tt, (tt, (tt, (tt, (after, tt)))))

abbrev pub ReadsRecordValue : Lfts 2 → Slice → FileAddress → ℕ → ℕ → Group → Channel → Room → Result DecodedChannelValue Refusal → List ℕ → Type 0
ReadsRecordValue κs file start number size group channel out y after =
    Allows 2 record_value_kinds.ps record_value_kinds.r record_value.Learnt κs
    (file, (start, (number, (size, (group, (channel, (out, tt))))))) y
    (tt, (tt, (tt, (tt, (tt, (tt, (after, tt)))))))

-- ---- a table, which is lent as a slice of its words

abbrev pub OpensTable : Lfts 2 → Slice → FileAddress → Room → Result (Unit {0}) Refusal → List ℕ → Type 0
OpensTable κs file start table y after =
    Allows 2 table_open_kinds.ps table_open_kinds.r table_open.Learnt κs (file, (start, (table, tt))) y (tt, (tt, (after, tt)))

abbrev pub ExtendsTable : Lfts 2 → Slice → FileAddress → Room → Result (Unit {0}) Refusal → List ℕ → Type 0
ExtendsTable κs file block table y after =
    Allows 2 table_extend_kinds.ps table_extend_kinds.r table_extend.Learnt κs (file, (block, (table, tt))) y (tt, (tt, (after, tt)))

abbrev pub ShortensTable : Lfts 1 → Room → Result (Unit {0}) Refusal → List ℕ → Type 0
ShortensTable κs table y after = Allows 1 table_shorten_kinds.ps table_shorten_kinds.r table_shorten.Learnt κs (table, tt) y (after, tt)

abbrev pub FetchesRecord : Lfts 3 → Slice → Slice → ℕ → ℕ → Room → Result (Unit {0}) Refusal → List ℕ → Type 0
FetchesRecord κs file table number size out y after =
    Allows 3 table_record_kinds.ps table_record_kinds.r table_record.Learnt κs
    (file, (table, (number, (size, (out, tt))))) y (tt, (tt, (tt, (tt, (after, tt)))))

abbrev pub FetchesValue : Lfts 3 → Slice → Slice → ℕ → ℕ → Group → Channel → Room → Result DecodedChannelValue Refusal → List ℕ → Type 0
FetchesValue κs file table number size group channel out y after =
    Allows 3 table_value_kinds.ps table_value_kinds.r table_value.Learnt κs
    (file, (table, (number, (size, (group, (channel, (out, tt))))))) y
    (tt, (tt, (tt, (tt, (tt, (tt, (after, tt)))))))

-- ---- a payload

abbrev pub ReadsPayload : Lfts 3 → Slice → FileAddress → ℕ → ℕ → Group → Channel → Room → Room → Result DecodedPayload Refusal → List ℕ → List ℕ → Type 0
ReadsPayload κs file start number size group channel out room y after later =
    Allows 3 record_payload_kinds.ps record_payload_kinds.r record_payload.Learnt κs
    (file, (start, (number, (size, (group, (channel, (out, (room, tt)))))))) y
    (tt, (tt, (tt, (tt, (tt, (tt, (after, (later, tt))))))))

-- ---- a report

abbrev pub ReportsChannel : Lfts 2 → Slice → FileAddress → ℕ → Group → Channel → Room → Result Report Refusal → List ℕ → Type 0
ReportsChannel κs file start size group channel out y after =
    Allows 2 channel_report_kinds.ps channel_report_kinds.r channel_report.Learnt κs
    (file, (start, (size, (group, (channel, (out, tt)))))) y
    (tt, (tt, (tt, (tt, (tt, (after, tt))))))
