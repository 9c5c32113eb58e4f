-- The clause of each call for C, as a fact of its arguments, its result y and, where it is lent a buffer to write to, what the
-- buffer holds afterwards.
use Rattle.std.specs.Prelude.{ℕ, List}
use contract.Lifetimes.{Lfts}
use Rattle.definitions.specs.Bytes.{little, big}
use Rattle.definitions.specs.Unicode.{Encoding, latin1, utf8, utf16}
use Rattle.mf4.specs.Clauses.{Slice, Room, Allows}
use Rattle.block_replies.specs.declared.header.Mf4Header.{Mf4Header}
use Rattle.block_replies.specs.declared.header.Mf4HeaderReply.{Mf4HeaderReply}
use Rattle.block_replies.specs.declared.list.Mf4ListReply.{Mf4ListReply}
use Rattle.block_replies.specs.declared.channel_block.Mf4ChannelBlock.{Mf4ChannelBlock}
use Rattle.block_replies.specs.declared.channel_block.Mf4ChannelReply.{Mf4ChannelReply}
use Rattle.block_replies.specs.declared.written.Mf4WrittenReply.{Mf4WrittenReply}
use Rattle.replies.specs.declared.texts.Mf4TextReply.{Mf4TextReply}
use Rattle.block_replies.specs.declared.channel.Mf4Channel.{Mf4Channel}
use Rattle.replies.specs.declared.group.Mf4Group.{Mf4Group}
use Rattle.replies.specs.declared.values.Mf4ValueReply.{Mf4ValueReply}
use Rattle.replies.specs.declared.valid_values.Mf4ValidValueReply.{Mf4ValidValueReply}
use Rattle.replies.specs.declared.validity.Mf4ValidityReply.{Mf4ValidityReply}
use Rattle.replies.specs.declared.fetches.Mf4LengthReply.{Mf4LengthReply}
use Rattle.replies.specs.declared.done.Mf4DoneReply.{Mf4DoneReply}
use Rattle.replies.specs.declared.payload.Mf4PayloadReply.{Mf4PayloadReply}
use Rattle.replies.specs.declared.reports.Mf4ReportReply.{Mf4ReportReply}
use Rattle.replies.specs.declared.stored.Mf4Number.{Mf4Number}
use Rattle.mf4.proofs.mf4_read_header.Kinds as read_header_kinds
use Rattle.mf4.proofs.mf4_read_header.Reads as read_header
use Rattle.mf4.proofs.mf4_write_header.Kinds as write_header_kinds
use Rattle.mf4.proofs.mf4_write_header.Reads as write_header
use Rattle.mf4.proofs.mf4_type_code.Kinds as type_code_kinds
use Rattle.mf4.proofs.mf4_type_code.Reads as type_code
use Rattle.mf4.proofs.mf4_read_list.Kinds as read_list_kinds
use Rattle.mf4.proofs.mf4_read_list.Reads as read_list
use Rattle.mf4.proofs.mf4_write_list_equal.Kinds as write_equal_kinds
use Rattle.mf4.proofs.mf4_write_list_equal.Reads as write_equal
use Rattle.mf4.proofs.mf4_write_list_variable.Kinds as write_variable_kinds
use Rattle.mf4.proofs.mf4_write_list_variable.Reads as write_variable
use Rattle.mf4.proofs.mf4_read_channel.Kinds as read_channel_kinds
use Rattle.mf4.proofs.mf4_read_channel.Reads as read_channel
use Rattle.mf4.proofs.mf4_write_channel.Kinds as write_channel_kinds
use Rattle.mf4.proofs.mf4_write_channel.Reads as write_channel
use Rattle.mf4.proofs.mf4_text_latin1.Kinds as text_latin1_kinds
use Rattle.mf4.proofs.mf4_text_latin1.Reads as text_latin1
use Rattle.mf4.proofs.mf4_text_utf8.Kinds as text_utf8_kinds
use Rattle.mf4.proofs.mf4_text_utf8.Reads as text_utf8
use Rattle.mf4.proofs.mf4_text_utf16_le.Kinds as text_utf16_le_kinds
use Rattle.mf4.proofs.mf4_text_utf16_le.Reads as text_utf16_le
use Rattle.mf4.proofs.mf4_text_utf16_be.Kinds as text_utf16_be_kinds
use Rattle.mf4.proofs.mf4_text_utf16_be.Reads as text_utf16_be
use Rattle.mf4.proofs.mf4_decode_value.Kinds as decode_value_kinds
use Rattle.mf4.proofs.mf4_decode_value.Reads as decode_value
use Rattle.mf4.proofs.mf4_decode_valid_value.Kinds as decode_valid_value_kinds
use Rattle.mf4.proofs.mf4_decode_valid_value.Reads as decode_valid_value
use Rattle.mf4.proofs.mf4_check_validity.Kinds as check_validity_kinds
use Rattle.mf4.proofs.mf4_check_validity.Reads as check_validity
use Rattle.mf4.proofs.mf4_decode_valid_value_unbounded.Kinds as decode_unbounded_kinds
use Rattle.mf4.proofs.mf4_decode_valid_value_unbounded.Reads as decode_unbounded
use Rattle.mf4.proofs.mf4_check_validity_unbounded.Kinds as check_unbounded_kinds
use Rattle.mf4.proofs.mf4_check_validity_unbounded.Reads as check_unbounded
use Rattle.mf4.proofs.mf4_decode_double_bits.Kinds as decode_double_kinds
use Rattle.mf4.proofs.mf4_decode_double_bits.Reads as decode_double
use Rattle.mf4.proofs.mf4_data_length.Kinds as data_length_kinds
use Rattle.mf4.proofs.mf4_data_length.Reads as data_length
use Rattle.mf4.proofs.mf4_read_record.Kinds as read_record_kinds
use Rattle.mf4.proofs.mf4_read_record.Reads as read_record
use Rattle.mf4.proofs.mf4_record_value.Kinds as record_value_kinds
use Rattle.mf4.proofs.mf4_record_value.Reads as record_value
use Rattle.mf4.proofs.mf4_write_value.Kinds as write_value_kinds
use Rattle.mf4.proofs.mf4_write_value.Reads as write_value
use Rattle.mf4.proofs.mf4_open_table.Kinds as open_table_kinds
use Rattle.mf4.proofs.mf4_open_table.Reads as open_table
use Rattle.mf4.proofs.mf4_extend_table.Kinds as extend_table_kinds
use Rattle.mf4.proofs.mf4_extend_table.Reads as extend_table
use Rattle.mf4.proofs.mf4_shorten_table.Kinds as shorten_table_kinds
use Rattle.mf4.proofs.mf4_shorten_table.Reads as shorten_table
use Rattle.mf4.proofs.mf4_table_record.Kinds as table_record_kinds
use Rattle.mf4.proofs.mf4_table_record.Reads as table_record
use Rattle.mf4.proofs.mf4_table_value.Kinds as table_value_kinds
use Rattle.mf4.proofs.mf4_table_value.Reads as table_value
use Rattle.mf4.proofs.mf4_record_payload.Kinds as record_payload_kinds
use Rattle.mf4.proofs.mf4_record_payload.Reads as record_payload
use Rattle.mf4.proofs.mf4_report.Kinds as report_kinds
use Rattle.mf4.proofs.mf4_report.Reads as report

-- ---- blocks

abbrev pub ReadsHeaderC : Lfts 1 → Slice → Mf4HeaderReply → Type 0
ReadsHeaderC κs bytes y = Allows 1 read_header_kinds.ps read_header_kinds.r read_header.Learnt κs (bytes, tt) y (tt, tt)

abbrev pub WritesHeaderC : Lfts 1 → Mf4Header → Room → Mf4WrittenReply → List ℕ → Type 0
WritesHeaderC κs header out y after = Allows 1 write_header_kinds.ps write_header_kinds.r write_header.Learnt κs (header, (out, tt)) y (tt, (after, tt))

abbrev pub GivesCodeC : Lfts 0 → ℕ → ℕ → Type 0
GivesCodeC κs code y = Allows 0 type_code_kinds.ps type_code_kinds.r type_code.Learnt κs (code, tt) y (tt, tt)

abbrev pub ReadsListC : Lfts 1 → Slice → Mf4ListReply → Type 0
ReadsListC κs bytes y = Allows 1 read_list_kinds.ps read_list_kinds.r read_list.Learnt κs (bytes, tt) y (tt, tt)

abbrev pub WritesEqualC : Lfts 2 → ℕ → Slice → ℕ → Room → Mf4WrittenReply → List ℕ → Type 0
WritesEqualC κs next links length out y after =
    Allows 2 write_equal_kinds.ps write_equal_kinds.r write_equal.Learnt κs (next, (links, (length, (out, tt)))) y (tt, (tt, (tt, (after, tt))))

abbrev pub WritesVariableC : Lfts 3 → ℕ → Slice → Slice → Room → Mf4WrittenReply → List ℕ → Type 0
WritesVariableC κs next links offsets out y after =
    Allows 3 write_variable_kinds.ps write_variable_kinds.r write_variable.Learnt κs (next, (links, (offsets, (out, tt)))) y (tt, (tt, (tt, (after, tt))))

abbrev pub ReadsChannelC : Lfts 1 → Slice → Mf4ChannelReply → Type 0
ReadsChannelC κs bytes y = Allows 1 read_channel_kinds.ps read_channel_kinds.r read_channel.Learnt κs (bytes, tt) y (tt, tt)

abbrev pub WritesChannelC : Lfts 1 → Mf4ChannelBlock → Room → Mf4WrittenReply → List ℕ → Type 0
WritesChannelC κs block out y after = Allows 1 write_channel_kinds.ps write_channel_kinds.r write_channel.Learnt κs (block, (out, tt)) y (tt, (after, tt))

-- ---- a text: the call for its encoding

abbrev pub WritesTextC : Encoding → Lfts 2 → Slice → Room → Mf4TextReply → List ℕ → Type 0
WritesTextC latin1 κs bytes out y after = Allows 2 text_latin1_kinds.ps text_latin1_kinds.r text_latin1.Learnt κs (bytes, (out, tt)) y (tt, (after, tt))
WritesTextC utf8 κs bytes out y after = Allows 2 text_utf8_kinds.ps text_utf8_kinds.r text_utf8.Learnt κs (bytes, (out, tt)) y (tt, (after, tt))
WritesTextC (utf16 little) κs bytes out y after = Allows 2 text_utf16_le_kinds.ps text_utf16_le_kinds.r text_utf16_le.Learnt κs (bytes, (out, tt)) y (tt, (after, tt))
WritesTextC (utf16 big) κs bytes out y after = Allows 2 text_utf16_be_kinds.ps text_utf16_be_kinds.r text_utf16_be.Learnt κs (bytes, (out, tt)) y (tt, (after, tt))

-- ---- a field

abbrev pub ReadsValueC : Lfts 1 → Slice → ℕ → Mf4Channel → Mf4ValueReply → Type 0
ReadsValueC κs bytes id_size channel y =
    Allows 1 decode_value_kinds.ps decode_value_kinds.r decode_value.Learnt κs (bytes, (id_size, (channel, tt))) y (tt, (tt, (tt, tt)))

abbrev pub ReadsValidValueC : Lfts 1 → Slice → Mf4Group → Mf4Channel → Mf4ValidValueReply → Type 0
ReadsValidValueC κs bytes group channel y =
    Allows 1 decode_valid_value_kinds.ps decode_valid_value_kinds.r decode_valid_value.Learnt κs (bytes, (group, (channel, tt))) y (tt, (tt, (tt, tt)))

abbrev pub ChecksValidityC : Lfts 1 → Slice → Mf4Group → Mf4Channel → Mf4ValidityReply → Type 0
ChecksValidityC κs bytes group channel y =
    Allows 1 check_validity_kinds.ps check_validity_kinds.r check_validity.Learnt κs (bytes, (group, (channel, tt))) y (tt, (tt, (tt, tt)))

abbrev pub ReadsUnboundedC : Lfts 1 → Slice → Mf4Group → Mf4Channel → Mf4ValidValueReply → Type 0
ReadsUnboundedC κs bytes group channel y =
    Allows 1 decode_unbounded_kinds.ps decode_unbounded_kinds.r decode_unbounded.Learnt κs (bytes, (group, (channel, tt))) y (tt, (tt, (tt, tt)))

abbrev pub ChecksUnboundedC : Lfts 1 → Slice → Mf4Group → Mf4Channel → ℕ → Type 0
ChecksUnboundedC κs bytes group channel y =
    Allows 1 check_unbounded_kinds.ps check_unbounded_kinds.r check_unbounded.Learnt κs (bytes, (group, (channel, tt))) y (tt, (tt, (tt, tt)))

abbrev pub ReadsDoubleC : Lfts 1 → Slice → ℕ → Mf4Channel → ℕ → Type 0
ReadsDoubleC κs bytes id_size channel y =
    Allows 1 decode_double_kinds.ps decode_double_kinds.r decode_double.Learnt κs (bytes, (id_size, (channel, tt))) y (tt, (tt, (tt, tt)))

abbrev pub WritesValueC : Lfts 1 → ℕ → Mf4Channel → Mf4Number → Room → Mf4DoneReply → List ℕ → Type 0
WritesValueC κs id_size channel value bytes y after =
    Allows 1 write_value_kinds.ps write_value_kinds.r write_value.Learnt κs (id_size, (channel, (value, (bytes, tt)))) y (tt, (tt, (tt, (after, tt))))

-- ---- the joined data, a record of it, and a value in that

abbrev pub ReadsLengthC : Lfts 1 → Slice → ℕ → Mf4LengthReply → Type 0
ReadsLengthC κs file start y = Allows 1 data_length_kinds.ps data_length_kinds.r data_length.Learnt κs (file, (start, tt)) y (tt, (tt, tt))

abbrev pub ReadsRecordC : Lfts 2 → Slice → ℕ → ℕ → ℕ → Room → Mf4DoneReply → List ℕ → Type 0
ReadsRecordC κs file start number size out y after =
    Allows 2 read_record_kinds.ps read_record_kinds.r read_record.Learnt κs
    (file, (start, (number, (size, (out, tt))))) y (tt, (tt, (tt, (tt, (after, tt)))))

abbrev pub ReadsRecordValueC : Lfts 2 → Slice → ℕ → ℕ → ℕ → Mf4Group → Mf4Channel → Room → Mf4ValidValueReply → List ℕ → Type 0
ReadsRecordValueC κs file start number size group channel out y after =
    Allows 2 record_value_kinds.ps record_value_kinds.r record_value.Learnt κs
    (file, (start, (number, (size, (group, (channel, (out, tt))))))) y
    (tt, (tt, (tt, (tt, (tt, (tt, (after, tt)))))))

-- ---- a table

abbrev pub OpensTableC : Lfts 2 → Slice → ℕ → Room → Mf4DoneReply → List ℕ → Type 0
OpensTableC κs file start table y after =
    Allows 2 open_table_kinds.ps open_table_kinds.r open_table.Learnt κs (file, (start, (table, tt))) y (tt, (tt, (after, tt)))

abbrev pub ExtendsTableC : Lfts 2 → Slice → ℕ → Room → Mf4DoneReply → List ℕ → Type 0
ExtendsTableC κs file block table y after =
    Allows 2 extend_table_kinds.ps extend_table_kinds.r extend_table.Learnt κs (file, (block, (table, tt))) y (tt, (tt, (after, tt)))

abbrev pub ShortensTableC : Lfts 1 → Room → Mf4DoneReply → List ℕ → Type 0
ShortensTableC κs table y after = Allows 1 shorten_table_kinds.ps shorten_table_kinds.r shorten_table.Learnt κs (table, tt) y (after, tt)

abbrev pub FetchesRecordC : Lfts 3 → Slice → Slice → ℕ → ℕ → Room → Mf4DoneReply → List ℕ → Type 0
FetchesRecordC κs file table number size out y after =
    Allows 3 table_record_kinds.ps table_record_kinds.r table_record.Learnt κs
    (file, (table, (number, (size, (out, tt))))) y (tt, (tt, (tt, (tt, (after, tt)))))

abbrev pub FetchesValueC : Lfts 3 → Slice → Slice → ℕ → ℕ → Mf4Group → Mf4Channel → Room → Mf4ValidValueReply → List ℕ → Type 0
FetchesValueC κs file table number size group channel out y after =
    Allows 3 table_value_kinds.ps table_value_kinds.r table_value.Learnt κs
    (file, (table, (number, (size, (group, (channel, (out, tt))))))) y
    (tt, (tt, (tt, (tt, (tt, (tt, (after, tt)))))))

-- ---- a payload

abbrev pub ReadsPayloadC : Lfts 3 → Slice → ℕ → ℕ → ℕ → Mf4Group → Mf4Channel → Room → Room → Mf4PayloadReply → List ℕ → List ℕ → Type 0
ReadsPayloadC κs file start number size group channel out room y after later =
    Allows 3 record_payload_kinds.ps record_payload_kinds.r record_payload.Learnt κs
    (file, (start, (number, (size, (group, (channel, (out, (room, tt)))))))) y
    (tt, (tt, (tt, (tt, (tt, (tt, (after, (later, tt))))))))

-- ---- a report

abbrev pub ReportsChannelC : Lfts 2 → Slice → ℕ → ℕ → Mf4Group → Mf4Channel → Room → Mf4ReportReply → List ℕ → Type 0
ReportsChannelC κs file start size group channel out y after =
    Allows 2 report_kinds.ps report_kinds.r report.Learnt κs
    (file, (start, (size, (group, (channel, (out, tt)))))) y
    (tt, (tt, (tt, (tt, (tt, (after, tt))))))
