-- No public call has a second reply: each theorem is about the very clause of the call's contract.
use mathlib.Core.Path.{◌≡◌, refl, sym, ap, ap₂, ◌∙◌}
use mathlib.Core.List.{List}
use Prim.Native.Nat.{ℕ}
use contract.Lifetimes.{Lfts}
use contract.Monad.{fact}
use denote.Triple.Clauses.{Lasts}
use borrow.Fn.Kind.{ParamKind, ResultKind}
use borrow.Fn.Kinds.{Out, Dens, res_t, ended_of}
use Rattle.definitions.specs.Reply.{Reply, Outcome}
use Rattle.definitions.specs.Report.{Report}
use Rattle.mf4.specs.Clauses.{Allows}
use Rattle.theorems.specs.Sole.{Settled}
use Rattle.theorems.proofs.Calls.Outcomes.{of_outcome}
use Rattle.theorems.proofs.Reports.ReportsOne.{report_one}
use Rattle.blocks.specs.Meaning.{written_reply}
use Rattle.text.specs.Meaning.{text_reply}
use Rattle.fields.specs.Meaning.{valid_value_reply}
use Rattle.records.specs.Meaning.{record_reply}
use Rattle.doubles.proofs.NarrowedPatterns.{narrow_one}
use Rattle.data_types.proofs.Back.{type_one}
use Rattle.blocks.proofs.Back.{written_one, header_one, list_one}
use Rattle.channels.proofs.Back.{channel_one}
use Rattle.text.proofs.Back.{text_one}
use Rattle.fields.proofs.Back.{description_one, field_one, value_one, valid_value_one, area_one, validity_one}
use Rattle.encoder.specs.Meaning as encoder
use Rattle.encoder.proofs.Back as encoder_back
use Rattle.places.proofs.Back.{block_one}
use Rattle.chain.proofs.Back.{chain_one}
use Rattle.records.proofs.Back.{record_one}
use Rattle.table.specs.Meaning.{change_reply}
use Rattle.table.proofs.Back.{change_one}
use Rattle.payloads.proofs.Back.{payload_fetched_one}
use Rattle.refusals.proofs.Refusal.number.Kinds as refusal_number_kinds
use Rattle.refusals.proofs.Refusal.number.Reads as refusal_number
use Rattle.refusals.proofs.Refusal.told.Kinds as refusal_told_kinds
use Rattle.refusals.proofs.Refusal.told.Reads as refusal_told
use Rattle.words.proofs.swapped.Kinds as word_swapped_kinds
use Rattle.words.proofs.swapped.Reads as word_swapped
use Rattle.doubles.proofs.double_of.Kinds as double_unsigned_kinds
use Rattle.doubles.proofs.double_of.Reads as double_unsigned
use Rattle.doubles.proofs.double_of_sign.Kinds as double_by_sign_kinds
use Rattle.doubles.proofs.double_of_sign.Reads as double_by_sign
use Rattle.doubles.proofs.double_of_signed.Kinds as double_signed_kinds
use Rattle.doubles.proofs.double_of_signed.Reads as double_signed
use Rattle.doubles.proofs.widen.Kinds as double_widened_kinds
use Rattle.doubles.proofs.widen.Reads as double_widened
use Rattle.doubles.proofs.narrow.Kinds as double_narrowed_kinds
use Rattle.doubles.proofs.narrow.Reads as double_narrowed
use Rattle.doubles.proofs.value_of.Kinds as double_value_kinds
use Rattle.doubles.proofs.value_of.Reads as double_value
use Rattle.blocks.proofs.header.BlockHeader.from_bytes.Kinds as header_read_kinds
use Rattle.blocks.proofs.header.BlockHeader.from_bytes.Reads as header_read
use Rattle.blocks.proofs.header.BlockHeader.to_bytes.Kinds as header_write_kinds
use Rattle.blocks.proofs.header.BlockHeader.to_bytes.Reads as header_write
use Rattle.data_types.proofs.data_type.DataType.from_u8.Kinds as type_read_kinds
use Rattle.data_types.proofs.data_type.DataType.from_u8.Reads as type_read
use Rattle.data_types.proofs.data_type.DataType.to_u8.Kinds as type_code_kinds
use Rattle.data_types.proofs.data_type.DataType.to_u8.Reads as type_code
use Rattle.data_types.proofs.data_type.DataType.default_bits.Kinds as type_bits_kinds
use Rattle.data_types.proofs.data_type.DataType.default_bits.Reads as type_bits
use Rattle.blocks.proofs.data_list.DataListBlock.from_bytes.Kinds as list_read_kinds
use Rattle.blocks.proofs.data_list.DataListBlock.from_bytes.Reads as list_read
use Rattle.blocks.proofs.data_list.DataListBlock.write_equal.Kinds as list_equal_kinds
use Rattle.blocks.proofs.data_list.DataListBlock.write_equal.Reads as list_equal
use Rattle.blocks.proofs.data_list.DataListBlock.write_variable.Kinds as list_variable_kinds
use Rattle.blocks.proofs.data_list.DataListBlock.write_variable.Reads as list_variable
use Rattle.channels.proofs.channel_block.ChannelBlock.from_bytes.Kinds as channel_read_kinds
use Rattle.channels.proofs.channel_block.ChannelBlock.from_bytes.Reads as channel_read
use Rattle.channels.proofs.channel_block.ChannelBlock.to_bytes.Kinds as channel_write_kinds
use Rattle.channels.proofs.channel_block.ChannelBlock.to_bytes.Reads as channel_write
use Rattle.encodings.proofs.text_end.Kinds as text_end_kinds
use Rattle.encodings.proofs.text_end.Reads as text_end
use Rattle.text.proofs.write_text.Kinds as text_write_kinds
use Rattle.text.proofs.write_text.Reads as text_write
use Rattle.channels.proofs.channel_block.ChannelBlock.channel.Kinds as channel_describe_kinds
use Rattle.channels.proofs.channel_block.ChannelBlock.channel.Reads as channel_describe
use Rattle.fields.proofs.channel.Channel.is_variable_length.Kinds as variable_length_kinds
use Rattle.fields.proofs.channel.Channel.is_variable_length.Reads as variable_length
use Rattle.fields.proofs.form_of.Kinds as form_of_type_kinds
use Rattle.fields.proofs.form_of.Reads as form_of_type
use Rattle.fields.proofs.is_well_described.Kinds as well_described_kinds
use Rattle.fields.proofs.is_well_described.Reads as well_described
use Rattle.fields.proofs.is_over_a_word.Kinds as over_a_word_kinds
use Rattle.fields.proofs.is_over_a_word.Reads as over_a_word
use Rattle.fields.proofs.is_no_float_width.Kinds as no_float_width_kinds
use Rattle.fields.proofs.is_no_float_width.Reads as no_float_width
use Rattle.fields.proofs.find_field.Kinds as field_found_kinds
use Rattle.fields.proofs.find_field.Reads as field_found
use Rattle.fields.proofs.span.FieldStart.ends_outside.Kinds as field_outside_kinds
use Rattle.fields.proofs.span.FieldStart.ends_outside.Reads as field_outside
use Rattle.fields.proofs.span.FieldStart.bytes_needed.Kinds as field_needed_kinds
use Rattle.fields.proofs.span.FieldStart.bytes_needed.Reads as field_needed
use Rattle.fields.proofs.check_area.Kinds as area_kinds
use Rattle.fields.proofs.check_area.Reads as area
use Rattle.fields.proofs.check_bounded_validity.Kinds as bounded_validity_kinds
use Rattle.fields.proofs.check_bounded_validity.Reads as bounded_validity
use Rattle.fields.proofs.check_value_validity.Kinds as validity_kinds
use Rattle.fields.proofs.check_value_validity.Reads as validity
use Rattle.decoder.proofs.decode_channel_value.Kinds as value_read_kinds
use Rattle.decoder.proofs.decode_channel_value.Reads as value_read
use Rattle.decoder.proofs.decode_channel_value_with_validity.Kinds as valid_value_read_kinds
use Rattle.decoder.proofs.decode_channel_value_with_validity.Reads as valid_value_read
use Rattle.decoder.proofs.any_value.Kinds as any_value_kinds
use Rattle.decoder.proofs.any_value.Reads as any_value
use Rattle.decoder.proofs.decode_channel_value_with_bounded_validity.Kinds as bounded_value_read_kinds
use Rattle.decoder.proofs.decode_channel_value_with_bounded_validity.Reads as bounded_value_read
use Rattle.decoder.proofs.any_bounded_value.Kinds as any_bounded_value_kinds
use Rattle.decoder.proofs.any_bounded_value.Reads as any_bounded_value
use Rattle.decoder.proofs.decode_f64_from_record.Kinds as record_double_kinds
use Rattle.decoder.proofs.decode_f64_from_record.Reads as record_double
use Rattle.encoder.proofs.encode_channel_value.Kinds as value_write_kinds
use Rattle.encoder.proofs.encode_channel_value.Reads as value_write
use Rattle.places.proofs.data_block_at.Kinds as data_block_kinds
use Rattle.places.proofs.data_block_at.Reads as data_block
use Rattle.places.proofs.list_at.Kinds as chained_list_kinds
use Rattle.places.proofs.list_at.Reads as chained_list
use Rattle.chain.proofs.data_length.Kinds as chain_length_kinds
use Rattle.chain.proofs.data_length.Reads as chain_length
use Rattle.places.proofs.place.Place.start.Kinds as chain_start_kinds
use Rattle.places.proofs.place.Place.start.Reads as chain_start
use Rattle.places.proofs.place.DataPosition.is_behind.Kinds as position_behind_kinds
use Rattle.places.proofs.place.DataPosition.is_behind.Reads as position_behind
use Rattle.places.proofs.place.DataPosition.stands_in.Kinds as position_in_kinds
use Rattle.places.proofs.place.DataPosition.stands_in.Reads as position_in
use Rattle.places.proofs.place.OpenList.is_last.Kinds as open_list_last_kinds
use Rattle.places.proofs.place.OpenList.is_last.Reads as open_list_last
use Rattle.places.proofs.place.Place.has_ended.Kinds as place_ended_kinds
use Rattle.places.proofs.place.Place.has_ended.Reads as place_ended
use Rattle.records.proofs.lay.Kinds as window_lay_kinds
use Rattle.records.proofs.lay.Reads as window_lay
use Rattle.records.proofs.read_record.Kinds as record_read_kinds
use Rattle.records.proofs.read_record.Reads as record_read
use Rattle.records.proofs.read_value.Kinds as record_value_kinds
use Rattle.records.proofs.read_value.Reads as record_value
use Rattle.records.proofs.bad_size.Kinds as record_size_kinds
use Rattle.records.proofs.bad_size.Reads as record_size
use Rattle.table.proofs.open_table.Kinds as table_open_kinds
use Rattle.table.proofs.open_table.Reads as table_open
use Rattle.table.proofs.extend_table.Kinds as table_extend_kinds
use Rattle.table.proofs.extend_table.Reads as table_extend
use Rattle.table.proofs.shorten_table.Kinds as table_shorten_kinds
use Rattle.table.proofs.shorten_table.Reads as table_shorten
use Rattle.table.proofs.fetch_record.Kinds as table_record_kinds
use Rattle.table.proofs.fetch_record.Reads as table_record
use Rattle.table.proofs.fetch_value.Kinds as table_value_kinds
use Rattle.table.proofs.fetch_value.Reads as table_value
use Rattle.payloads.proofs.read_payload.Kinds as record_payload_kinds
use Rattle.payloads.proofs.read_payload.Reads as record_payload
use Rattle.tally.proofs.empty_tally.Kinds as tally_empty_kinds
use Rattle.tally.proofs.empty_tally.Reads as tally_empty
use Rattle.tally.proofs.has_marks.Kinds as tally_marks_kinds
use Rattle.tally.proofs.has_marks.Reads as tally_marks
use Rattle.slots.proofs.has_flag.Kinds as slot_flag_kinds
use Rattle.slots.proofs.has_flag.Reads as slot_flag
use Rattle.slots.proofs.is_fixed_number.Kinds as fixed_number_kinds
use Rattle.slots.proofs.is_fixed_number.Reads as fixed_number
use Rattle.report.proofs.report_channel.Kinds as channel_report_kinds
use Rattle.report.proofs.report_channel.Reads as channel_report
use Rattle.lent_channels.proofs.first_overlap.Kinds as first_overlap_kinds
use Rattle.lent_channels.proofs.first_overlap.Reads as first_overlap

-- what differs from call to call is why two replies are one; that a clause asks nothing and is the plain fact is computed
pub settled : {n : ℕ} {ps : List (ParamKind n)} {r : ResultKind n} {learnt : Out n ps r}
    → ((κs : Lfts n) (a : Dens κs ps) (y z : (res_t r κs).Denot) (b c : Lasts (ended_of n ps r) κs a)
    → Allows n ps r learnt κs a y b → Allows n ps r learnt κs a z c → (y ≡ z) × (b ≡ c))
    → Settled n ps r (λ κs a. Unit {0}) (λ κs a u y e w. fact w.𝓤 (learnt κs a y e)) learnt
settled sole = record { free = λ κs a. tt; says = λ κs a y e w. refl; sole = sole }

-- equal outcomes come of one result, and of one buffer, which stands among the lent ones at its place
one_outcome : {A Y B : Type 0} (meaning : Y → Reply A) → ((y z : Y) → meaning y ≡ meaning z → y ≡ z) → (place : List ℕ → B)
    {y z : Y} {b c : List ℕ} → ◌≡◌ {A = Outcome A} (record { reply = meaning y; buffer = b }) (record { reply = meaning z; buffer = c })
    → (y ≡ z) × (place b ≡ place c)
one_outcome {A} meaning one place {y} {z} e = (one y z (of_outcome e), ap (λ (o : Outcome A). place o.buffer) e)

-- one result and two buffers, which stand among the lent ones at their places
pub in_places : {Y B : Type 0} (place : List ℕ → List ℕ → B) {y z : Y} {a b v w : List ℕ} → (y ≡ z) × (a ≡ b) × (v ≡ w) → (y ≡ z) × (place a v ≡ place b w)
in_places place one = (one.0, ap₂ place one.1 one.2)

pub refusal_number_settled : Settled 0 refusal_number_kinds.ps refusal_number_kinds.r refusal_number.Asked refusal_number.ensures refusal_number.Learnt
refusal_number_settled = settled (λ κs a y z b c p q. (p ∙ sym q, refl))

pub refusal_told_settled : Settled 0 refusal_told_kinds.ps refusal_told_kinds.r refusal_told.Asked refusal_told.ensures refusal_told.Learnt
refusal_told_settled = settled (λ κs a y z b c p q. (p ∙ sym q, refl))

pub word_swapped_settled : Settled 0 word_swapped_kinds.ps word_swapped_kinds.r word_swapped.Asked word_swapped.ensures word_swapped.Learnt
word_swapped_settled = settled (λ κs a y z b c p q. (p ∙ sym q, refl))

pub double_unsigned_settled : Settled 0 double_unsigned_kinds.ps double_unsigned_kinds.r double_unsigned.Asked double_unsigned.ensures double_unsigned.Learnt
double_unsigned_settled = settled (λ κs a y z b c p q. (p ∙ sym q, refl))

pub double_by_sign_settled : Settled 0 double_by_sign_kinds.ps double_by_sign_kinds.r double_by_sign.Asked double_by_sign.ensures double_by_sign.Learnt
double_by_sign_settled = settled (λ κs a y z b c p q. (p ∙ sym q, refl))

pub double_signed_settled : Settled 0 double_signed_kinds.ps double_signed_kinds.r double_signed.Asked double_signed.ensures double_signed.Learnt
double_signed_settled = settled (λ κs a y z b c p q. (p ∙ sym q, refl))

pub double_widened_settled : Settled 0 double_widened_kinds.ps double_widened_kinds.r double_widened.Asked double_widened.ensures double_widened.Learnt
double_widened_settled = settled (λ κs a y z b c p q. (p ∙ sym q, refl))

pub double_narrowed_settled : Settled 0 double_narrowed_kinds.ps double_narrowed_kinds.r double_narrowed.Asked double_narrowed.ensures double_narrowed.Learnt
double_narrowed_settled = settled (λ κs a y z b c p q. (narrow_one y z (p ∙ sym q), refl))

pub double_value_settled : Settled 0 double_value_kinds.ps double_value_kinds.r double_value.Asked double_value.ensures double_value.Learnt
double_value_settled = settled (λ κs a y z b c p q. (p ∙ sym q, refl))

pub header_read_settled : Settled 1 header_read_kinds.ps header_read_kinds.r header_read.Asked header_read.ensures header_read.Learnt
header_read_settled = settled (λ κs a y z b c p q. (header_one y z (p ∙ sym q), refl))

pub header_write_settled : Settled 1 header_write_kinds.ps header_write_kinds.r header_write.Asked header_write.ensures header_write.Learnt
header_write_settled = settled (λ κs a y z b c p q. one_outcome written_reply written_one (λ out. (tt, (out, tt))) (p ∙ sym q))

pub type_read_settled : Settled 0 type_read_kinds.ps type_read_kinds.r type_read.Asked type_read.ensures type_read.Learnt
type_read_settled = settled (λ κs a y z b c p q. (type_one y z (p ∙ sym q), refl))

pub type_code_settled : Settled 0 type_code_kinds.ps type_code_kinds.r type_code.Asked type_code.ensures type_code.Learnt
type_code_settled = settled (λ κs a y z b c p q. (p ∙ sym q, refl))

pub type_bits_settled : Settled 0 type_bits_kinds.ps type_bits_kinds.r type_bits.Asked type_bits.ensures type_bits.Learnt
type_bits_settled = settled (λ κs a y z b c p q. (p ∙ sym q, refl))

pub list_read_settled : Settled 1 list_read_kinds.ps list_read_kinds.r list_read.Asked list_read.ensures list_read.Learnt
list_read_settled = settled (λ κs a y z b c p q. (list_one y z (p ∙ sym q), refl))

pub list_equal_settled : Settled 2 list_equal_kinds.ps list_equal_kinds.r list_equal.Asked list_equal.ensures list_equal.Learnt
list_equal_settled = settled (λ κs a y z b c p q. one_outcome written_reply written_one (λ out. (tt, (tt, (tt, (out, tt))))) (p ∙ sym q))

pub list_variable_settled : Settled 3 list_variable_kinds.ps list_variable_kinds.r list_variable.Asked list_variable.ensures list_variable.Learnt
list_variable_settled = settled (λ κs a y z b c p q. one_outcome written_reply written_one (λ out. (tt, (tt, (tt, (out, tt))))) (p ∙ sym q))

pub channel_read_settled : Settled 1 channel_read_kinds.ps channel_read_kinds.r channel_read.Asked channel_read.ensures channel_read.Learnt
channel_read_settled = settled (λ κs a y z b c p q. (channel_one y z (p ∙ sym q), refl))

pub channel_write_settled : Settled 1 channel_write_kinds.ps channel_write_kinds.r channel_write.Asked channel_write.ensures channel_write.Learnt
channel_write_settled = settled (λ κs a y z b c p q. one_outcome written_reply written_one (λ out. (tt, (out, tt))) (p ∙ sym q))

pub channel_describe_settled : Settled 0 channel_describe_kinds.ps channel_describe_kinds.r channel_describe.Asked channel_describe.ensures channel_describe.Learnt
channel_describe_settled = settled (λ κs a y z b c p q. (description_one y z (p ∙ sym q), refl))

pub text_end_settled : Settled 1 text_end_kinds.ps text_end_kinds.r text_end.Asked text_end.ensures text_end.Learnt
text_end_settled = settled (λ κs a y z b c p q. (p ∙ sym q, refl))

pub text_write_settled : Settled 2 text_write_kinds.ps text_write_kinds.r text_write.Asked text_write.ensures text_write.Learnt
text_write_settled = settled (λ κs a y z b c p q. one_outcome text_reply text_one (λ out. (tt, (tt, (out, tt)))) (p ∙ sym q))

pub variable_length_settled : Settled 0 variable_length_kinds.ps variable_length_kinds.r variable_length.Asked variable_length.ensures variable_length.Learnt
variable_length_settled = settled (λ κs a y z b c p q. (p ∙ sym q, refl))

pub form_of_type_settled : Settled 0 form_of_type_kinds.ps form_of_type_kinds.r form_of_type.Asked form_of_type.ensures form_of_type.Learnt
form_of_type_settled = settled (λ κs a y z b c p q. (p ∙ sym q, refl))

pub well_described_settled : Settled 0 well_described_kinds.ps well_described_kinds.r well_described.Asked well_described.ensures well_described.Learnt
well_described_settled = settled (λ κs a y z b c p q. (p ∙ sym q, refl))

pub over_a_word_settled : Settled 0 over_a_word_kinds.ps over_a_word_kinds.r over_a_word.Asked over_a_word.ensures over_a_word.Learnt
over_a_word_settled = settled (λ κs a y z b c p q. (p ∙ sym q, refl))

pub no_float_width_settled : Settled 0 no_float_width_kinds.ps no_float_width_kinds.r no_float_width.Asked no_float_width.ensures no_float_width.Learnt
no_float_width_settled = settled (λ κs a y z b c p q. (p ∙ sym q, refl))

pub field_found_settled : Settled 1 field_found_kinds.ps field_found_kinds.r field_found.Asked field_found.ensures field_found.Learnt
field_found_settled = settled (λ κs a y z b c p q. (field_one _ _ _ _ _ _ y z p q, refl))

pub field_outside_settled : Settled 0 field_outside_kinds.ps field_outside_kinds.r field_outside.Asked field_outside.ensures field_outside.Learnt
field_outside_settled = settled (λ κs a y z b c p q. (p ∙ sym q, refl))

pub field_needed_settled : Settled 0 field_needed_kinds.ps field_needed_kinds.r field_needed.Asked field_needed.ensures field_needed.Learnt
field_needed_settled = settled (λ κs a y z b c p q. (p ∙ sym q, refl))

pub value_read_settled : Settled 1 value_read_kinds.ps value_read_kinds.r value_read.Asked value_read.ensures value_read.Learnt
value_read_settled = settled (λ κs a y z b c p q. (value_one y z (p ∙ sym q), refl))

pub validity_settled : Settled 1 validity_kinds.ps validity_kinds.r validity.Asked validity.ensures validity.Learnt
validity_settled = settled (λ κs a y z b c p q. (p ∙ sym q, refl))

pub area_settled : Settled 0 area_kinds.ps area_kinds.r area.Asked area.ensures area.Learnt
area_settled = settled (λ κs a y z b c p q. (area_one y z (p ∙ sym q), refl))

pub bounded_validity_settled : Settled 1 bounded_validity_kinds.ps bounded_validity_kinds.r bounded_validity.Asked bounded_validity.ensures bounded_validity.Learnt
bounded_validity_settled = settled (λ κs a y z b c p q. (validity_one y z (p ∙ sym q), refl))

pub bounded_value_read_settled : Settled 1 bounded_value_read_kinds.ps bounded_value_read_kinds.r bounded_value_read.Asked bounded_value_read.ensures bounded_value_read.Learnt
bounded_value_read_settled = settled (λ κs a y z b c p q. (valid_value_one y z (p ∙ sym q), refl))

pub valid_value_read_settled : Settled 1 valid_value_read_kinds.ps valid_value_read_kinds.r valid_value_read.Asked valid_value_read.ensures valid_value_read.Learnt
valid_value_read_settled = settled (λ κs a y z b c p q. (valid_value_one y z (p ∙ sym q), refl))

pub any_value_settled : Settled 1 any_value_kinds.ps any_value_kinds.r any_value.Asked any_value.ensures any_value.Learnt
any_value_settled = settled (λ κs a y z b c p q. (value_one y z (p ∙ sym q), refl))

pub any_bounded_value_settled : Settled 1 any_bounded_value_kinds.ps any_bounded_value_kinds.r any_bounded_value.Asked any_bounded_value.ensures any_bounded_value.Learnt
any_bounded_value_settled = settled (λ κs a y z b c p q. (valid_value_one y z (p ∙ sym q), refl))

pub record_double_settled : Settled 1 record_double_kinds.ps record_double_kinds.r record_double.Asked record_double.ensures record_double.Learnt
record_double_settled = settled (λ κs a y z b c p q. (p ∙ sym q, refl))

pub value_write_settled : Settled 1 value_write_kinds.ps value_write_kinds.r value_write.Asked value_write.ensures value_write.Learnt
value_write_settled = settled (λ κs a y z b c p q. one_outcome encoder.written_reply encoder_back.written_one (λ out. (tt, (tt, (tt, (out, tt))))) (p ∙ sym q))

pub data_block_settled : Settled 2 data_block_kinds.ps data_block_kinds.r data_block.Asked data_block.ensures data_block.Learnt
data_block_settled = settled (λ κs a y z b c p q. (block_one y z (p ∙ sym q), refl))

pub chained_list_settled : Settled 1 chained_list_kinds.ps chained_list_kinds.r chained_list.Asked chained_list.ensures chained_list.Learnt
chained_list_settled = settled (λ κs a y z b c p q. (list_one y z (p ∙ sym q), refl))

pub chain_length_settled : Settled 1 chain_length_kinds.ps chain_length_kinds.r chain_length.Asked chain_length.ensures chain_length.Learnt
chain_length_settled = settled (λ κs a y z b c p q. (chain_one y z (p ∙ sym q), refl))

pub chain_start_settled : Settled 0 chain_start_kinds.ps chain_start_kinds.r chain_start.Asked chain_start.ensures chain_start.Learnt
chain_start_settled = settled (λ κs a y z b c p q. (p ∙ sym q, refl))

pub position_behind_settled : Settled 0 position_behind_kinds.ps position_behind_kinds.r position_behind.Asked position_behind.ensures position_behind.Learnt
position_behind_settled = settled (λ κs a y z b c p q. (p ∙ sym q, refl))

pub position_in_settled : Settled 0 position_in_kinds.ps position_in_kinds.r position_in.Asked position_in.ensures position_in.Learnt
position_in_settled = settled (λ κs a y z b c p q. (p ∙ sym q, refl))

pub open_list_last_settled : Settled 0 open_list_last_kinds.ps open_list_last_kinds.r open_list_last.Asked open_list_last.ensures open_list_last.Learnt
open_list_last_settled = settled (λ κs a y z b c p q. (p ∙ sym q, refl))

pub place_ended_settled : Settled 0 place_ended_kinds.ps place_ended_kinds.r place_ended.Asked place_ended.ensures place_ended.Learnt
place_ended_settled = settled (λ κs a y z b c p q. (p ∙ sym q, refl))

pub window_lay_settled : Settled 2 window_lay_kinds.ps window_lay_kinds.r window_lay.Asked window_lay.ensures window_lay.Learnt
window_lay_settled = settled (λ κs a y z b c p q. (refl, ap (λ (out : List ℕ). (tt, (tt, (tt, (out, tt))))) (p ∙ sym q)))

pub record_read_settled : Settled 2 record_read_kinds.ps record_read_kinds.r record_read.Asked record_read.ensures record_read.Learnt
record_read_settled = settled (λ κs a y z b c p q. one_outcome record_reply record_one (λ out. (tt, (tt, (tt, (tt, (out, tt)))))) (p ∙ sym q))

pub record_value_settled : Settled 2 record_value_kinds.ps record_value_kinds.r record_value.Asked record_value.ensures record_value.Learnt
record_value_settled = settled (λ κs a y z b c p q. one_outcome valid_value_reply valid_value_one (λ out. (tt, (tt, (tt, (tt, (tt, (tt, (out, tt)))))))) (p ∙ sym q))

pub record_size_settled : Settled 0 record_size_kinds.ps record_size_kinds.r record_size.Asked record_size.ensures record_size.Learnt
record_size_settled = settled (λ κs a y z b c p q. (p ∙ sym q, refl))

pub table_open_settled : Settled 2 table_open_kinds.ps table_open_kinds.r table_open.Asked table_open.ensures table_open.Learnt
table_open_settled = settled (λ κs a y z b c p q. one_outcome change_reply change_one (λ out. (tt, (tt, (out, tt)))) (p ∙ sym q))

pub table_extend_settled : Settled 2 table_extend_kinds.ps table_extend_kinds.r table_extend.Asked table_extend.ensures table_extend.Learnt
table_extend_settled = settled (λ κs a y z b c p q. one_outcome change_reply change_one (λ out. (tt, (tt, (out, tt)))) (p ∙ sym q))

pub table_shorten_settled : Settled 1 table_shorten_kinds.ps table_shorten_kinds.r table_shorten.Asked table_shorten.ensures table_shorten.Learnt
table_shorten_settled = settled (λ κs a y z b c p q. one_outcome change_reply change_one (λ out. (out, tt)) (p ∙ sym q))

pub table_record_settled : Settled 3 table_record_kinds.ps table_record_kinds.r table_record.Asked table_record.ensures table_record.Learnt
table_record_settled = settled (λ κs a y z b c p q. one_outcome record_reply record_one (λ out. (tt, (tt, (tt, (tt, (out, tt)))))) (p ∙ sym q))

pub table_value_settled : Settled 3 table_value_kinds.ps table_value_kinds.r table_value.Asked table_value.ensures table_value.Learnt
table_value_settled = settled (λ κs a y z b c p q. one_outcome valid_value_reply valid_value_one (λ out. (tt, (tt, (tt, (tt, (tt, (tt, (out, tt)))))))) (p ∙ sym q))

pub record_payload_settled : Settled 3 record_payload_kinds.ps record_payload_kinds.r record_payload.Asked record_payload.ensures record_payload.Learnt
record_payload_settled = settled (λ κs a y z b c p q. in_places (λ out room. (tt, (tt, (tt, (tt, (tt, (tt, (out, (room, tt))))))))) (payload_fetched_one y z _ _ _ _ (p ∙ sym q)))

pub tally_empty_settled : Settled 0 tally_empty_kinds.ps tally_empty_kinds.r tally_empty.Asked tally_empty.ensures tally_empty.Learnt
tally_empty_settled = settled (λ κs a y z b c p q. (p ∙ sym q, refl))

pub tally_marks_settled : Settled 0 tally_marks_kinds.ps tally_marks_kinds.r tally_marks.Asked tally_marks.ensures tally_marks.Learnt
tally_marks_settled = settled (λ κs a y z b c p q. (p ∙ sym q, refl))

pub slot_flag_settled : Settled 0 slot_flag_kinds.ps slot_flag_kinds.r slot_flag.Asked slot_flag.ensures slot_flag.Learnt
slot_flag_settled = settled (λ κs a y z b c p q. (p ∙ sym q, refl))

pub fixed_number_settled : Settled 0 fixed_number_kinds.ps fixed_number_kinds.r fixed_number.Asked fixed_number.ensures fixed_number.Learnt
fixed_number_settled = settled (λ κs a y z b c p q. (p ∙ sym q, refl))

-- of two words the low one is told to be one word
pub channel_report_settled : Settled 2 channel_report_kinds.ps channel_report_kinds.r channel_report.Asked channel_report.ensures channel_report.Learnt
channel_report_settled =
    settled (λ κs a y z b c p q. let e = p.0 ∙ sym q.0 in (
      report_one y z p.1 q.1 (of_outcome e),
      ap (λ (o : Outcome Report). (tt, (tt, (tt, (tt, (tt, (o.buffer, tt))))))) e,
    ))

pub first_overlap_settled : Settled 1 first_overlap_kinds.ps first_overlap_kinds.r first_overlap.Asked first_overlap.ensures first_overlap.Learnt
first_overlap_settled = settled (λ κs a y z b c p q. (p ∙ sym q, refl))
