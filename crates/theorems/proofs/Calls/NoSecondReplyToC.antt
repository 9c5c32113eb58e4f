-- No call for C has a second reply: each theorem is about the very clause of the call's contract. Of the one call that is lent
-- structs it is also in `OverlapsToC`, about the contract as it is written.
use mathlib.Core.Path.{◌≡◌, refl, sym, ap, ◌∙◌}
use mathlib.Core.List.{List}
use Prim.Native.Nat.{ℕ}
use Rattle.theorems.specs.Sole.{Settled}
use Rattle.theorems.proofs.Calls.Outcomes.{returned_result}
use Rattle.theorems.proofs.Calls.NoSecondReply.{settled, in_places}
use Rattle.block_replies.specs.Replies.{Returned, returned, ReturnedBoth, returned_both}
use Rattle.mf4.proofs.mf4_read_header.Kinds as mf4_read_header_kinds
use Rattle.mf4.proofs.mf4_read_header.Reads as mf4_read_header
use Rattle.mf4.proofs.mf4_write_header.Kinds as mf4_write_header_kinds
use Rattle.mf4.proofs.mf4_write_header.Reads as mf4_write_header
use Rattle.mf4.proofs.mf4_type_code.Kinds as mf4_type_code_kinds
use Rattle.mf4.proofs.mf4_type_code.Reads as mf4_type_code
use Rattle.mf4.proofs.mf4_version.Kinds as mf4_version_kinds
use Rattle.mf4.proofs.mf4_version.Reads as mf4_version
use Rattle.mf4.proofs.mf4_default_bits.Kinds as mf4_default_bits_kinds
use Rattle.mf4.proofs.mf4_default_bits.Reads as mf4_default_bits
use Rattle.mf4.proofs.mf4_read_list.Kinds as mf4_read_list_kinds
use Rattle.mf4.proofs.mf4_read_list.Reads as mf4_read_list
use Rattle.mf4.proofs.mf4_write_list_equal.Kinds as mf4_write_list_equal_kinds
use Rattle.mf4.proofs.mf4_write_list_equal.Reads as mf4_write_list_equal
use Rattle.mf4.proofs.mf4_write_list_variable.Kinds as mf4_write_list_variable_kinds
use Rattle.mf4.proofs.mf4_write_list_variable.Reads as mf4_write_list_variable
use Rattle.mf4.proofs.mf4_read_channel.Kinds as mf4_read_channel_kinds
use Rattle.mf4.proofs.mf4_read_channel.Reads as mf4_read_channel
use Rattle.mf4.proofs.mf4_write_channel.Kinds as mf4_write_channel_kinds
use Rattle.mf4.proofs.mf4_write_channel.Reads as mf4_write_channel
use Rattle.mf4.proofs.mf4_text_latin1.Kinds as mf4_text_latin1_kinds
use Rattle.mf4.proofs.mf4_text_latin1.Reads as mf4_text_latin1
use Rattle.mf4.proofs.mf4_text_utf8.Kinds as mf4_text_utf8_kinds
use Rattle.mf4.proofs.mf4_text_utf8.Reads as mf4_text_utf8
use Rattle.mf4.proofs.mf4_text_utf16_le.Kinds as mf4_text_utf16_le_kinds
use Rattle.mf4.proofs.mf4_text_utf16_le.Reads as mf4_text_utf16_le
use Rattle.mf4.proofs.mf4_text_utf16_be.Kinds as mf4_text_utf16_be_kinds
use Rattle.mf4.proofs.mf4_text_utf16_be.Reads as mf4_text_utf16_be
use Rattle.mf4.proofs.mf4_decode_value.Kinds as mf4_decode_value_kinds
use Rattle.mf4.proofs.mf4_decode_value.Reads as mf4_decode_value
use Rattle.mf4.proofs.mf4_check_validity.Kinds as mf4_check_validity_kinds
use Rattle.mf4.proofs.mf4_check_validity.Reads as mf4_check_validity
use Rattle.mf4.proofs.mf4_decode_valid_value.Kinds as mf4_decode_valid_value_kinds
use Rattle.mf4.proofs.mf4_decode_valid_value.Reads as mf4_decode_valid_value
use Rattle.mf4.proofs.mf4_check_validity_unbounded.Kinds as mf4_check_validity_unbounded_kinds
use Rattle.mf4.proofs.mf4_check_validity_unbounded.Reads as mf4_check_validity_unbounded
use Rattle.mf4.proofs.mf4_decode_valid_value_unbounded.Kinds as mf4_decode_valid_value_unbounded_kinds
use Rattle.mf4.proofs.mf4_decode_valid_value_unbounded.Reads as mf4_decode_valid_value_unbounded
use Rattle.mf4.proofs.mf4_decode_double_bits.Kinds as mf4_decode_double_bits_kinds
use Rattle.mf4.proofs.mf4_decode_double_bits.Reads as mf4_decode_double_bits
use Rattle.mf4.proofs.mf4_write_value.Kinds as mf4_write_value_kinds
use Rattle.mf4.proofs.mf4_write_value.Reads as mf4_write_value
use Rattle.mf4.proofs.mf4_data_length.Kinds as mf4_data_length_kinds
use Rattle.mf4.proofs.mf4_data_length.Reads as mf4_data_length
use Rattle.mf4.proofs.mf4_read_record.Kinds as mf4_read_record_kinds
use Rattle.mf4.proofs.mf4_read_record.Reads as mf4_read_record
use Rattle.mf4.proofs.mf4_record_value.Kinds as mf4_record_value_kinds
use Rattle.mf4.proofs.mf4_record_value.Reads as mf4_record_value
use Rattle.mf4.proofs.mf4_open_table.Kinds as mf4_open_table_kinds
use Rattle.mf4.proofs.mf4_open_table.Reads as mf4_open_table
use Rattle.mf4.proofs.mf4_extend_table.Kinds as mf4_extend_table_kinds
use Rattle.mf4.proofs.mf4_extend_table.Reads as mf4_extend_table
use Rattle.mf4.proofs.mf4_shorten_table.Kinds as mf4_shorten_table_kinds
use Rattle.mf4.proofs.mf4_shorten_table.Reads as mf4_shorten_table
use Rattle.mf4.proofs.mf4_table_record.Kinds as mf4_table_record_kinds
use Rattle.mf4.proofs.mf4_table_record.Reads as mf4_table_record
use Rattle.mf4.proofs.mf4_table_value.Kinds as mf4_table_value_kinds
use Rattle.mf4.proofs.mf4_table_value.Reads as mf4_table_value
use Rattle.mf4.proofs.mf4_record_payload.Kinds as mf4_record_payload_kinds
use Rattle.mf4.proofs.mf4_record_payload.Reads as mf4_record_payload
use Rattle.mf4.proofs.mf4_report.Kinds as mf4_report_kinds
use Rattle.mf4.proofs.mf4_report.Reads as mf4_report
use Rattle.mf4.proofs.mf4_first_overlap.Kinds as mf4_first_overlap_kinds
use Rattle.mf4.proofs.mf4_first_overlap.Reads as mf4_first_overlap

-- what is returned comes of one struct, and of one buffer, which stands among the lent ones at its place
pub one_returned : {R B : Type 0} (place : List ℕ → B) {y z : R} {b c : List ℕ} → returned y b ≡ returned z c → (y ≡ z) × (place b ≡ place c)
one_returned {R} place e = (returned_result e, ap (λ (x : Returned R). place x.buffer) e)

-- the same of two buffers
pub one_returned_both : {R : Type 0} {y z : R} {a b v w : List ℕ} → returned_both y a v ≡ returned_both z b w → (y ≡ z) × (a ≡ b) × (v ≡ w)
one_returned_both {R} e =
    (ap (λ (x : ReturnedBoth R). x.result) e, ap (λ (x : ReturnedBoth R). x.record_buffer) e, ap (λ (x : ReturnedBoth R). x.payload_buffer) e)

pub mf4_read_header_settled : Settled 1 mf4_read_header_kinds.ps mf4_read_header_kinds.r mf4_read_header.Asked mf4_read_header.ensures mf4_read_header.Learnt
mf4_read_header_settled = settled (λ κs a y z b c p q. (p ∙ sym q, refl))

pub mf4_write_header_settled : Settled 1 mf4_write_header_kinds.ps mf4_write_header_kinds.r mf4_write_header.Asked mf4_write_header.ensures mf4_write_header.Learnt
mf4_write_header_settled = settled (λ κs a y z b c p q. one_returned (λ out. (tt, (out, tt))) (p ∙ sym q))

pub mf4_type_code_settled : Settled 0 mf4_type_code_kinds.ps mf4_type_code_kinds.r mf4_type_code.Asked mf4_type_code.ensures mf4_type_code.Learnt
mf4_type_code_settled = settled (λ κs a y z b c p q. (p ∙ sym q, refl))

pub mf4_default_bits_settled : Settled 0 mf4_default_bits_kinds.ps mf4_default_bits_kinds.r mf4_default_bits.Asked mf4_default_bits.ensures mf4_default_bits.Learnt
mf4_default_bits_settled = settled (λ κs a y z b c p q. (p ∙ sym q, refl))

pub mf4_read_list_settled : Settled 1 mf4_read_list_kinds.ps mf4_read_list_kinds.r mf4_read_list.Asked mf4_read_list.ensures mf4_read_list.Learnt
mf4_read_list_settled = settled (λ κs a y z b c p q. (p ∙ sym q, refl))

pub mf4_write_list_equal_settled : Settled 2 mf4_write_list_equal_kinds.ps mf4_write_list_equal_kinds.r mf4_write_list_equal.Asked mf4_write_list_equal.ensures mf4_write_list_equal.Learnt
mf4_write_list_equal_settled = settled (λ κs a y z b c p q. one_returned (λ out. (tt, (tt, (tt, (out, tt))))) (p ∙ sym q))

pub mf4_write_list_variable_settled : Settled 3 mf4_write_list_variable_kinds.ps mf4_write_list_variable_kinds.r mf4_write_list_variable.Asked mf4_write_list_variable.ensures mf4_write_list_variable.Learnt
mf4_write_list_variable_settled = settled (λ κs a y z b c p q. one_returned (λ out. (tt, (tt, (tt, (out, tt))))) (p ∙ sym q))

pub mf4_read_channel_settled : Settled 1 mf4_read_channel_kinds.ps mf4_read_channel_kinds.r mf4_read_channel.Asked mf4_read_channel.ensures mf4_read_channel.Learnt
mf4_read_channel_settled = settled (λ κs a y z b c p q. (p ∙ sym q, refl))

pub mf4_write_channel_settled : Settled 1 mf4_write_channel_kinds.ps mf4_write_channel_kinds.r mf4_write_channel.Asked mf4_write_channel.ensures mf4_write_channel.Learnt
mf4_write_channel_settled = settled (λ κs a y z b c p q. one_returned (λ out. (tt, (out, tt))) (p ∙ sym q))

pub mf4_text_latin1_settled : Settled 2 mf4_text_latin1_kinds.ps mf4_text_latin1_kinds.r mf4_text_latin1.Asked mf4_text_latin1.ensures mf4_text_latin1.Learnt
mf4_text_latin1_settled = settled (λ κs a y z b c p q. one_returned (λ out. (tt, (out, tt))) (p ∙ sym q))

pub mf4_text_utf8_settled : Settled 2 mf4_text_utf8_kinds.ps mf4_text_utf8_kinds.r mf4_text_utf8.Asked mf4_text_utf8.ensures mf4_text_utf8.Learnt
mf4_text_utf8_settled = settled (λ κs a y z b c p q. one_returned (λ out. (tt, (out, tt))) (p ∙ sym q))

pub mf4_text_utf16_le_settled : Settled 2 mf4_text_utf16_le_kinds.ps mf4_text_utf16_le_kinds.r mf4_text_utf16_le.Asked mf4_text_utf16_le.ensures mf4_text_utf16_le.Learnt
mf4_text_utf16_le_settled = settled (λ κs a y z b c p q. one_returned (λ out. (tt, (out, tt))) (p ∙ sym q))

pub mf4_text_utf16_be_settled : Settled 2 mf4_text_utf16_be_kinds.ps mf4_text_utf16_be_kinds.r mf4_text_utf16_be.Asked mf4_text_utf16_be.ensures mf4_text_utf16_be.Learnt
mf4_text_utf16_be_settled = settled (λ κs a y z b c p q. one_returned (λ out. (tt, (out, tt))) (p ∙ sym q))

pub mf4_decode_value_settled : Settled 1 mf4_decode_value_kinds.ps mf4_decode_value_kinds.r mf4_decode_value.Asked mf4_decode_value.ensures mf4_decode_value.Learnt
mf4_decode_value_settled = settled (λ κs a y z b c p q. (p ∙ sym q, refl))

pub mf4_check_validity_settled : Settled 1 mf4_check_validity_kinds.ps mf4_check_validity_kinds.r mf4_check_validity.Asked mf4_check_validity.ensures mf4_check_validity.Learnt
mf4_check_validity_settled = settled (λ κs a y z b c p q. (p ∙ sym q, refl))

pub mf4_decode_valid_value_settled : Settled 1 mf4_decode_valid_value_kinds.ps mf4_decode_valid_value_kinds.r mf4_decode_valid_value.Asked mf4_decode_valid_value.ensures mf4_decode_valid_value.Learnt
mf4_decode_valid_value_settled = settled (λ κs a y z b c p q. (p ∙ sym q, refl))

pub mf4_check_validity_unbounded_settled : Settled 1 mf4_check_validity_unbounded_kinds.ps mf4_check_validity_unbounded_kinds.r mf4_check_validity_unbounded.Asked mf4_check_validity_unbounded.ensures mf4_check_validity_unbounded.Learnt
mf4_check_validity_unbounded_settled = settled (λ κs a y z b c p q. (p ∙ sym q, refl))

pub mf4_decode_valid_value_unbounded_settled : Settled 1 mf4_decode_valid_value_unbounded_kinds.ps mf4_decode_valid_value_unbounded_kinds.r mf4_decode_valid_value_unbounded.Asked mf4_decode_valid_value_unbounded.ensures mf4_decode_valid_value_unbounded.Learnt
mf4_decode_valid_value_unbounded_settled = settled (λ κs a y z b c p q. (p ∙ sym q, refl))

pub mf4_decode_double_bits_settled : Settled 1 mf4_decode_double_bits_kinds.ps mf4_decode_double_bits_kinds.r mf4_decode_double_bits.Asked mf4_decode_double_bits.ensures mf4_decode_double_bits.Learnt
mf4_decode_double_bits_settled = settled (λ κs a y z b c p q. (p ∙ sym q, refl))

pub mf4_write_value_settled : Settled 1 mf4_write_value_kinds.ps mf4_write_value_kinds.r mf4_write_value.Asked mf4_write_value.ensures mf4_write_value.Learnt
mf4_write_value_settled = settled (λ κs a y z b c p q. one_returned (λ out. (tt, (tt, (tt, (out, tt))))) (p ∙ sym q))

pub mf4_data_length_settled : Settled 1 mf4_data_length_kinds.ps mf4_data_length_kinds.r mf4_data_length.Asked mf4_data_length.ensures mf4_data_length.Learnt
mf4_data_length_settled = settled (λ κs a y z b c p q. (p ∙ sym q, refl))

pub mf4_read_record_settled : Settled 2 mf4_read_record_kinds.ps mf4_read_record_kinds.r mf4_read_record.Asked mf4_read_record.ensures mf4_read_record.Learnt
mf4_read_record_settled = settled (λ κs a y z b c p q. one_returned (λ out. (tt, (tt, (tt, (tt, (out, tt)))))) (p ∙ sym q))

pub mf4_record_value_settled : Settled 2 mf4_record_value_kinds.ps mf4_record_value_kinds.r mf4_record_value.Asked mf4_record_value.ensures mf4_record_value.Learnt
mf4_record_value_settled = settled (λ κs a y z b c p q. one_returned (λ out. (tt, (tt, (tt, (tt, (tt, (tt, (out, tt)))))))) (p ∙ sym q))

pub mf4_open_table_settled : Settled 2 mf4_open_table_kinds.ps mf4_open_table_kinds.r mf4_open_table.Asked mf4_open_table.ensures mf4_open_table.Learnt
mf4_open_table_settled = settled (λ κs a y z b c p q. one_returned (λ out. (tt, (tt, (out, tt)))) (p ∙ sym q))

pub mf4_extend_table_settled : Settled 2 mf4_extend_table_kinds.ps mf4_extend_table_kinds.r mf4_extend_table.Asked mf4_extend_table.ensures mf4_extend_table.Learnt
mf4_extend_table_settled = settled (λ κs a y z b c p q. one_returned (λ out. (tt, (tt, (out, tt)))) (p ∙ sym q))

pub mf4_shorten_table_settled : Settled 1 mf4_shorten_table_kinds.ps mf4_shorten_table_kinds.r mf4_shorten_table.Asked mf4_shorten_table.ensures mf4_shorten_table.Learnt
mf4_shorten_table_settled = settled (λ κs a y z b c p q. one_returned (λ out. (out, tt)) (p ∙ sym q))

pub mf4_table_record_settled : Settled 3 mf4_table_record_kinds.ps mf4_table_record_kinds.r mf4_table_record.Asked mf4_table_record.ensures mf4_table_record.Learnt
mf4_table_record_settled = settled (λ κs a y z b c p q. one_returned (λ out. (tt, (tt, (tt, (tt, (out, tt)))))) (p ∙ sym q))

pub mf4_table_value_settled : Settled 3 mf4_table_value_kinds.ps mf4_table_value_kinds.r mf4_table_value.Asked mf4_table_value.ensures mf4_table_value.Learnt
mf4_table_value_settled = settled (λ κs a y z b c p q. one_returned (λ out. (tt, (tt, (tt, (tt, (tt, (tt, (out, tt)))))))) (p ∙ sym q))

pub mf4_record_payload_settled : Settled 3 mf4_record_payload_kinds.ps mf4_record_payload_kinds.r mf4_record_payload.Asked mf4_record_payload.ensures mf4_record_payload.Learnt
mf4_record_payload_settled = settled (λ κs a y z b c p q. in_places (λ out room. (tt, (tt, (tt, (tt, (tt, (tt, (out, (room, tt))))))))) (one_returned_both (p ∙ sym q)))

pub mf4_report_settled : Settled 2 mf4_report_kinds.ps mf4_report_kinds.r mf4_report.Asked mf4_report.ensures mf4_report.Learnt
mf4_report_settled = settled (λ κs a y z b c p q. one_returned (λ out. (tt, (tt, (tt, (tt, (tt, (out, tt))))))) (p ∙ sym q))

pub mf4_first_overlap_settled : Settled 1 mf4_first_overlap_kinds.ps mf4_first_overlap_kinds.r mf4_first_overlap.Asked mf4_first_overlap.ensures mf4_first_overlap.Learnt
mf4_first_overlap_settled = settled (λ κs a y z b c p q. (p ∙ sym q, refl))

pub mf4_version_settled : Settled 0 mf4_version_kinds.ps mf4_version_kinds.r mf4_version.Asked mf4_version.ensures mf4_version.Learnt
mf4_version_settled = settled (λ κs a y z b c p q. (p ∙ sym q, refl))
