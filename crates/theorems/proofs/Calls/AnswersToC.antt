-- When each call for C replies 0, exactly: about its own clause. Of payloads `PayloadsToC` has it, of a number that is written
-- `WrittenValuesToC`, and of an overlap `OverlapsToC`.
use Rattle.std.specs.Prelude.{if◌then◌else◌}
use mathlib.Core.Path.{◌≡◌, refl, sym, ◌∙◌}
use mathlib.Core.Bool.{Bool, true, false}
use mathlib.Core.List.{List}
use Prim.Native.Nat.{ℕ, ◌≤◌}
use native.Mathlib.Omega.{arith}
use contract.Lifetimes.{Lfts}
use lib.ListN.{length}
use lib.Dec.{eqb}
use borrow.Author.Tests.{eqb-true, eqb-false}
use Rattle.definitions.specs.Reply.{Reply, answer, refusal}
use Rattle.definitions.specs.Unicode.{Encoding, text_of}
use Rattle.definitions.specs.DataList.{equal, variable}
use Rattle.definitions.proofs.Replies.{not_answered}
use Rattle.text.proofs.FirstChar.{Bytes}
use Rattle.text.proofs.Room.{room, text_room}
use Rattle.block_replies.specs.Replies.{header_given}
use Rattle.block_replies.specs.Channels.{channel_given, block_given}
use Rattle.replies.specs.Values.{group_given}
use Rattle.block_replies.specs.declared.header.Mf4Header.{Mf4Header}
use Rattle.block_replies.specs.declared.header.Mf4HeaderReply.{Mf4HeaderReply}
use Rattle.block_replies.specs.declared.list.Mf4ListReply.{Mf4ListReply}
use Rattle.block_replies.specs.declared.channel_block.Mf4ChannelBlock.{Mf4ChannelBlock}
use Rattle.block_replies.specs.declared.channel_block.Mf4ChannelReply.{Mf4ChannelReply}
use Rattle.block_replies.specs.declared.written.Mf4WrittenReply.{Mf4WrittenReply}
use Rattle.replies.specs.declared.texts.Mf4TextReply.{Mf4TextReply}
use Rattle.block_replies.specs.declared.channel.Mf4Channel.{Mf4Channel}
use Rattle.replies.specs.declared.group.Mf4Group.{Mf4Group}
use Rattle.replies.specs.declared.values.Mf4ValueReply.{Mf4ValueReply}
use Rattle.replies.specs.declared.valid_values.Mf4ValidValueReply.{Mf4ValidValueReply}
use Rattle.replies.specs.declared.validity.Mf4ValidityReply.{Mf4ValidityReply}
use Rattle.replies.specs.declared.fetches.Mf4LengthReply.{Mf4LengthReply}
use Rattle.replies.specs.declared.done.Mf4DoneReply.{Mf4DoneReply}
use Rattle.replies.proofs.ToldToC.{Reversible, of_kind_told}
use Rattle.mf4.specs.Clauses.{Slice, Room}
use Rattle.theorems.specs.Exactly.{Exactly, ExactlyZero, ListStands, ChannelStands, ListFits, FieldStands, InArea, BoundedStands, Joinable, Fetchable, ValueFetchable}
use Rattle.theorems.specs.ClausesToC.{ReadsHeaderC, WritesHeaderC, ReadsListC, WritesEqualC, WritesVariableC, ReadsChannelC, WritesChannelC, WritesTextC, ReadsValueC, ReadsValidValueC, ChecksValidityC, ReadsUnboundedC, ReadsLengthC, ReadsRecordC, ReadsRecordValueC}
use Rattle.theorems.proofs.Calls.Answers.{header_exactly, list_exactly, channel_exactly, header_written_exactly, channel_written_exactly, list_written_exactly, text_written_exactly, value_exactly, valid_value_exactly, bounded_valid_exactly, bounded_value_exactly, length_exactly, fetched_exactly, value_fetched_exactly}
use Rattle.theorems.proofs.Calls.ToldToC.{Judged, value_tellable, valid_value_tellable, bounded_value_tellable, value_fetched_tellable, mf4_read_header_told, mf4_write_header_told, mf4_read_list_told, mf4_write_list_equal_told, mf4_write_list_variable_told, mf4_read_channel_told, mf4_write_channel_told, mf4_text_told, mf4_decode_value_told, mf4_decode_valid_value_told, mf4_decode_valid_value_unbounded_told, mf4_check_validity_told, mf4_data_length_told, mf4_read_record_told, mf4_record_value_told}

-- a struct tells an answer exactly where its reply is 0
pub zero_exactly : {A P : Type 0} (n t : ℕ) (a : A) (r : Reply A) → (if eqb n 0 then answer a else refusal n t) ≡ r → Exactly P r → ExactlyZero P n
zero_exactly {A} {P} n t a r q h = go (eqb n 0) refl q
  where
    go : (b : Bool) → eqb n 0 ≡ b → (if b then answer a else refusal n t) ≡ r → ExactlyZero P n
    go true e q = record { answers = λ p. eqb-true n 0 e; only = λ z. h.only a (sym q) }
    go false e q = record {
      answers = λ p. let x = h.answers p in not_answered x.0 n t (q ∙ x.1);
      only = λ z. absurd (eqb-false n 0 e z);
    }

-- ---- blocks

pub header_read_zero : (κs : Lfts 1) (bytes : Slice) (y : Mf4HeaderReply) → ReadsHeaderC κs bytes y → ExactlyZero (24 ≤ length bytes.now) y.reply
header_read_zero κs bytes y p = zero_exactly y.reply y.told _ _ (mf4_read_header_told κs bytes y p) (header_exactly bytes.now)

pub header_write_zero : (κs : Lfts 1) (header : Mf4Header) (out : Room) (y : Mf4WrittenReply) (after : List ℕ)
    → WritesHeaderC κs header out y after → ExactlyZero (24 ≤ length out.now) y.reply
header_write_zero κs header out y after p =
    zero_exactly y.reply y.told _ _ (mf4_write_header_told κs header out y after p) (header_written_exactly out.now (header_given header))

pub list_read_zero : (κs : Lfts 1) (bytes : Slice) (y : Mf4ListReply) → ReadsListC κs bytes y → ExactlyZero (ListStands bytes.now) y.reply
list_read_zero κs bytes y p = zero_exactly y.reply y.told _ _ (mf4_read_list_told κs bytes y p) (list_exactly bytes.now)

pub channel_read_zero : (κs : Lfts 1) (bytes : Slice) (y : Mf4ChannelReply) → ReadsChannelC κs bytes y → ExactlyZero (ChannelStands bytes.now) y.reply
channel_read_zero κs bytes y p = zero_exactly y.reply y.told _ _ (mf4_read_channel_told κs bytes y p) (channel_exactly bytes.now)

pub channel_write_zero : (κs : Lfts 1) (block : Mf4ChannelBlock) (out : Room) (y : Mf4WrittenReply) (after : List ℕ)
    → WritesChannelC κs block out y after → ExactlyZero (160 ≤ length out.now) y.reply
channel_write_zero κs block out y after p =
    zero_exactly y.reply y.told _ _ (mf4_write_channel_told κs block out y after p) (channel_written_exactly out.now (block_given block))

pub list_equal_zero : (κs : Lfts 2) (next : ℕ) (links : Slice) (length : ℕ) (out : Room) (y : Mf4WrittenReply) (after : List ℕ)
    → WritesEqualC κs next links length out y after → ExactlyZero (ListFits out.now links.now (equal length)) y.reply
list_equal_zero κs next links length out y after p =
    zero_exactly y.reply y.told _ _ (mf4_write_list_equal_told κs next links length out y after p) (list_written_exactly out.now next links.now (equal length))

pub list_variable_zero : (κs : Lfts 3) (next : ℕ) (links offsets : Slice) (out : Room) (y : Mf4WrittenReply) (after : List ℕ)
    → WritesVariableC κs next links offsets out y after → ExactlyZero (ListFits out.now links.now (variable offsets.now)) y.reply
list_variable_zero κs next links offsets out y after p =
    zero_exactly y.reply y.told _ _ (mf4_write_list_variable_told κs next links offsets out y after p) (list_written_exactly out.now next links.now (variable offsets.now))

-- ---- a text

module _ (e : Encoding) (κs : Lfts 2) (bytes : Slice) (out : Room) (y : Mf4TextReply) (after : List ℕ) (p : WritesTextC e κs bytes out y after) where
  pub text_write_zero : ExactlyZero (length (text_of e bytes.now).bytes ≤ length out.now) y.reply
  text_write_zero = zero_exactly y.reply y.told _ _ (mf4_text_told e κs bytes out y after p) (text_written_exactly out.now e bytes.now)

  -- into twice its bytes, and no fewer than 17, every text is written
  pub text_write_answers : Bytes bytes.now → room (length bytes.now) ≤ length out.now → y.reply ≡ 0
  text_write_answers b l = text_write_zero.answers (omega (arith, text_room e bytes.now b))

-- ---- a field

pub value_read_zero : (κs : Lfts 1) (bytes : Slice) (id_size : ℕ) (channel : Mf4Channel) (y : Mf4ValueReply)
    → ReadsValueC κs bytes id_size channel y → ExactlyZero (FieldStands bytes.now id_size (channel_given channel)) y.reply
value_read_zero κs bytes id_size channel y p =
    let told = of_kind_told Reversible y.reply y.told y.kind _ _ (value_tellable bytes.now id_size (channel_given channel))
    (mf4_decode_value_told κs bytes id_size channel y p) in
    zero_exactly y.reply y.told _ _ told (value_exactly bytes.now id_size (channel_given channel))

pub valid_value_read_zero : (κs : Lfts 1) (bytes : Slice) (group : Mf4Group) (channel : Mf4Channel) (y : Mf4ValidValueReply)
    → ReadsValidValueC κs bytes group channel y → ExactlyZero (BoundedStands bytes.now (group_given group) (channel_given channel)) y.reply
valid_value_read_zero κs bytes group channel y p =
    let told = of_kind_told Judged y.reply y.told y.kind _ _ (bounded_value_tellable bytes.now (group_given group) (channel_given channel))
    (mf4_decode_valid_value_told κs bytes group channel y p) in
    zero_exactly y.reply y.told _ _ told (bounded_value_exactly bytes.now (group_given group) (channel_given channel))

pub unbounded_read_zero : (κs : Lfts 1) (bytes : Slice) (group : Mf4Group) (channel : Mf4Channel) (y : Mf4ValidValueReply)
    → ReadsUnboundedC κs bytes group channel y → ExactlyZero (FieldStands bytes.now (group_given group).id_size (channel_given channel)) y.reply
unbounded_read_zero κs bytes group channel y p =
    let told = of_kind_told Judged y.reply y.told y.kind _ _ (valid_value_tellable bytes.now (group_given group) (channel_given channel))
    (mf4_decode_valid_value_unbounded_told κs bytes group channel y p) in
    zero_exactly y.reply y.told _ _ told (valid_value_exactly bytes.now (group_given group) (channel_given channel))

pub check_validity_zero : (κs : Lfts 1) (bytes : Slice) (group : Mf4Group) (channel : Mf4Channel) (y : Mf4ValidityReply)
    → ChecksValidityC κs bytes group channel y → ExactlyZero (InArea (length bytes.now) (group_given group) (channel_given channel)) y.reply
check_validity_zero κs bytes group channel y p =
    zero_exactly y.reply y.told _ _ (mf4_check_validity_told κs bytes group channel y p) (bounded_valid_exactly bytes.now (group_given group) (channel_given channel))

-- ---- the joined data, a record of it, and a value in that

pub length_read_zero : (κs : Lfts 1) (file : Slice) (start : ℕ) (y : Mf4LengthReply)
    → ReadsLengthC κs file start y → ExactlyZero (Joinable file.now start) y.reply
length_read_zero κs file start y p = zero_exactly y.reply y.told _ _ (mf4_data_length_told κs file start y p) (length_exactly file.now start)

pub record_read_zero : (κs : Lfts 2) (file : Slice) (start number size : ℕ) (out : Room) (y : Mf4DoneReply) (after : List ℕ)
    → ReadsRecordC κs file start number size out y after → ExactlyZero (Fetchable file.now start number size out.now) y.reply
record_read_zero κs file start number size out y after p =
    zero_exactly y.reply y.told _ _ (mf4_read_record_told κs file start number size out y after p) (fetched_exactly file.now start number size out.now)

pub record_value_zero : (κs : Lfts 2) (file : Slice) (start number size : ℕ) (group : Mf4Group) (channel : Mf4Channel) (out : Room) (y : Mf4ValidValueReply) (after : List ℕ)
    → ReadsRecordValueC κs file start number size group channel out y after
    → ExactlyZero (ValueFetchable file.now start number size (group_given group) (channel_given channel) out.now) y.reply
record_value_zero κs file start number size group channel out y after p =
    let told = of_kind_told Judged y.reply y.told y.kind _ _
    (value_fetched_tellable file.now start number size (group_given group) (channel_given channel) out.now)
    (mf4_record_value_told κs file start number size group channel out y after p) in
    zero_exactly y.reply y.told _ _ told
    (value_fetched_exactly file.now start number size out.now (group_given group) (channel_given channel))
