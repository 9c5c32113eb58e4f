-- When each refusal of a block is given, and of a text that is written, exactly: about each call's own clause.
use mathlib.Core.List.{List}
use Prim.Native.Nat.{ℕ}
use contract.Lifetimes.{Lfts}
use Rattle.std.specs.Prelude.{Result}
use Rattle.definitions.specs.Unicode as unicode
use Rattle.definitions.specs.DataList.{equal, variable}
use Rattle.refusals.specs.declared.Refusal.{Refusal}
use Rattle.blocks.specs.Meaning.{header_reply, header_meant, written_reply, list_reply}
use Rattle.blocks.specs.declared.header.BlockHeader.{BlockHeader}
use Rattle.blocks.specs.declared.data_list.DataListBlock.{DataListBlock}
use Rattle.channels.specs.Meaning.{channel_block_reply, channel_block_meant}
use Rattle.channels.specs.declared.channel_block.ChannelBlock.{ChannelBlock}
use Rattle.encodings.specs.Meaning.{encoding_of}
use Rattle.text.specs.Meaning.{text_reply}
use Rattle.encodings.specs.declared.encoding.Encoding.{Encoding}
use Rattle.text.specs.declared.answer.TextWritten.{TextWritten}
use Rattle.block_replies.specs.Replies.{header_given}
use Rattle.block_replies.specs.Channels.{block_given}
use Rattle.block_replies.specs.declared.header.Mf4Header.{Mf4Header}
use Rattle.block_replies.specs.declared.header.Mf4HeaderReply.{Mf4HeaderReply}
use Rattle.block_replies.specs.declared.list.Mf4ListReply.{Mf4ListReply}
use Rattle.block_replies.specs.declared.channel_block.Mf4ChannelBlock.{Mf4ChannelBlock}
use Rattle.block_replies.specs.declared.channel_block.Mf4ChannelReply.{Mf4ChannelReply}
use Rattle.block_replies.specs.declared.written.Mf4WrittenReply.{Mf4WrittenReply}
use Rattle.replies.specs.declared.texts.Mf4TextReply.{Mf4TextReply}
use Rattle.mf4.specs.Clauses.{Slice, Room}
use Rattle.theorems.specs.Refused.{RefusedExactly, ToldExactly}
use Rattle.theorems.specs.BlockCauses.{header_refused, list_refused, channel_refused, header_unwritten, list_unwritten, channel_unwritten, text_unwritten}
use Rattle.theorems.specs.Clauses.{ReadsHeader, WritesHeader, ReadsList, WritesEqual, WritesVariable, ReadsChannel, WritesChannel, WritesText}
use Rattle.theorems.specs.ClausesToC.{ReadsHeaderC, WritesHeaderC, ReadsListC, WritesEqualC, WritesVariableC, ReadsChannelC, WritesChannelC, WritesTextC}
use Rattle.theorems.proofs.Calls.Outcomes.{of_outcome}
use Rattle.theorems.proofs.Calls.ToldToC.{mf4_read_header_told, mf4_write_header_told, mf4_read_list_told, mf4_write_list_equal_told, mf4_write_list_variable_told, mf4_read_channel_told, mf4_write_channel_told, mf4_text_told}
use Rattle.theorems.proofs.Calls.TestsInTurn.{as_is, told_exactly}
use Rattle.theorems.proofs.Blocks.BlockCauses.{header_refused_law, list_refused_law, channel_refused_law, header_written_refused, list_written_refused, channel_written_refused, text_written_refused}

-- ---- read

pub header_read_refused : (κs : Lfts 1) (bytes : Slice) (y : Result BlockHeader Refusal) → ReadsHeader κs bytes y → RefusedExactly (header_refused bytes.now) (header_reply y)
header_read_refused κs bytes y p = as_is p (header_refused_law bytes.now)

pub list_read_refused : (κs : Lfts 1) (bytes : Slice) (y : Result DataListBlock Refusal) → ReadsList κs bytes y → RefusedExactly (list_refused bytes.now) (list_reply y)
list_read_refused κs bytes y p = as_is p (list_refused_law bytes.now)

pub channel_read_refused : (κs : Lfts 1) (bytes : Slice) (y : Result ChannelBlock Refusal) → ReadsChannel κs bytes y → RefusedExactly (channel_refused bytes.now) (channel_block_reply y)
channel_read_refused κs bytes y p = as_is p (channel_refused_law bytes.now)

-- ---- written

pub header_write_refused : (κs : Lfts 1) (header : BlockHeader) (out : Room) (y : Result ℕ Refusal) (after : List ℕ)
    → WritesHeader κs header out y after → RefusedExactly (header_unwritten out.now) (written_reply y)
header_write_refused κs header out y after p = as_is (of_outcome p) (header_written_refused out.now (header_meant header))

pub list_equal_refused : (κs : Lfts 2) (next : ℕ) (links : Slice) (length : ℕ) (out : Room) (y : Result ℕ Refusal) (after : List ℕ)
    → WritesEqual κs next links length out y after → RefusedExactly (list_unwritten out.now links.now (equal length)) (written_reply y)
list_equal_refused κs next links length out y after p = as_is (of_outcome p) (list_written_refused out.now next links.now (equal length))

pub list_variable_refused : (κs : Lfts 3) (next : ℕ) (links offsets : Slice) (out : Room) (y : Result ℕ Refusal) (after : List ℕ)
    → WritesVariable κs next links offsets out y after → RefusedExactly (list_unwritten out.now links.now (variable offsets.now)) (written_reply y)
list_variable_refused κs next links offsets out y after p =
    as_is (of_outcome p) (list_written_refused out.now next links.now (variable offsets.now))

pub channel_write_refused : (κs : Lfts 1) (block : ChannelBlock) (out : Room) (y : Result ℕ Refusal) (after : List ℕ)
    → WritesChannel κs block out y after → RefusedExactly (channel_unwritten out.now) (written_reply y)
channel_write_refused κs block out y after p = as_is (of_outcome p) (channel_written_refused out.now (channel_block_meant block))

pub text_write_refused : (κs : Lfts 2) (encoding : Encoding) (bytes : Slice) (out : Room) (y : Result TextWritten Refusal) (after : List ℕ)
    → WritesText κs encoding bytes out y after → RefusedExactly (text_unwritten out.now (encoding_of encoding) bytes.now) (text_reply y)
text_write_refused κs encoding bytes out y after p = as_is (of_outcome p) (text_written_refused out.now (encoding_of encoding) bytes.now)

-- ---- for C: of the reply that the struct has, and of what it tells

pub mf4_read_header_refused : (κs : Lfts 1) (bytes : Slice) (y : Mf4HeaderReply) → ReadsHeaderC κs bytes y → ToldExactly (header_refused bytes.now) y.reply y.told
mf4_read_header_refused κs bytes y p = told_exactly _ _ _ _ (mf4_read_header_told κs bytes y p) (header_refused_law bytes.now)

pub mf4_read_list_refused : (κs : Lfts 1) (bytes : Slice) (y : Mf4ListReply) → ReadsListC κs bytes y → ToldExactly (list_refused bytes.now) y.reply y.told
mf4_read_list_refused κs bytes y p = told_exactly _ _ _ _ (mf4_read_list_told κs bytes y p) (list_refused_law bytes.now)

pub mf4_read_channel_refused : (κs : Lfts 1) (bytes : Slice) (y : Mf4ChannelReply) → ReadsChannelC κs bytes y → ToldExactly (channel_refused bytes.now) y.reply y.told
mf4_read_channel_refused κs bytes y p = told_exactly _ _ _ _ (mf4_read_channel_told κs bytes y p) (channel_refused_law bytes.now)

pub mf4_write_header_refused : (κs : Lfts 1) (header : Mf4Header) (out : Room) (y : Mf4WrittenReply) (after : List ℕ)
    → WritesHeaderC κs header out y after → ToldExactly (header_unwritten out.now) y.reply y.told
mf4_write_header_refused κs header out y after p =
    told_exactly _ _ _ _ (mf4_write_header_told κs header out y after p) (header_written_refused out.now (header_given header))

pub mf4_write_list_equal_refused : (κs : Lfts 2) (next : ℕ) (links : Slice) (length : ℕ) (out : Room) (y : Mf4WrittenReply) (after : List ℕ)
    → WritesEqualC κs next links length out y after → ToldExactly (list_unwritten out.now links.now (equal length)) y.reply y.told
mf4_write_list_equal_refused κs next links length out y after p =
    told_exactly _ _ _ _ (mf4_write_list_equal_told κs next links length out y after p) (list_written_refused out.now next links.now (equal length))

pub mf4_write_list_variable_refused : (κs : Lfts 3) (next : ℕ) (links offsets : Slice) (out : Room) (y : Mf4WrittenReply) (after : List ℕ)
    → WritesVariableC κs next links offsets out y after → ToldExactly (list_unwritten out.now links.now (variable offsets.now)) y.reply y.told
mf4_write_list_variable_refused κs next links offsets out y after p =
    told_exactly _ _ _ _ (mf4_write_list_variable_told κs next links offsets out y after p) (list_written_refused out.now next links.now (variable offsets.now))

pub mf4_write_channel_refused : (κs : Lfts 1) (block : Mf4ChannelBlock) (out : Room) (y : Mf4WrittenReply) (after : List ℕ)
    → WritesChannelC κs block out y after → ToldExactly (channel_unwritten out.now) y.reply y.told
mf4_write_channel_refused κs block out y after p =
    told_exactly _ _ _ _ (mf4_write_channel_told κs block out y after p) (channel_written_refused out.now (block_given block))

-- the four calls for texts
pub mf4_text_refused : (e : unicode.Encoding) (κs : Lfts 2) (bytes : Slice) (out : Room) (y : Mf4TextReply) (after : List ℕ)
    → WritesTextC e κs bytes out y after → ToldExactly (text_unwritten out.now e bytes.now) y.reply y.told
mf4_text_refused e κs bytes out y after p = told_exactly _ _ _ _ (mf4_text_told e κs bytes out y after p) (text_written_refused out.now e bytes.now)
