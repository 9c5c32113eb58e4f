-- What a call for C wrote, the other reads, and what one read, the other writes again: about the calls' own clauses.
use mathlib.Core.Path.{◌≡◌, sym, ap, ◌∙◌}
use mathlib.Core.List.{List}
use Prim.Native.Nat.{ℕ, ◌^◌, ◌<◌}
use contract.Lifetimes.{Lfts}
use lib.ListN.{take}
use borrow.Author.Tests.{eq-eqb}
use Rattle.definitions.specs.Reply.{Outcome, answer}
use Rattle.definitions.specs.Header.{header_written}
use Rattle.definitions.specs.DataType.{type_of, code_of}
use Rattle.definitions.specs.ChannelBlock.{channel_written}
use Rattle.definitions.specs.DataList.{DataList, Lengths, equal, variable, flags_for, rest_for, list_written}
use Rattle.words.proofs.Numbers.{Bytes}
use Rattle.block_replies.specs.Replies.{returned, returned_by, written_c, header_given, header_c, list_c}
use Rattle.block_replies.specs.Channels.{block_given, channel_c}
use Rattle.block_replies.specs.declared.channel_block.Mf4ChannelBlock.{Mf4ChannelBlock}
use Rattle.block_replies.specs.declared.channel_block.Mf4ChannelReply.{Mf4ChannelReply}
use Rattle.block_replies.specs.declared.header.Mf4Header.{Mf4Header}
use Rattle.block_replies.specs.declared.header.Mf4HeaderReply.{Mf4HeaderReply}
use Rattle.block_replies.specs.declared.list.Mf4ListReply.{Mf4ListReply}
use Rattle.block_replies.specs.declared.written.Mf4WrittenReply.{Mf4WrittenReply}
use Rattle.mf4.specs.Clauses.{Slice, Room}
use Rattle.theorems.specs.ClausesToC.{ReadsHeaderC, WritesHeaderC, GivesCodeC, ReadsChannelC, WritesChannelC, ReadsListC, WritesEqualC, WritesVariableC}
use Rattle.block_replies.proofs.ToldToC.{written_again, header_again, list_again, channel_again}
use Rattle.theorems.proofs.Calls.Outcomes.{returned_buffer}
use Rattle.theorems.proofs.Calls.ToldToC.{mf4_read_header_told, mf4_write_header_told, mf4_read_channel_told, mf4_write_channel_told, mf4_read_list_told, mf4_write_list_equal_told, mf4_write_list_variable_told}
use Rattle.theorems.proofs.Types.TypeCodes.{code_back, type_written_law}
use Rattle.theorems.proofs.Blocks.Rewritten.{Words}
use Rattle.theorems.proofs.Blocks.HeaderRoundTrip.{Fits}
use Rattle.theorems.proofs.Blocks.ChannelWrittenRead.{BlockFits, block_written}
use Rattle.theorems.proofs.Blocks.ChannelReadWritten.{PlainBlock}
use Rattle.theorems.proofs.Blocks.ListWrittenRead.{list_from}
use Rattle.theorems.proofs.Blocks.RoundTripsInBuffers.{WrittenInto, header_back_law, header_again_law, channel_back_law, channel_again_law, channel_again_plain, ListBack, WrittenFrom, one_word, list_back, list_again_law}

-- a reply of 0 is an answer
into : (y : Mf4WrittenReply) (after : List ℕ) (o : Outcome ℕ) → returned y after ≡ returned_by written_c o → written_again y ≡ o.reply → y.reply ≡ 0 → WrittenInto after o
into y after o p told zero = record {
  count = y.count;
  answers = sym told ∙ rw (eq-eqb _ _ zero);
  left = returned_buffer p;
}

-- ---- a type

-- every code
pub code_given_back : (κs : Lfts 0) (code y : ℕ) → GivesCodeC κs code y → y ≡ code
code_given_back κs code y gave = gave ∙ code_back code

-- ---- a header

module _ (ws rs : Lfts 1) (header : Mf4Header) (out : Room) (y : Mf4WrittenReply) (after : List ℕ)
    (wrote : WritesHeaderC ws header out y after) (zero : y.reply ≡ 0) (bytes : Slice) (z : Mf4HeaderReply) (read : ReadsHeaderC rs bytes z) where
  header_in_law : WrittenInto after (header_written out.now (header_given header))
  header_in_law = into y after _ wrote (mf4_write_header_told ws header out y after wrote) zero

  pub header_read_back_law : Fits (header_given header) → bytes.now ≡ after → z ≡ header_c (answer (header_given header))
  header_read_back_law fits same = read ∙ ap header_c (header_back_law out.now (header_given header) after header_in_law fits bytes.now same)

  pub header_written_again : Bytes bytes.now → header_again z ≡ answer (header_given header) → take 24 after ≡ take 24 bytes.now
  header_written_again b e =
      header_again_law out.now (header_given header) after header_in_law bytes.now b (sym (mf4_read_header_told rs bytes z read) ∙ e)

-- ---- a channel block

module _ (ws rs : Lfts 1) (block : Mf4ChannelBlock) (out : Room) (y : Mf4WrittenReply) (after : List ℕ)
    (wrote : WritesChannelC ws block out y after) (zero : y.reply ≡ 0) (bytes : Slice) (z : Mf4ChannelReply) (read : ReadsChannelC rs bytes z) where
  channel_in : WrittenInto after (channel_written out.now (block_given block))
  channel_in = into y after _ wrote (mf4_write_channel_told ws block out y after wrote) zero

  pub channel_read_back_law : BlockFits (block_given block) → bytes.now ≡ after → z ≡ channel_c (answer (block_written (block_given block)))
  channel_read_back_law fits same = read ∙ ap channel_c (channel_back_law out.now (block_given block) after channel_in fits bytes.now same)

  -- the type's code too, whatever it is: none that C gives is that of another type
  pub channel_code_back : BlockFits (block_given block) → bytes.now ≡ after → z.block.channel.data_type ≡ block.channel.data_type
  channel_code_back fits same =
      let code : ℕ = block.channel.data_type in
      ap (λ (x : Mf4ChannelReply). x.block.channel.data_type) (channel_read_back_law fits same)
      ∙ ap code_of (sym (type_written_law (type_of code))) ∙ code_back (code_of (type_of code)) ∙ code_back code

  module _ (below : Bytes bytes.now) (found : channel_again z ≡ answer (block_given block)) where
    pub channel_written_again : PlainBlock (block_given block) → take 160 after ≡ take 160 bytes.now
    channel_written_again =
        channel_again_law out.now (block_given block) after channel_in bytes.now below (sym (mf4_read_channel_told rs bytes z read) ∙ found)

    pub channel_written_plainly : take 160 after ≡ take 160 bytes.now → PlainBlock (block_given block)
    channel_written_plainly =
        channel_again_plain out.now (block_given block) after channel_in bytes.now below (sym (mf4_read_channel_told rs bytes z read) ∙ found)

-- ---- a list

-- what reading gives of the bytes that were left
abbrev pub ReadBack : Lfts 1 → ℕ → List ℕ → Lengths → List ℕ → Type 0
ReadBack rs next links l after =
    (bytes : Slice) (z : Mf4ListReply) → ReadsListC rs bytes z → bytes.now ≡ after
    → (z ≡ list_c (answer (list_from next links (flags_for l) (rest_for l)))) × ListBack next links l bytes.now

-- where a list that was read is written
abbrev pub WrittenAgain : Lfts 1 → ℕ → List ℕ → Lengths → List ℕ → Type 0
WrittenAgain rs next links l after =
    (bytes : Slice) (z : Mf4ListReply) (d : DataList) → ReadsListC rs bytes z → list_again z ≡ answer d → Bytes bytes.now → WrittenFrom bytes.now d next links l
    → take d.header.block_length after ≡ take d.header.block_length bytes.now

module _ (rs : Lfts 1) (out : List ℕ) (next : ℕ) (links : List ℕ) (l : Lengths) (after : List ℕ) (w : WrittenInto after (list_written out next links l)) where
  read_back : next < 2 ^ 64 → Words links → Words (rest_for l) → ReadBack rs next links l after
  read_back a b c bytes z read same = let back = list_back out next links l after w a b c bytes.now same in (read ∙ ap list_c back.list, back)

  written_again_law : WrittenAgain rs next links l after
  written_again_law bytes z d read e b f = list_again_law out next links l after w bytes.now d b (sym (mf4_read_list_told rs bytes z read) ∙ e) f

module _ (ws : Lfts 2) (rs : Lfts 1) (next : ℕ) (links : Slice) (size : ℕ) (out : Room) (y : Mf4WrittenReply) (after : List ℕ)
    (wrote : WritesEqualC ws next links size out y after) (zero : y.reply ≡ 0) where
  equal_in : WrittenInto after (list_written out.now next links.now (equal size))
  equal_in = into y after _ wrote (mf4_write_list_equal_told ws next links size out y after wrote) zero

  pub equal_read_back : next < 2 ^ 64 → Words links.now → size < 2 ^ 64 → ReadBack rs next links.now (equal size) after
  equal_read_back a b c = read_back rs out.now next links.now (equal size) after equal_in a b (one_word size c)

  pub equal_written_again : WrittenAgain rs next links.now (equal size) after
  equal_written_again = written_again_law rs out.now next links.now (equal size) after equal_in

module _ (ws : Lfts 3) (rs : Lfts 1) (next : ℕ) (links offsets : Slice) (out : Room) (y : Mf4WrittenReply) (after : List ℕ)
    (wrote : WritesVariableC ws next links offsets out y after) (zero : y.reply ≡ 0) where
  variable_in : WrittenInto after (list_written out.now next links.now (variable offsets.now))
  variable_in = into y after _ wrote (mf4_write_list_variable_told ws next links offsets out y after wrote) zero

  pub variable_read_back : next < 2 ^ 64 → Words links.now → Words offsets.now → ReadBack rs next links.now (variable offsets.now) after
  variable_read_back = read_back rs out.now next links.now (variable offsets.now) after variable_in

  pub variable_written_again : WrittenAgain rs next links.now (variable offsets.now) after
  variable_written_again = written_again_law rs out.now next links.now (variable offsets.now) after variable_in
