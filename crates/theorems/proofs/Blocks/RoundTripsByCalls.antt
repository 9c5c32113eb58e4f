-- What a call wrote, the other call reads, and what one read, the other writes again: about the calls' own clauses.
use mathlib.Core.Path.{◌≡◌, sym, ap, ◌∙◌}
use mathlib.Core.List.{List}
use mathlib.Core.Bool.{true}
use Prim.Native.Nat.{ℕ, ◌^◌, ◌<◌}
use contract.Lifetimes.{Lfts}
use lib.ListN.{take}
use Rattle.std.specs.Prelude.{Result}
use Rattle.definitions.specs.Reply.{Outcome, answer}
use Rattle.definitions.specs.DataType.{type_of, code_of, owns_code}
use Rattle.definitions.specs.ChannelBlock as channels
use Rattle.definitions.specs.DataList.{DataList, Lengths, equal, variable, flags_for, rest_for, list_written}
use Rattle.definitions.proofs.Types.{type_back_law}
use Rattle.refusals.specs.declared.Refusal.{Refusal}
use Rattle.words.proofs.Numbers.{Bytes}
use Rattle.data_types.specs.Meaning.{type_meant}
use Rattle.blocks.specs.Meaning.{header_reply, header_meant, written_reply, list_reply}
use Rattle.channels.specs.Meaning.{channel_block_meant, channel_block_reply}
use Rattle.blocks.specs.declared.header.BlockHeader.{BlockHeader}
use Rattle.data_types.specs.declared.data_type.DataType.{DataType}
use Rattle.data_types.specs.declared.data_type.DataType.TheVariants.{Unknown}
use Rattle.blocks.specs.declared.data_list.DataListBlock.{DataListBlock}
use Rattle.channels.specs.declared.channel_block.ChannelBlock.{ChannelBlock}
use Rattle.data_types.proofs.Back.{type_one}
use Rattle.mf4.specs.Clauses.{Slice, Room}
use Rattle.theorems.specs.Clauses.{ReadsHeader, WritesHeader, ReadsType, GivesCode, ReadsChannel, WritesChannel, ReadsList, WritesEqual, WritesVariable}
use Rattle.theorems.proofs.Types.TypeCodes.{code_back, only_owned}
use Rattle.theorems.proofs.Blocks.Rewritten.{Words}
use Rattle.theorems.proofs.Blocks.HeaderRoundTrip.{Fits}
use Rattle.theorems.proofs.Blocks.ChannelWrittenRead.{BlockFits, block_written}
use Rattle.theorems.proofs.Blocks.ChannelReadWritten.{PlainBlock}
use Rattle.theorems.proofs.Blocks.ListWrittenRead.{list_from}
use Rattle.theorems.proofs.Blocks.RoundTripsInBuffers.{WrittenInto, header_back_law, header_again_law, channel_back_law, channel_again_law, channel_again_plain, ListBack, WrittenFrom, one_word, list_back, list_again_law}

into : (y : Result ℕ Refusal) (after : List ℕ) (o : Outcome ℕ) → record { reply = written_reply y; buffer = after } ≡ o → (n : ℕ) → written_reply y ≡ answer n → WrittenInto after o
into y after o p n e = record { count = n; answers = sym (ap (λ (x : Outcome ℕ). x.reply) p) ∙ e; left = ap (λ (x : Outcome ℕ). x.buffer) p }

-- ---- a type

-- every code
pub code_given_back : (rs ws : Lfts 0) (code : ℕ) (t : DataType) (y : ℕ) → ReadsType rs code t → GivesCode ws t y → y ≡ code
code_given_back rs ws code t y read gave = gave ∙ ap code_of read ∙ code_back code

module _ (ws rs : Lfts 0) (t : DataType) (code : ℕ) (z : DataType) (gave : GivesCode ws t code) (read : ReadsType rs code z) where
  -- a type whose code is its own, and no other
  pub type_read_back : owns_code (type_meant t) ≡ true → z ≡ t
  type_read_back own = type_one z t (read ∙ ap type_of gave ∙ type_back_law (type_meant t) own)

  pub type_read_owned : z ≡ t → owns_code (type_meant t) ≡ true
  type_read_owned same = only_owned (type_meant t) (sym (read ∙ ap type_of gave) ∙ ap type_meant same)

  -- an unknown type made with any code goes back to it, and is read as its type: by `TypeCodes.unknown_read` no unknown one up to 16
  pub unknown_read_back : (n : ℕ) → t ≡ Unknown n → (code ≡ n) × (type_meant z ≡ type_of n)
  unknown_read_back n made =
      let back : code ≡ n = gave ∙ ap (λ (x : DataType). code_of (type_meant x)) made in
      (back, read ∙ ap type_of back)

-- ---- a header

module _ (ws rs : Lfts 1) (header : BlockHeader) (out : Room) (y : Result ℕ Refusal) (after : List ℕ) (n : ℕ)
    (wrote : WritesHeader ws header out y after) (answers : written_reply y ≡ answer n) (bytes : Slice) (z : Result BlockHeader Refusal) (read : ReadsHeader rs bytes z) where
  pub header_read_back_law : Fits (header_meant header) → bytes.now ≡ after → header_reply z ≡ answer (header_meant header)
  header_read_back_law fits same = read ∙ header_back_law out.now (header_meant header) after (into y after _ wrote n answers) fits bytes.now same

  pub header_written_again : Bytes bytes.now → header_reply z ≡ answer (header_meant header) → take 24 after ≡ take 24 bytes.now
  header_written_again b e = header_again_law out.now (header_meant header) after (into y after _ wrote n answers) bytes.now b (sym read ∙ e)

-- ---- a channel block

module _ (ws rs : Lfts 1) (block : ChannelBlock) (out : Room) (y : Result ℕ Refusal) (after : List ℕ) (n : ℕ)
    (wrote : WritesChannel ws block out y after) (answers : written_reply y ≡ answer n) (bytes : Slice) (z : Result ChannelBlock Refusal) (read : ReadsChannel rs bytes z) where
  abbrev b : channels.ChannelBlock
  b = channel_block_meant block

  pub channel_read_back_law : BlockFits b → bytes.now ≡ after → channel_block_reply z ≡ answer (block_written b)
  channel_read_back_law fits same = read ∙ channel_back_law out.now b after (into y after _ wrote n answers) fits bytes.now same

  module _ (below : Bytes bytes.now) (found : channel_block_reply z ≡ answer b) where
    pub channel_written_again : PlainBlock b → take 160 after ≡ take 160 bytes.now
    channel_written_again = channel_again_law out.now b after (into y after _ wrote n answers) bytes.now below (sym read ∙ found)

    pub channel_written_plainly : take 160 after ≡ take 160 bytes.now → PlainBlock b
    channel_written_plainly = channel_again_plain out.now b after (into y after _ wrote n answers) bytes.now below (sym read ∙ found)

-- ---- a list

-- what reading gives of the bytes that were left
abbrev pub ReadBack : Lfts 1 → ℕ → List ℕ → Lengths → List ℕ → Type 0
ReadBack rs next links l after =
    (bytes : Slice) (z : Result DataListBlock Refusal) → ReadsList rs bytes z → bytes.now ≡ after
    → (list_reply z ≡ answer (list_from next links (flags_for l) (rest_for l))) × ListBack next links l bytes.now

-- where a list that was read is written
abbrev pub WrittenAgain : Lfts 1 → ℕ → List ℕ → Lengths → List ℕ → Type 0
WrittenAgain rs next links l after =
    (bytes : Slice) (z : Result DataListBlock Refusal) (d : DataList) → ReadsList rs bytes z → list_reply z ≡ answer d → Bytes bytes.now → WrittenFrom bytes.now d next links l
    → take d.header.block_length after ≡ take d.header.block_length bytes.now

module _ (rs : Lfts 1) (out : List ℕ) (next : ℕ) (links : List ℕ) (l : Lengths) (after : List ℕ) (w : WrittenInto after (list_written out next links l)) where
  read_back : next < 2 ^ 64 → Words links → Words (rest_for l) → ReadBack rs next links l after
  read_back a b c bytes z read same = let back = list_back out next links l after w a b c bytes.now same in (read ∙ back.list, back)

  written_again_law : WrittenAgain rs next links l after
  written_again_law bytes z d read e b f = list_again_law out next links l after w bytes.now d b (sym read ∙ e) f

module _ (ws : Lfts 2) (rs : Lfts 1) (next : ℕ) (links : Slice) (size : ℕ) (out : Room) (y : Result ℕ Refusal) (after : List ℕ) (n : ℕ)
    (wrote : WritesEqual ws next links size out y after) (answers : written_reply y ≡ answer n) where
  pub equal_read_back : next < 2 ^ 64 → Words links.now → size < 2 ^ 64 → ReadBack rs next links.now (equal size) after
  equal_read_back a b c = read_back rs out.now next links.now (equal size) after (into y after _ wrote n answers) a b (one_word size c)

  pub equal_written_again : WrittenAgain rs next links.now (equal size) after
  equal_written_again = written_again_law rs out.now next links.now (equal size) after (into y after _ wrote n answers)

module _ (ws : Lfts 3) (rs : Lfts 1) (next : ℕ) (links offsets : Slice) (out : Room) (y : Result ℕ Refusal) (after : List ℕ) (n : ℕ)
    (wrote : WritesVariable ws next links offsets out y after) (answers : written_reply y ≡ answer n) where
  pub variable_read_back : next < 2 ^ 64 → Words links.now → Words offsets.now → ReadBack rs next links.now (variable offsets.now) after
  variable_read_back = read_back rs out.now next links.now (variable offsets.now) after (into y after _ wrote n answers)

  pub variable_written_again : WrittenAgain rs next links.now (variable offsets.now) after
  variable_written_again = written_again_law rs out.now next links.now (variable offsets.now) after (into y after _ wrote n answers)
