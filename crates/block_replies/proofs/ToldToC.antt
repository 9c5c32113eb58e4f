-- What C is told is all that the definition gives: from each struct the definition's reply comes back.
use Rattle.std.specs.Prelude.{if◌then◌else◌}
use mathlib.Core.Path.{◌≡◌, refl, ap}
use mathlib.Core.Bool.{true}
use Prim.Native.Nat.{ℕ, ◌<◌}
use native.Mathlib.Omega.{arith}
use lib.Dec.{eqb}
use borrow.Author.Tests.{ne_eqb}
use Rattle.definitions.specs.Reply.{Reply, answer, refusal}
use Rattle.definitions.specs.Header.{Header}
use Rattle.definitions.specs.DataList.{DataList}
use Rattle.definitions.specs.DataType.{owns_code}
use Rattle.definitions.specs.ChannelBlock.{ChannelBlock}
use Rattle.definitions.specs.Channel.{Channel}
use Rattle.definitions.proofs.Types.{type_back_law}
use Rattle.block_replies.specs.Replies.{written_c, header_c, header_given, list_c}
use Rattle.block_replies.specs.Channels.{description_c, block_c, block_given, channel_c, channel_given}
use Rattle.block_replies.specs.declared.written.Mf4WrittenReply.{Mf4WrittenReply}
use Rattle.block_replies.specs.declared.header.Mf4HeaderReply.{Mf4HeaderReply}
use Rattle.block_replies.specs.declared.list.Mf4ListReply.{Mf4ListReply}
use Rattle.block_replies.specs.declared.channel_block.Mf4ChannelReply.{Mf4ChannelReply}

-- a refusal has a number above 0, and what is answered meets P
abbrev pub Tellable : {A : Type 0} → (A → Type 0) → Reply A → Type 0
Tellable P (answer a) = P a
Tellable P (refusal n t) = 0 < n

-- every answer can be told
abbrev pub Any : {A : Type 0} → A → Type 0
Any a = Unit {0}

-- a reply of 0 is what the other fields say
abbrev pub again : {A : Type 0} → ℕ → ℕ → Reply A → Reply A
again reply told fields = if eqb reply 0 then fields else refusal reply told

pub again_refused : {A : Type 0} (fields : Reply A) (n t : ℕ) → 0 < n → again n t fields ≡ refusal n t
again_refused fields n t h =
    let no : n ≡ 0 → ⊥ = λ e. omega arith in
    rw (ne_eqb _ _ no)

-- the kinds of reply share this: an answer comes back, and a refusal by its number
pub told_by : {A C : Type 0} (P : A → Type 0) (to_c : Reply A → C) (back : C → Reply A) → ((a : A) → P a → back (to_c (answer a)) ≡ answer a)
    → ((n t : ℕ) → 0 < n → back (to_c (refusal n t)) ≡ refusal n t) → (r : Reply A) → Tellable P r → back (to_c r) ≡ r
told_by P to_c back answered refused (answer a) h = answered a h
told_by P to_c back answered refused (refusal n t) h = refused n t h

-- ---- bytes written

abbrev pub written_again : Mf4WrittenReply → Reply ℕ
written_again s = again s.reply s.told (answer s.count)

pub written_told : (r : Reply ℕ) → Tellable Any r → written_again (written_c r) ≡ r
written_told = told_by Any written_c written_again (λ a h. refl) (again_refused _)

-- ---- blocks

abbrev pub header_again : Mf4HeaderReply → Reply Header
header_again s = again s.reply s.told (answer (header_given s.header))

pub header_told : (r : Reply Header) → Tellable Any r → header_again (header_c r) ≡ r
header_told = told_by Any header_c header_again (λ a h. refl) (again_refused _)

abbrev pub list_again : Mf4ListReply → Reply DataList
list_again s =
    again s.reply s.told
    (answer (record {
      header = header_given s.header;
      next = s.next_addr;
      links_at = s.data_links_at;
      links = s.data_link_count;
      flags = s.flags;
      reserved = s.reserved1;
      count = s.data_block_count;
      rest_at = s.rest_at;
      rest = s.rest_count;
    }))

pub list_told : (r : Reply DataList) → Tellable Any r → list_again (list_c r) ≡ r
list_told = told_by Any list_c list_again (λ a h. refl) (again_refused _)

-- a description comes back when C gives it to another call, where its type's code is its own
pub description_back_law : (c : Channel) → owns_code c.data_type ≡ true → channel_given (description_c c) ≡ c
description_back_law c own = λ i. record {
  data_type = type_back_law c.data_type own i;
  channel_type = c.channel_type;
  bit_offset = c.bit_offset;
  byte_offset = c.byte_offset;
  bit_count = c.bit_count;
  flags = c.flags;
  invalidation_bit = c.invalidation_bit;
  data_link = c.data_link;
}

-- and so does the block
abbrev pub OwnType : ChannelBlock → Type 0
OwnType b = owns_code b.data_type ≡ true

pub block_back : (b : ChannelBlock) → OwnType b → block_given (block_c b) ≡ b
block_back b own = λ i. record {
  header = b.header;
  next_channel = b.next_channel;
  component = b.component;
  name = b.name;
  source = b.source;
  conversion = b.conversion;
  data_link = b.data_link;
  unit = b.unit;
  comment = b.comment;
  more_at = b.more_at;
  more = b.more;
  channel_type = b.channel_type;
  sync_type = b.sync_type;
  data_type = type_back_law b.data_type own i;
  bit_offset = b.bit_offset;
  byte_offset = b.byte_offset;
  bit_count = b.bit_count;
  flags = b.flags;
  invalidation_bit = b.invalidation_bit;
  precision = b.precision;
  reserved = b.reserved;
  attachments = b.attachments;
  min_raw = b.min_raw;
  max_raw = b.max_raw;
  lower_limit = b.lower_limit;
  upper_limit = b.upper_limit;
  lower_extended = b.lower_extended;
  upper_extended = b.upper_extended;
}

abbrev pub channel_again : Mf4ChannelReply → Reply ChannelBlock
channel_again s = again s.reply s.told (answer (block_given s.block))

pub channel_told : (r : Reply ChannelBlock) → Tellable OwnType r → channel_again (channel_c r) ≡ r
channel_told = told_by OwnType channel_c channel_again (λ b h. ap answer (block_back b h)) (again_refused _)
