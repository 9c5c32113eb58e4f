-- Reading gives what a channel block was written from, whatever bytes come after it: every field, an unknown type too, but one that
-- was made with the code of another.
use mathlib.Core.Path.{◌≡◌, refl, ap, ◌∙◌}
use mathlib.Core.Bool.{true}
use mathlib.Core.List.{List, ◌++◌}
use Prim.Native.Nat.{ℕ, ◌+◌, ◌*◌, ◌^◌, ◌<◌}
use native.Mathlib.Nat.{mod-eq_of_lt}
use native.Mathlib.Omega.{arith}
use lib.ListN.{length, drop, length-append}
use Rattle.definitions.specs.Reply.{answer}
use Rattle.definitions.specs.Bytes.{le_of, le, les, u64_at, id_at}
use Rattle.definitions.specs.Header.{Header, header_in, header_bytes}
use Rattle.definitions.specs.ChannelBlock.{ChannelBlock, id_cn, block_in, channel_block_of, channel_header, channel_bytes}
use Rattle.words.proofs.Numbers.{le_back}
use Rattle.channels.proofs.Channels.{length_channel}
use Rattle.theorems.specs.Exactly.{ChannelStands}
use Rattle.theorems.proofs.Types.TypeCodes.{type_written, type_written_law}
use Rattle.theorems.proofs.Blocks.ChannelAnswers.{standing, channel_answered}

-- the numbers of a block have their widths
pub record BlockFits (b : ChannelBlock) : Type 0 where
  pub next_channel : b.next_channel < 2 ^ 64
  pub component : b.component < 2 ^ 64
  pub name : b.name < 2 ^ 64
  pub source : b.source < 2 ^ 64
  pub conversion : b.conversion < 2 ^ 64
  pub data_link : b.data_link < 2 ^ 64
  pub unit : b.unit < 2 ^ 64
  pub comment : b.comment < 2 ^ 64
  pub byte_offset : b.byte_offset < 2 ^ 32
  pub bit_count : b.bit_count < 2 ^ 32
  pub flags : b.flags < 2 ^ 32
  pub invalidation_bit : b.invalidation_bit < 2 ^ 32
  pub min_raw : b.min_raw < 2 ^ 64
  pub max_raw : b.max_raw < 2 ^ 64
  pub lower_limit : b.lower_limit < 2 ^ 64
  pub upper_limit : b.upper_limit < 2 ^ 64
  pub lower_extended : b.lower_extended < 2 ^ 64
  pub upper_extended : b.upper_extended < 2 ^ 64

-- the block that reading such bytes gives: what the writer fixes, and else what it was given
abbrev pub block_written : ChannelBlock → ChannelBlock
block_written b = record {
  header = channel_header;
  next_channel = b.next_channel;
  component = b.component;
  name = b.name;
  source = b.source;
  conversion = b.conversion;
  data_link = b.data_link;
  unit = b.unit;
  comment = b.comment;
  more_at = 88;
  more = 0;
  channel_type = b.channel_type;
  sync_type = b.sync_type;
  data_type = type_written b.data_type;
  bit_offset = b.bit_offset;
  byte_offset = b.byte_offset;
  bit_count = b.bit_count;
  flags = b.flags;
  invalidation_bit = b.invalidation_bit;
  precision = b.precision;
  reserved = 0;
  attachments = 0;
  min_raw = b.min_raw;
  max_raw = b.max_raw;
  lower_limit = b.lower_limit;
  upper_limit = b.upper_limit;
  lower_extended = b.lower_extended;
  upper_extended = b.upper_extended;
}

number_back_law : (n x : ℕ) → x < 2 ^ (8 * n) → le_of (le n x) ≡ x
number_back_law n x h = le_back n x ∙ mod-eq_of_lt h

module _ (b : ChannelBlock) (after : List ℕ) where
  abbrev s : List ℕ
  s = channel_bytes b ++ after

  header_is : header_in s ≡ channel_header
  unfolding channel_bytes header_bytes les le le_of
  header_is = λ i. record {
    id = number_back_law 4 (le_of id_cn) (omega arith) i;
    reserved = number_back_law 4 0 (omega arith) i;
    block_length = number_back_law 8 160 (omega arith) i;
    link_count = number_back_law 8 8 (omega arith) i;
  }

  named : id_at s 0 id_cn ≡ true
  unfolding channel_bytes header_bytes les le le_of
  named = refl

  stands : ChannelStands s
  stands =
      let links : u64_at s 16 ≡ 8 = ap (λ (h : Header). h.link_count) header_is in
      let long : length s ≡ 160 + length after = length-append (channel_bytes b) after ∙ ap (λ (n : ℕ). n + length after) (length_channel b) in
      record { named = named; enough = omega arith; whole = omega arith }

  fields_read : BlockFits b → block_in s channel_header (drop 88 s) ≡ block_written b
  unfolding channel_bytes header_bytes les le
  fields_read f = λ i. record {
    header = channel_header;
    next_channel = number_back_law 8 b.next_channel f.next_channel i;
    component = number_back_law 8 b.component f.component i;
    name = number_back_law 8 b.name f.name i;
    source = number_back_law 8 b.source f.source i;
    conversion = number_back_law 8 b.conversion f.conversion i;
    data_link = number_back_law 8 b.data_link f.data_link i;
    unit = number_back_law 8 b.unit f.unit i;
    comment = number_back_law 8 b.comment f.comment i;
    more_at = 88;
    more = 0;
    channel_type = b.channel_type;
    sync_type = b.sync_type;
    data_type = type_written_law b.data_type i;
    bit_offset = b.bit_offset;
    byte_offset = number_back_law 4 b.byte_offset f.byte_offset i;
    bit_count = number_back_law 4 b.bit_count f.bit_count i;
    flags = number_back_law 4 b.flags f.flags i;
    invalidation_bit = number_back_law 4 b.invalidation_bit f.invalidation_bit i;
    precision = b.precision;
    reserved = 0;
    attachments = number_back_law 2 0 (omega arith) i;
    min_raw = number_back_law 8 b.min_raw f.min_raw i;
    max_raw = number_back_law 8 b.max_raw f.max_raw i;
    lower_limit = number_back_law 8 b.lower_limit f.lower_limit i;
    upper_limit = number_back_law 8 b.upper_limit f.upper_limit i;
    lower_extended = number_back_law 8 b.lower_extended f.lower_extended i;
    upper_extended = number_back_law 8 b.upper_extended f.upper_extended i;
  }

  pub channel_written_read : BlockFits b → channel_block_of (channel_bytes b ++ after) ≡ answer (block_written b)
  channel_written_read f =
      channel_answered s stands ∙ ap (λ (h : Header). answer (standing s h)) header_is ∙ ap answer (fields_read f)
