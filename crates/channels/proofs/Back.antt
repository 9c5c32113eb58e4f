-- The meaning is one-to-one: from what it means the answer comes back.
use mathlib.Core.Path.{◌≡◌, ap}
use Rattle.std.specs.Prelude.{Result}
use Rattle.definitions.specs.ChannelBlock as blocks
use Rattle.refusals.specs.declared.Refusal.{Refusal}
use Rattle.refusals.proofs.Back.{replied_one}
use Rattle.data_types.proofs.Back.{type_back, type_back_law}
use Rattle.blocks.proofs.Back.{header_back}
use Rattle.data_types.specs.declared.data_type.DataType.{DataType}
use Rattle.channels.specs.Meaning.{channel_block_meant, channel_block_reply}
use Rattle.channels.specs.declared.channel_block.ChannelBlock.{ChannelBlock}

-- the block with its type already given back
abbrev channel_back : DataType → blocks.ChannelBlock → ChannelBlock
channel_back t b = record {
  header = header_back b.header;
  next_ch_addr = b.next_channel;
  component_addr = b.component;
  name_addr = b.name;
  source_addr = b.source;
  conversion_addr = b.conversion;
  «data» = b.data_link;
  unit_addr = b.unit;
  comment_addr = b.comment;
  more_links_at = b.more_at;
  more_links = b.more;
  channel_type = b.channel_type;
  sync_type = b.sync_type;
  data_type = t;
  bit_offset = b.bit_offset;
  byte_offset = b.byte_offset;
  bit_count = b.bit_count;
  flags = b.flags;
  pos_invalidation_bit = b.invalidation_bit;
  precision = b.precision;
  reserved1 = b.reserved;
  attachment_nr = b.attachments;
  min_raw_value = b.min_raw;
  max_raw_value = b.max_raw;
  lower_limit = b.lower_limit;
  upper_limit = b.upper_limit;
  lower_ext_limit = b.lower_extended;
  upper_ext_limit = b.upper_extended;
}

pub channel_one : (a b : Result ChannelBlock Refusal) → channel_block_reply a ≡ channel_block_reply b → a ≡ b
channel_one =
    replied_one channel_block_meant (λ b. channel_back (type_back b.data_type) b)
    (λ b. ap (λ (t : DataType). channel_back t (channel_block_meant b)) (type_back_law b.data_type))
