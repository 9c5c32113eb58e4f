-- What the block and the answer mean in the definitions.
use Rattle.std.specs.Prelude.{Result}
use Rattle.definitions.specs.Reply.{Reply}
use Rattle.definitions.specs.ChannelBlock as blocks
use Rattle.refusals.specs.Meaning.{replied}
use Rattle.refusals.specs.declared.Refusal.{Refusal}
use Rattle.data_types.specs.Meaning.{type_meant}
use Rattle.blocks.specs.Meaning.{header_meant}
use Rattle.channels.specs.declared.channel_block.ChannelBlock.{ChannelBlock}

abbrev pub channel_block_meant : ChannelBlock → blocks.ChannelBlock
channel_block_meant b = record {
  header = header_meant b.header;
  next_channel = b.next_ch_addr;
  component = b.component_addr;
  name = b.name_addr;
  source = b.source_addr;
  conversion = b.conversion_addr;
  data_link = b.data;
  unit = b.unit_addr;
  comment = b.comment_addr;
  more_at = b.more_links_at;
  more = b.more_links;
  channel_type = b.channel_type;
  sync_type = b.sync_type;
  data_type = type_meant b.data_type;
  bit_offset = b.bit_offset;
  byte_offset = b.byte_offset;
  bit_count = b.bit_count;
  flags = b.flags;
  invalidation_bit = b.pos_invalidation_bit;
  precision = b.precision;
  reserved = b.reserved1;
  attachments = b.attachment_nr;
  min_raw = b.min_raw_value;
  max_raw = b.max_raw_value;
  lower_limit = b.lower_limit;
  upper_limit = b.upper_limit;
  lower_extended = b.lower_ext_limit;
  upper_extended = b.upper_ext_limit;
}

abbrev pub channel_block_reply : Result ChannelBlock Refusal → Reply blocks.ChannelBlock
channel_block_reply = replied channel_block_meant
