-- Channel blocks as C sees them.
use Rattle.definitions.specs.Reply.{Reply, answer, refusal}
use Rattle.definitions.specs.DataType.{code_of, type_of}
use Rattle.definitions.specs.Channel.{Channel}
use Rattle.definitions.specs.ChannelBlock.{ChannelBlock, described}
use Rattle.block_replies.specs.Replies.{header_fields, no_header, header_given}
use Rattle.block_replies.specs.declared.channel.Mf4Channel.{Mf4Channel}
use Rattle.block_replies.specs.declared.channel_block.Mf4ChannelBlock.{Mf4ChannelBlock}
use Rattle.block_replies.specs.declared.channel_block.Mf4ChannelReply.{Mf4ChannelReply}

-- the description that C gives, the type by its code
abbrev pub channel_given : Mf4Channel → Channel
channel_given c = record {
  data_type = type_of c.data_type;
  channel_type = c.channel_type;
  bit_offset = c.bit_offset;
  byte_offset = c.byte_offset;
  bit_count = c.bit_count;
  flags = c.flags;
  invalidation_bit = c.pos_invalidation_bit;
  data_link = c.data_addr;
}

-- a description, as the calls that decode take it, with its type by the code
abbrev pub description_c : Channel → Mf4Channel
description_c c = record {
  data_type = code_of c.data_type;
  channel_type = c.channel_type;
  bit_offset = c.bit_offset;
  byte_offset = c.byte_offset;
  bit_count = c.bit_count;
  flags = c.flags;
  pos_invalidation_bit = c.invalidation_bit;
  data_addr = c.data_link;
}

abbrev pub no_description : Mf4Channel
no_description = record {
  data_type = 0;
  channel_type = 0;
  bit_offset = 0;
  byte_offset = 0;
  bit_count = 0;
  flags = 0;
  pos_invalidation_bit = 0;
  data_addr = 0;
}

abbrev pub block_c : ChannelBlock → Mf4ChannelBlock
block_c b = record {
  header = header_fields b.header;
  next_ch_addr = b.next_channel;
  component_addr = b.component;
  name_addr = b.name;
  source_addr = b.source;
  conversion_addr = b.conversion;
  unit_addr = b.unit;
  comment_addr = b.comment;
  more_links_at = b.more_at;
  more_link_count = b.more;
  channel = description_c (described b);
  sync_type = b.sync_type;
  precision = b.precision;
  reserved1 = b.reserved;
  attachment_count = b.attachments;
  min_raw_value = b.min_raw;
  max_raw_value = b.max_raw;
  lower_limit = b.lower_limit;
  upper_limit = b.upper_limit;
  lower_ext_limit = b.lower_extended;
  upper_ext_limit = b.upper_extended;
}

abbrev pub no_block : Mf4ChannelBlock
no_block = record {
  header = no_header;
  next_ch_addr = 0;
  component_addr = 0;
  name_addr = 0;
  source_addr = 0;
  conversion_addr = 0;
  unit_addr = 0;
  comment_addr = 0;
  more_links_at = 0;
  more_link_count = 0;
  channel = no_description;
  sync_type = 0;
  precision = 0;
  reserved1 = 0;
  attachment_count = 0;
  min_raw_value = 0;
  max_raw_value = 0;
  lower_limit = 0;
  upper_limit = 0;
  lower_ext_limit = 0;
  upper_ext_limit = 0;
}

-- the block that C gives, with its description as the other calls take it
abbrev pub block_given : Mf4ChannelBlock → ChannelBlock
block_given b = record {
  header = header_given b.header;
  next_channel = b.next_ch_addr;
  component = b.component_addr;
  name = b.name_addr;
  source = b.source_addr;
  conversion = b.conversion_addr;
  data_link = (channel_given b.channel).data_link;
  unit = b.unit_addr;
  comment = b.comment_addr;
  more_at = b.more_links_at;
  more = b.more_link_count;
  channel_type = (channel_given b.channel).channel_type;
  sync_type = b.sync_type;
  data_type = (channel_given b.channel).data_type;
  bit_offset = (channel_given b.channel).bit_offset;
  byte_offset = (channel_given b.channel).byte_offset;
  bit_count = (channel_given b.channel).bit_count;
  flags = (channel_given b.channel).flags;
  invalidation_bit = (channel_given b.channel).invalidation_bit;
  precision = b.precision;
  reserved = b.reserved1;
  attachments = b.attachment_count;
  min_raw = b.min_raw_value;
  max_raw = b.max_raw_value;
  lower_limit = b.lower_limit;
  upper_limit = b.upper_limit;
  lower_extended = b.lower_ext_limit;
  upper_extended = b.upper_ext_limit;
}

abbrev pub channel_c : Reply ChannelBlock → Mf4ChannelReply
channel_c (answer b) = record { reply = 0; told = 0; block = block_c b }
channel_c (refusal n t) = record { reply = n; told = t; block = no_block }
