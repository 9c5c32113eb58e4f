-- The fields of each struct in their order, by place and not by name alone. include/mf4.h has the same orders.
use mathlib.Core.Path.{◌≡◌, refl}
use Rattle.block_replies.specs.declared.written.Mf4WrittenReply.{Mf4WrittenReply}
use Rattle.block_replies.specs.declared.header.Mf4Header.{Mf4Header}
use Rattle.block_replies.specs.declared.header.Mf4HeaderReply.{Mf4HeaderReply}
use Rattle.block_replies.specs.declared.list.Mf4ListReply.{Mf4ListReply}
use Rattle.block_replies.specs.declared.channel.Mf4Channel.{Mf4Channel}
use Rattle.block_replies.specs.declared.channel_block.Mf4ChannelBlock.{Mf4ChannelBlock}
use Rattle.block_replies.specs.declared.channel_block.Mf4ChannelReply.{Mf4ChannelReply}
use Rattle.block_replies.specs.contracts.written.Mf4WrittenReply as mf4_written_reply
use Rattle.block_replies.specs.contracts.header.Mf4Header as mf4_header
use Rattle.block_replies.specs.contracts.header.Mf4HeaderReply as mf4_header_reply
use Rattle.block_replies.specs.contracts.list.Mf4ListReply as mf4_list_reply
use Rattle.block_replies.specs.contracts.channel.Mf4Channel as mf4_channel
use Rattle.block_replies.specs.contracts.channel_block.Mf4ChannelBlock as mf4_channel_block
use Rattle.block_replies.specs.contracts.channel_block.Mf4ChannelReply as mf4_channel_reply

pub mf4_written_reply_fields : (s : Mf4WrittenReply) → (mf4_written_reply.struct).as_values s ≡ (s.reply, (s.told, (s.count, tt)))
mf4_written_reply_fields s = refl

pub mf4_header_fields : (s : Mf4Header) → (mf4_header.struct).as_values s ≡ (s.id, (s.reserved0, (s.block_len, (s.link_count, tt))))
mf4_header_fields s = refl

pub mf4_header_reply_fields : (s : Mf4HeaderReply) → (mf4_header_reply.struct).as_values s ≡ (s.reply, (s.told, (s.header, tt)))
mf4_header_reply_fields s = refl

pub mf4_list_reply_fields : (s : Mf4ListReply) → (mf4_list_reply.struct).as_values s ≡ (s.reply, (s.told, (s.header, (s.next_addr, (s.data_links_at, (s.data_link_count, (s.flags, (s.reserved1, (s.data_block_count, (s.rest_at, (s.rest_count, tt)))))))))))
mf4_list_reply_fields s = refl

pub mf4_channel_fields : (s : Mf4Channel) → (mf4_channel.struct).as_values s ≡ (s.data_type, (s.channel_type, (s.bit_offset, (s.byte_offset, (s.bit_count, (s.flags, (s.pos_invalidation_bit, (s.data_addr, tt))))))))
mf4_channel_fields s = refl

pub mf4_channel_block_fields : (s : Mf4ChannelBlock) → (mf4_channel_block.struct).as_values s ≡ (s.header, (s.next_ch_addr, (s.component_addr, (s.name_addr, (s.source_addr, (s.conversion_addr, (s.unit_addr, (s.comment_addr, (s.more_links_at, (s.more_link_count, (s.channel, (s.sync_type, (s.precision, (s.reserved1, (s.attachment_count, (s.min_raw_value, (s.max_raw_value, (s.lower_limit, (s.upper_limit, (s.lower_ext_limit, (s.upper_ext_limit, tt)))))))))))))))))))))
mf4_channel_block_fields s = refl

pub mf4_channel_reply_fields : (s : Mf4ChannelReply) → (mf4_channel_reply.struct).as_values s ≡ (s.reply, (s.told, (s.block, tt)))
mf4_channel_reply_fields s = refl
