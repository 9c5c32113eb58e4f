-- A channel block: behind the header eight links, of which the sixth leads to the channel's data, and whatever links follow;
-- then the fields, 72 bytes.
use Rattle.std.specs.Prelude.{ℕ, ◌+◌, ◌-◌, ◌*◌, List, [], ◌∷◌, ◌++◌, not, get_or, drop, ltb, if◌then◌else◌}
use Rattle.definitions.specs.Reply.{Reply, Outcome, answer, refusal, and_then, needing, writing}
use Rattle.definitions.specs.Bytes.{le_of, le, les, u16_at, u32_at, u64_at, id_at}
use Rattle.definitions.specs.Header.{Header, header_of, header_bytes}
use Rattle.definitions.specs.DataType.{DataType, type_of, code_of}
use Rattle.definitions.specs.Channel.{Channel}

-- `##CN`
abbrev pub id_cn : List ℕ
id_cn = 35 ∷ 35 ∷ 67 ∷ 78 ∷ []

pub record ChannelBlock : Type 0 where
  pub header : Header
  -- the eight links, in their order
  pub next_channel : ℕ
  pub component : ℕ
  pub name : ℕ
  pub source : ℕ
  pub conversion : ℕ
  pub data_link : ℕ
  pub unit : ℕ
  pub comment : ℕ
  -- the links behind the eighth: where in the slice given, and how many
  pub more_at : ℕ
  pub more : ℕ
  -- the fields, in their order
  pub channel_type : ℕ
  pub sync_type : ℕ
  pub data_type : DataType
  pub bit_offset : ℕ
  pub byte_offset : ℕ
  pub bit_count : ℕ
  pub flags : ℕ
  pub invalidation_bit : ℕ
  pub precision : ℕ
  pub reserved : ℕ
  pub attachments : ℕ
  -- floats, kept as their 64-bit patterns
  pub min_raw : ℕ
  pub max_raw : ℕ
  pub lower_limit : ℕ
  pub upper_limit : ℕ
  pub lower_extended : ℕ
  pub upper_extended : ℕ

-- ---- read

-- where the fields stand, after the header and n links
abbrev pub fields_at : ℕ → ℕ
fields_at n = 24 + n * 8

-- the block in s, by its header; f begins with the fields
abbrev pub block_in : List ℕ → Header → List ℕ → ChannelBlock
block_in s h f = record {
  header = h;
  next_channel = u64_at s 24;
  component = u64_at s 32;
  name = u64_at s 40;
  source = u64_at s 48;
  conversion = u64_at s 56;
  data_link = u64_at s 64;
  unit = u64_at s 72;
  comment = u64_at s 80;
  more_at = 88;
  more = h.link_count - 8;
  channel_type = get_or f 0 0;
  sync_type = get_or f 1 0;
  data_type = type_of (get_or f 2 0);
  bit_offset = get_or f 3 0;
  byte_offset = u32_at f 4;
  bit_count = u32_at f 8;
  flags = u32_at f 12;
  invalidation_bit = u32_at f 16;
  precision = get_or f 20 0;
  reserved = get_or f 21 0;
  attachments = u16_at f 22;
  min_raw = u64_at f 24;
  max_raw = u64_at f 32;
  lower_limit = u64_at f 40;
  upper_limit = u64_at f 48;
  lower_extended = u64_at f 56;
  upper_extended = u64_at f 64;
}

-- after the header: 3 for another id, 17 for fewer than 8 links, 2 for the whole. Neither the block length nor the attachment
-- count is compared with anything
unfoldable pub fields_of : List ℕ → Header → Reply ChannelBlock
fields_of s h =
    if not (id_at s 0 id_cn) then refusal 3 0
    else if ltb h.link_count 8 then refusal 17 0
    else needing s (fields_at h.link_count + 72) (answer (block_in s h (drop (fields_at h.link_count) s)))

unfoldable pub channel_block_of : List ℕ → Reply ChannelBlock
channel_block_of s = and_then (header_of s) (fields_of s)

-- ---- the description

-- what the block tells of its channel
abbrev pub described : ChannelBlock → Channel
described b = record {
  data_type = b.data_type;
  channel_type = b.channel_type;
  bit_offset = b.bit_offset;
  byte_offset = b.byte_offset;
  bit_count = b.bit_count;
  flags = b.flags;
  invalidation_bit = b.invalidation_bit;
  data_link = b.data_link;
}

-- ---- written

-- a block that is written has eight links, and so 160 bytes
abbrev pub channel_header : Header
channel_header = record { id = le_of id_cn; reserved = 0; block_length = 160; link_count = 8 }

abbrev pub eight_links : ChannelBlock → List ℕ
eight_links b =
    b.next_channel ∷ b.component ∷ b.name ∷ b.source ∷ b.conversion ∷ b.data_link ∷ b.unit ∷ b.comment ∷ []

abbrev pub six_limits : ChannelBlock → List ℕ
six_limits b = b.min_raw ∷ b.max_raw ∷ b.lower_limit ∷ b.upper_limit ∷ b.lower_extended ∷ b.upper_extended ∷ []

-- the fields before the limits; the reserved byte and the attachment count are 0
abbrev pub format_bytes : ChannelBlock → List ℕ
format_bytes b =
    (b.channel_type ∷ b.sync_type ∷ code_of b.data_type ∷ b.bit_offset ∷ [])
    ++ le 4 b.byte_offset ++ le 4 b.bit_count ++ le 4 b.flags ++ le 4 b.invalidation_bit
    ++ (b.precision ∷ 0 ∷ 0 ∷ 0 ∷ [])

unfoldable pub channel_bytes : ChannelBlock → List ℕ
channel_bytes b = header_bytes channel_header ++ les (eight_links b) ++ format_bytes b ++ les (six_limits b)

-- only 6
unfoldable pub channel_written : List ℕ → ChannelBlock → Outcome ℕ
channel_written out b = writing out (channel_bytes b) 160
