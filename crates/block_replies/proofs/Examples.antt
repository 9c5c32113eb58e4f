-- Worked examples of what C is told and of what it gives: each struct with another number in each field, by place, so that no
-- two of them can change places in both directions at once; and each refusal.
use mathlib.Core.Path.{◌≡◌, refl}
use mathlib.Core.List.{List, [], ◌∷◌, map}
use Rattle.definitions.specs.Reply.{answer, refusal}
use Rattle.definitions.specs.Bytes.{big}
use Rattle.definitions.specs.Header.{Header}
use Rattle.definitions.specs.DataList.{DataList}
use Rattle.definitions.specs.DataType.{unsigned_integer, can_open_time}
use Rattle.definitions.specs.Channel.{Channel}
use Rattle.definitions.specs.ChannelBlock.{ChannelBlock}
use Rattle.block_replies.specs.contracts.header.Mf4Header as mf4_header
use Rattle.block_replies.specs.contracts.channel.Mf4Channel as mf4_channel
use Rattle.block_replies.proofs.InOrder.{Told, Answer, shown, zeros, Taken, Fields, Meaning, meant, written_reply, header_reply, list_reply, channel_reply, header, description, block, Row, given, stated, count_from, tells, takes}

-- ---- structs whose fields are numbered from 1 on, as C has them

abbrev pub a_header : Header
a_header = record { id = 1; reserved = 2; block_length = 3; link_count = 4 }

abbrev pub a_list : DataList
a_list = record { header = a_header; next = 5; links_at = 6; links = 7; flags = 8; reserved = 9; count = 10; rest_at = 11; rest = 12 }

abbrev pub a_description : Channel
a_description = record {
  data_type = unsigned_integer big;
  channel_type = 2;
  bit_offset = 3;
  byte_offset = 4;
  bit_count = 5;
  flags = 6;
  invalidation_bit = 7;
  data_link = 8;
}

abbrev pub a_block : ChannelBlock
a_block = record {
  header = a_header;
  next_channel = 5;
  component = 6;
  name = 7;
  source = 8;
  conversion = 9;
  unit = 10;
  comment = 11;
  more_at = 12;
  more = 13;
  -- the code 14
  data_type = can_open_time;
  channel_type = 15;
  bit_offset = 16;
  byte_offset = 17;
  bit_count = 18;
  flags = 19;
  invalidation_bit = 20;
  data_link = 21;
  sync_type = 22;
  precision = 23;
  reserved = 24;
  attachments = 25;
  min_raw = 26;
  max_raw = 27;
  lower_limit = 28;
  upper_limit = 29;
  lower_extended = 30;
  upper_extended = 31;
}

-- its fields, of which two are structs
abbrev pub block_fields : Fields block
block_fields =
    let its-header = (mf4_header.struct).make (1, (2, (3, (4, tt)))) tt in
    let its-description = (mf4_channel.struct).make (14, (15, (16, (17, (18, (19, (20, (21, tt)))))))) tt in (
      its-header,
      (
        5,
        (
          6,
          (
            7,
            (
              8,
              (
                9,
                (
                  10,
                  (
                    11,
                    (
                      12,
                      (
                        13,
                        (
                          its-description,
                          (22, (23, (24, (25, (26, (27, (28, (29, (30, (31, tt)))))))))),
                        ),
                      ),
                    ),
                  ),
                ),
              ),
            ),
          ),
        ),
      ),
    )

abbrev pub table : List (Row Told Answer Taken Fields Meaning)
table =
    tells written_reply (answer 9) (0 ∷ 0 ∷ 9 ∷ [])
    ∷ tells header_reply (answer a_header) (0 ∷ 0 ∷ count_from 1 4)
    ∷ tells list_reply (answer a_list) (0 ∷ 0 ∷ count_from 1 12)
    ∷ tells channel_reply (answer a_block) (0 ∷ 0 ∷ count_from 1 31)
    -- refusals
    ∷ tells written_reply (refusal 6 64) (6 ∷ 64 ∷ 0 ∷ [])
    ∷ tells header_reply (refusal 2 24) (2 ∷ 24 ∷ 0 ∷ 0 ∷ 0 ∷ 0 ∷ [])
    ∷ tells list_reply (refusal 2 48) (2 ∷ 48 ∷ 0 ∷ 0 ∷ 0 ∷ 0 ∷ 0 ∷ 0 ∷ 0 ∷ 0 ∷ 0 ∷ 0 ∷ 0 ∷ 0 ∷ [])
    ∷ tells channel_reply (refusal 2 160) (2 ∷ 160 ∷ zeros 31)
    -- what C gives
    ∷ takes header (1, (2, (3, (4, tt)))) a_header
    ∷ takes description (1, (2, (3, (4, (5, (6, (7, (8, tt)))))))) a_description
    ∷ takes block block_fields a_block
    ∷ []

pub claim : map (given Told Answer Taken Fields Meaning shown meant) table ≡ map (stated Told Answer Taken Fields Meaning) table
unfolding count_from
claim = refl
