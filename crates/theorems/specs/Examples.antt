-- The worked examples: one table of calls with what each replies, and the one claim that the definitions give just that.
use Rattle.std.specs.Prelude.{ℕ, zero, suc, ◌+◌, ◌*◌, ◌≡◌, List, [], ◌∷◌, ◌++◌, map, Bool, true, false, pos, negsuc, length, take}
use Rattle.std.specs.Float.{binary64, fin}
use Rattle.std.specs.Float.Ieee.{of_bits, to_unsigned}
use Rattle.definitions.specs.Reply.{Reply, Outcome, answer, refusal}
use Rattle.definitions.specs.Bytes.{little, big, le, les}
use Rattle.definitions.specs.Unicode.{Encoding, latin1, utf8, utf16, Text, text_of}
use Rattle.definitions.specs.DataType.{DataType, unsigned_integer, signed_integer, float, complex, string, byte_array, mime_sample, mime_stream, can_open_date, can_open_time, unknown, type_of, code_of, default_bits}
use Rattle.definitions.specs.Channel.{Channel, Group, Value, ValidValue, unsigned, signed, double, text, bytes, unknown_value, value_of, record_double, valid_of, bounded_valid_of, bounded_value_of}
use Rattle.definitions.specs.WrittenValue.{Given, given_unsigned, given_signed, given_double, given_other, value_written}
use Rattle.definitions.specs.DataList.{DataList, id_dl, list_of, list_bytes}
use Rattle.definitions.specs.ChannelBlock.{ChannelBlock, id_cn, channel_block_of, described}
use Rattle.definitions.specs.Chain.{id_dt, fetched}
use Rattle.definitions.specs.Payload.{id_sd, PayloadValue, Outcomes, payload_fetched}

-- a fixed channel: byte offset, flags, invalidation bit position, data type, bit offset, bit count
abbrev pub fixed : ℕ → ℕ → ℕ → DataType → ℕ → ℕ → Channel
fixed at flags position t offset count = record {
  data_type = t;
  channel_type = 0;
  bit_offset = offset;
  byte_offset = at;
  bit_count = count;
  flags = flags;
  invalidation_bit = position;
  data_link = 0;
}

-- one at the record's first byte, and one with flags and an invalidation bit
abbrev pub channel : DataType → ℕ → ℕ → Channel
channel = fixed 0 0 0

abbrev pub flagged : ℕ → ℕ → Channel
flagged flags position = fixed 0 flags position (unsigned_integer little) 0 8

-- one whose payload is given
abbrev pub payload : DataType → ℕ → ℕ → Channel
payload t offset count = record {
  data_type = t;
  channel_type = 1;
  bit_offset = offset;
  byte_offset = 0;
  bit_count = count;
  flags = 0;
  invalidation_bit = 0;
  data_link = 8;
}

-- a list of 40 bytes with the given links and flags, and count 0
abbrev pub short_list : ℕ → ℕ → List ℕ
short_list links flags = id_dl ++ le 4 0 ++ le 8 40 ++ le 8 links ++ le 8 0 ++ (flags ∷ 0 ∷ 0 ∷ 0 ∷ []) ++ le 4 0

-- a channel block with the given reserved byte, attachment count, block length and link count: the links 1 to 8, and maybe
-- others; then a signed integer of 12 bits from bit 4 of byte 5 on, invalid by bit 3, and the limits 11 to 16
abbrev pub channel_block_with : ℕ → ℕ → ℕ → ℕ → List ℕ → List ℕ
channel_block_with reserved attachments size links others =
    id_cn ++ le 4 0 ++ le 8 size ++ le 8 links ++ les (1 ∷ 2 ∷ 3 ∷ 4 ∷ 5 ∷ 6 ∷ 7 ∷ 8 ∷ []) ++ les others
    ++ (0 ∷ 9 ∷ 2 ∷ 4 ∷ []) ++ le 4 5 ++ le 4 12 ++ le 4 2 ++ le 4 3 ++ (10 ∷ reserved ∷ []) ++ le 2 attachments
    ++ les (11 ∷ 12 ∷ 13 ∷ 14 ∷ 15 ∷ 16 ∷ [])

abbrev pub channel_read_with : ℕ → ℕ → ℕ → ℕ → ChannelBlock
channel_read_with reserved attachments size more = record {
  header = record { id = 1313022755; reserved = 0; block_length = size; link_count = 8 + more };
  next_channel = 1;
  component = 2;
  name = 3;
  source = 4;
  conversion = 5;
  data_link = 6;
  unit = 7;
  comment = 8;
  more_at = 88;
  more = more;
  channel_type = 0;
  sync_type = 9;
  data_type = signed_integer little;
  bit_offset = 4;
  byte_offset = 5;
  bit_count = 12;
  flags = 2;
  invalidation_bit = 3;
  precision = 10;
  reserved = reserved;
  attachments = attachments;
  min_raw = 11;
  max_raw = 12;
  lower_limit = 13;
  upper_limit = 14;
  lower_extended = 15;
  upper_extended = 16;
}

-- one with a reserved byte 17 and 4,660 attachments, and one that has neither
abbrev pub channel_block : ℕ → ℕ → List ℕ → List ℕ
channel_block = channel_block_with 17 4660

abbrev pub channel_read : ℕ → ℕ → ChannelBlock
channel_read = channel_read_with 17 4660

abbrev pub plain_channel_block : List ℕ
plain_channel_block = channel_block_with 0 0 160 8 []

-- a block of data with an id, of records and of payloads
abbrev pub block_with : List ℕ → List ℕ → List ℕ
block_with id content = id ++ le 4 0 ++ le 8 (24 + length content) ++ le 8 0 ++ content

abbrev pub data_block : List ℕ → List ℕ
data_block = block_with id_dt

abbrev pub signal_block : List ℕ → List ℕ
signal_block = block_with id_sd

-- 01 to 06 in three blocks of 3, 0 and 3 bytes, with their offsets; and in one block, with its length. The list is at 8
abbrev pub three_blocks : List ℕ
three_blocks =
    le 8 0 ++ list_bytes 0 (96 ∷ 123 ∷ 147 ∷ []) 0 (0 ∷ 3 ∷ 3 ∷ [])
    ++ data_block (1 ∷ 2 ∷ 3 ∷ []) ++ data_block [] ++ data_block (4 ∷ 5 ∷ 6 ∷ [])

abbrev pub one_block : List ℕ
one_block = le 8 0 ++ list_bytes 0 (64 ∷ []) 1 (6 ∷ []) ++ data_block (1 ∷ 2 ∷ 3 ∷ 4 ∷ 5 ∷ 6 ∷ [])

unfoldable pub copies : ℕ → ℕ → List ℕ
copies zero x = []
copies (suc n) x = x ∷ copies n x

-- two blocks, with one length
abbrev pub two_blocks : ℕ → List ℕ → List ℕ → List ℕ
two_blocks size a b = le 8 0 ++ list_bytes 0 (72 ∷ (96 + length a) ∷ []) 1 (size ∷ []) ++ data_block a ++ data_block b

-- a chain of two lists, at 8 and 64. Each has its flags, and one number that it declares; the first links the block of `a` once,
-- and the last that of `b` n times
abbrev pub two_lists : ℕ → ℕ → List ℕ → ℕ → ℕ → ℕ → List ℕ → List ℕ
two_lists flags number a n lastFlags lastNumber b =
    le 8 0 ++ list_bytes 64 ((112 + n * 8) ∷ []) flags (number ∷ [])
    ++ list_bytes 0 (copies n (136 + n * 8 + length a)) lastFlags (lastNumber ∷ []) ++ data_block a ++ data_block b

-- one record of 9 bytes, from the list at 8 on: a position, and a byte with the invalidation bit
abbrev pub one_record : ℕ → ℕ → List ℕ
one_record position invalid = le 8 0 ++ list_bytes 0 (64 ∷ []) 0 (0 ∷ []) ++ data_block (le 8 position ++ (invalid ∷ []))

-- From the list at 97 on, with offsets, two blocks of its payloads at 169 and 196: the length 2, cut behind its third byte, the
-- text PX, and a 00
abbrev pub remarks : ℕ → ℕ → List ℕ
remarks position invalid =
    one_record position invalid
    ++ list_bytes 0 (169 ∷ 196 ∷ []) 0 (0 ∷ 3 ∷ []) ++ signal_block (2 ∷ 0 ∷ 0 ∷ []) ++ signal_block (0 ∷ 0x50 ∷ 0x58 ∷ 0 ∷ [])

-- the same payloads in one block, with its length, from the list at 105 on
abbrev pub remarks_uncut : ℕ → ℕ → List ℕ
remarks_uncut position invalid =
    one_record position invalid ++ le 8 0 ++ list_bytes 0 (161 ∷ []) 1 (7 ∷ []) ++ signal_block (2 ∷ 0 ∷ 0 ∷ 0 ∷ 0x50 ∷ 0x58 ∷ 0 ∷ [])

-- a channel with its position at the given byte, and a link to its payloads
abbrev pub remark : DataType → ℕ → ℕ → Channel
remark t at link = record {
  data_type = t;
  channel_type = 1;
  bit_offset = 0;
  byte_offset = at;
  bit_count = 64;
  flags = 2;
  invalidation_bit = 0;
  data_link = link;
}

-- its record in a buffer that holds one byte more, and the buffer as it was
abbrev pub remark_left : ℕ → ℕ → List ℕ
remark_left position invalid = le 8 position ++ (invalid ∷ 255 ∷ [])

abbrev pub untouched : List ℕ
untouched = 255 ∷ 255 ∷ 255 ∷ 255 ∷ 255 ∷ 255 ∷ 255 ∷ 255 ∷ 255 ∷ 255 ∷ []

-- the record that a number leaves, and the one that a refusal does
abbrev pub leaves : List ℕ → Outcome (Unit {0})
leaves s = record { reply = answer tt; buffer = s }

abbrev pub refuses : ℕ → ℕ → List ℕ → Outcome (Unit {0})
refuses n t s = record { reply = refusal n t; buffer = s }

-- four bytes 0, where a float goes
abbrev pub four : List ℕ
four = 0 ∷ 0 ∷ 0 ∷ 0 ∷ []

-- <Invalid UTF
abbrev pub invalid_utf : List ℕ
invalid_utf = 0x3C ∷ 0x49 ∷ 0x6E ∷ 0x76 ∷ 0x61 ∷ 0x6C ∷ 0x69 ∷ 0x64 ∷ 0x20 ∷ 0x55 ∷ 0x54 ∷ 0x46 ∷ []

-- a call, and what it replies
pub data Row : Type 0 where
  value : List ℕ → Channel → Reply Value → Row
  -- the same behind a record id of the given size
  behind_id : ℕ → List ℕ → Channel → Reply Value → Row
  -- the double of an unsigned 64-bit counter, as the whole number that it is
  counter : ℕ → ℕ → Row
  -- validity with id size 0 and 2 data bytes, whatever number of invalidation bytes
  validity : List ℕ → Channel → Bool → Row
  -- with as many invalidation bytes as given: validity alone, and with the value
  bounded : ℕ → List ℕ → Channel → Reply Bool → Row
  bounded_value : ℕ → List ℕ → Channel → Reply ValidValue → Row
  list : List ℕ → Reply DataList → Row
  block : List ℕ → Reply ChannelBlock → Row
  description : ChannelBlock → Channel → Row
  -- the type that a code stands for, which has that code, and its default bits
  type : ℕ → DataType → ℕ → Row
  -- a type's code
  code : DataType → ℕ → Row
  -- a text as UTF-8, and whether it was damaged
  rendered : Encoding → List ℕ → List ℕ → Bool → Row
  -- record k of size 2 from the chain at 8, into a buffer of 2 bytes FF
  fetch : List ℕ → ℕ → Outcome (Unit {0}) → Row
  -- a number written into a record, and the record then
  write : List ℕ → Channel → Given → Outcome (Unit {0}) → Row
  -- the payload of record 0 of size 9 from the chain at 8, with id size 0 and 8 data bytes, into buffers of 10 bytes FF and of
  -- the given number
  follow : List ℕ → Channel → ℕ → Reply PayloadValue → List ℕ → List ℕ → Row

-- a reply, of whichever call
pub data Said : Type 0 where
  a_value : Reply Value → Said
  a_number : ℕ → Said
  a_test : Bool → Said
  a_validity : Reply Bool → Said
  a_valid_value : Reply ValidValue → Said
  a_list : Reply DataList → Said
  a_block : Reply ChannelBlock → Said
  a_channel : Channel → Said
  a_type : DataType → ℕ → ℕ → Said
  a_text : Text → Said
  a_record : Outcome (Unit {0}) → Said
  a_payload : Outcomes PayloadValue → Said

-- a group without a record id, of two data bytes and so many invalidation bytes
abbrev two_bytes_and : ℕ → Group
two_bytes_and n = record { id_size = 0; data_bytes = 2; invalidation_bytes = n }

-- what the definitions give for a row's call, and what the row says
abbrev pub given : Row → Said
given (value s c r) = a_value (value_of s 0 c)
given (behind_id id_size s c r) = a_value (value_of s id_size c)
given (counter n r) = a_number (to_unsigned 64 (of_bits binary64 (record_double (le 8 n) 0 (channel (unsigned_integer little) 0 64))))
given (validity s c r) = a_test (valid_of s (two_bytes_and 0) c)
given (bounded n s c r) = a_validity (bounded_valid_of s (two_bytes_and n) c)
given (bounded_value n s c r) = a_valid_value (bounded_value_of s (two_bytes_and n) c)
given (list s r) = a_list (list_of s)
given (block s r) = a_block (channel_block_of s)
given (description b r) = a_channel (described b)
given (type n t r) = a_type (type_of n) (code_of t) (default_bits t)
given (code t r) = a_number (code_of t)
given (rendered e s out damaged) = a_text (text_of e s)
given (fetch f k r) = a_record (fetched f 8 k 2 (255 ∷ 255 ∷ []))
given (write s c v o) = a_record (value_written s 0 c v)
given (follow f c n r a b) = a_payload (payload_fetched f 8 0 9 (record { id_size = 0; data_bytes = 8; invalidation_bytes = 1 }) c untouched (copies n 255))

abbrev pub stated : Row → Said
stated (value s c r) = a_value r
stated (behind_id id_size s c r) = a_value r
stated (counter n r) = a_number r
stated (validity s c r) = a_test r
stated (bounded n s c r) = a_validity r
stated (bounded_value n s c r) = a_valid_value r
stated (list s r) = a_list r
stated (block s r) = a_block r
stated (description b r) = a_channel r
stated (type n t r) = a_type t n r
stated (code t r) = a_number r
stated (rendered e s out damaged) = a_text (record { bytes = out; damaged = damaged })
stated (fetch f k r) = a_record r
stated (write s c v o) = a_record o
stated (follow f c n r a b) = a_payload (record { reply = r; record_buffer = a; payload_buffer = b })

abbrev pub table : List Row
table =
    value (0x34 ∷ 0x12 ∷ []) (channel (unsigned_integer little) 0 16) (answer (unsigned 4660))
    ∷ value (0x34 ∷ 0x12 ∷ []) (channel (unsigned_integer big) 0 16) (answer (unsigned 13330))
    ∷ value (0x34 ∷ 0x12 ∷ []) (channel (unsigned_integer little) 4 8) (answer (unsigned 35))
    ∷ value (0x34 ∷ 0x12 ∷ []) (channel (unsigned_integer big) 4 8) (answer (unsigned 65))
    ∷ value (0xF0 ∷ []) (channel (signed_integer little) 4 4) (answer (signed (negsuc 0)))
    ∷ value (0x80 ∷ []) (channel (signed_integer little) 4 4) (answer (signed (negsuc 7)))
    ∷ value (0x70 ∷ []) (channel (signed_integer little) 4 4) (answer (signed (pos 7)))
    ∷ value (0x01 ∷ []) (channel (signed_integer little) 0 1) (answer (signed (negsuc 0)))
    ∷ value (le 8 0 ++ (0x0F ∷ [])) (channel (signed_integer little) 4 64) (answer (signed (negsuc 1152921504606846975)))
    ∷ value (le 8 0) (channel (signed_integer little) 4 64) (refusal 21 9)
    ∷ value (0x00 ∷ 0x00 ∷ 0x80 ∷ 0x3F ∷ []) (channel (float little) 0 32) (answer (double (fin false 1 (pos 0)) 0x3FF0000000000000))
    ∷ value (0x01 ∷ 0x00 ∷ 0x00 ∷ 0x00 ∷ []) (channel (float little) 0 32) (answer (double (fin false 1 (negsuc 148)) 0x36A0000000000000))
    ∷ value (0x00 ∷ 0x00 ∷ 0x80 ∷ 0x3F ∷ []) (channel (float little) 0 16) (refusal 22 0)
    ∷ counter 9007199254740993 9007199254740992
    ∷ counter 9007199254740995 9007199254740996
    ∷ value (0x50 ∷ 0x58 ∷ 0x31 ∷ 0x00 ∷ 0x39 ∷ []) (channel (string latin1) 0 40) (answer (text 0 3))
    ∷ value (0x50 ∷ 0x58 ∷ []) (fixed 2 0 0 (string latin1) 0 7) (answer (text 2 0))
    ∷ value (0x50 ∷ 0x58 ∷ []) (fixed 3 0 0 (string latin1) 0 7) (refusal 21 3)
    -- the bytes needed: those of a float of any width, behind an id, of a payload, of what is no number, and countless ones
    ∷ value [] (channel (float little) 0 65) (refusal 21 9)
    ∷ behind_id 2 (0x34 ∷ 0x12 ∷ []) (fixed 3 0 0 (unsigned_integer little) 0 16) (refusal 21 7)
    ∷ value (0x34 ∷ 0x12 ∷ []) (payload (unsigned_integer little) 0 24) (refusal 21 3)
    ∷ value (0x34 ∷ 0x12 ∷ []) (channel can_open_date 9 0) (answer unknown_value)
    ∷ value (0x34 ∷ []) (channel can_open_date 9 0) (refusal 21 2)
    ∷ value (0x34 ∷ 0x12 ∷ []) (channel (unknown 17) 9 0) (answer unknown_value)
    ∷ behind_id 18446744073709551615 [] (fixed 4294967295 0 0 byte_array 0 8) (refusal 21 18446744073709551615)
    -- the order: where two hold, the lower number; what is no number has none but 21
    ∷ value [] (channel (float big) 8 0) (refusal 18 0)
    ∷ value [] (channel (signed_integer big) 8 65) (refusal 19 0)
    ∷ value [] (channel (unsigned_integer big) 7 65) (refusal 20 0)
    ∷ value [] (channel (string latin1) 9 0) (answer (text 0 0))
    -- every type by its code, and its default bits; the first code that is not known; an unknown type made with the code of
    -- another keeps it too
    ∷ type 0 (unsigned_integer little) 32
    ∷ type 1 (unsigned_integer big) 32
    ∷ type 2 (signed_integer little) 32
    ∷ type 3 (signed_integer big) 32
    ∷ type 4 (float little) 32
    ∷ type 5 (float big) 32
    ∷ type 6 (string latin1) 8
    ∷ type 7 (string utf8) 8
    ∷ type 8 (string (utf16 little)) 8
    ∷ type 9 (string (utf16 big)) 8
    ∷ type 10 byte_array 8
    ∷ type 11 mime_sample 8
    ∷ type 12 mime_stream 8
    ∷ type 13 can_open_date 64
    ∷ type 14 can_open_time 64
    ∷ type 15 (complex little) 64
    ∷ type 16 (complex big) 64
    ∷ type 17 (unknown 17) 8
    ∷ code (unknown 2) 2
    -- texts: a letter, one of Latin-1, an odd last byte; damage, and what stands for it: <Invalid UTF8>, <Invalid UTF16LE> and
    -- <Invalid UTF16BE>
    ∷ rendered latin1 (0xE9 ∷ []) (0xC3 ∷ 0xA9 ∷ []) false
    ∷ rendered (utf16 little) (0x41 ∷ 0x00 ∷ 0x42 ∷ []) (0x41 ∷ []) false
    ∷ rendered utf8 (0xC3 ∷ 0xA9 ∷ 0x00 ∷ 0xFF ∷ []) (0xC3 ∷ 0xA9 ∷ []) false
    ∷ rendered utf8 (0xFF ∷ []) (invalid_utf ++ (0x38 ∷ 0x3E ∷ [])) true
    ∷ rendered (utf16 little) (0x00 ∷ 0xD8 ∷ []) (invalid_utf ++ (0x31 ∷ 0x36 ∷ 0x4C ∷ 0x45 ∷ 0x3E ∷ [])) true
    ∷ rendered (utf16 big) (0xD8 ∷ 0x00 ∷ []) (invalid_utf ++ (0x31 ∷ 0x36 ∷ 0x42 ∷ 0x45 ∷ 0x3E ∷ [])) true
    ∷ validity (0x34 ∷ 0x12 ∷ 0x00 ∷ 0x02 ∷ []) (flagged 2 9) false
    ∷ validity (0x34 ∷ 0x12 ∷ 0x00 ∷ 0x02 ∷ []) (flagged 2 16) true
    ∷ validity (0x34 ∷ 0x12 ∷ 0x00 ∷ 0x02 ∷ []) (flagged 3 16) false
    -- where the invalidation bytes have an end: a set bit, the last bit, and one behind it; where no bit tells; other lengths,
    -- whatever the flags; no invalidation bytes
    ∷ bounded 2 (0x34 ∷ 0x12 ∷ 0x00 ∷ 0x02 ∷ []) (flagged 2 9) (answer false)
    ∷ bounded 2 (0x34 ∷ 0x12 ∷ 0x00 ∷ 0x80 ∷ []) (flagged 2 15) (answer false)
    ∷ bounded 2 (0x34 ∷ 0x12 ∷ 0x00 ∷ 0x02 ∷ []) (flagged 2 15) (answer true)
    ∷ bounded 2 (0x34 ∷ 0x12 ∷ 0x00 ∷ 0x02 ∷ []) (flagged 2 16) (refusal 29 0)
    ∷ bounded 2 (0x34 ∷ 0x12 ∷ 0x00 ∷ 0x02 ∷ []) (flagged 3 16) (answer false)
    ∷ bounded 2 (0x34 ∷ 0x12 ∷ 0x00 ∷ 0x02 ∷ []) (flagged 0 16) (answer true)
    ∷ bounded 2 (0x34 ∷ 0x12 ∷ 0x00 ∷ []) (flagged 2 16) (refusal 28 0)
    ∷ bounded 2 (0x34 ∷ 0x12 ∷ 0x00 ∷ 0x02 ∷ 0x00 ∷ []) (flagged 3 9) (refusal 28 0)
    ∷ bounded 2 [] (flagged 0 0) (refusal 28 0)
    ∷ bounded 0 (0x34 ∷ 0x12 ∷ []) (flagged 2 0) (refusal 29 0)
    ∷ bounded 0 (0x34 ∷ 0x12 ∷ []) (flagged 0 0) (answer true)
    -- where the readings differ: bit 9 is one of the next record, which follows in the first row, or is missing
    ∷ validity (0x34 ∷ 0x12 ∷ 0x00 ∷ 0x02 ∷ 0x13 ∷ 0x00 ∷ []) (flagged 2 9) false
    ∷ validity (0x34 ∷ 0x12 ∷ 0x00 ∷ []) (flagged 2 9) true
    ∷ bounded 1 (0x34 ∷ 0x12 ∷ 0x00 ∷ 0x02 ∷ 0x13 ∷ 0x00 ∷ []) (flagged 2 9) (refusal 28 0)
    ∷ bounded 1 (0x34 ∷ 0x12 ∷ 0x00 ∷ []) (flagged 2 9) (refusal 29 0)
    -- with the value, whose own refusal comes first
    ∷ bounded_value 2 (0x34 ∷ 0x12 ∷ 0x00 ∷ 0x02 ∷ []) (flagged 2 9) (answer (record { value = unsigned 0x34; valid = false }))
    ∷ bounded_value 2 [] (flagged 2 9) (refusal 21 1)
    ∷ bounded_value 2 (0x34 ∷ 0x12 ∷ []) (flagged 2 16) (refusal 28 0)
    ∷ bounded_value 2 (0x34 ∷ 0x12 ∷ 0x00 ∷ 0x02 ∷ []) (flagged 2 16) (refusal 29 0)
    ∷ list (short_list 1 0) (answer (record {
      header = record { id = 1279533859; reserved = 0; block_length = 40; link_count = 1 };
      next = 0;
      links_at = 32;
      links = 0;
      flags = 0;
      reserved = 0;
      count = 0;
      rest_at = 40;
      rest = 0;
    }))
    ∷ list (short_list 1 1) (refusal 2 48)
    ∷ list (short_list 18446744073709551615 0) (refusal 2 18446744073709551615)
    ∷ block (channel_block 160 8 []) (answer (channel_read 160 0))
    ∷ description (channel_read 160 0) (record {
      data_type = signed_integer little;
      channel_type = 0;
      bit_offset = 4;
      byte_offset = 5;
      bit_count = 12;
      flags = 2;
      invalidation_bit = 3;
      data_link = 6;
    })
    ∷ block plain_channel_block (answer (channel_read_with 0 0 160 0))
    -- neither the block length nor a ninth link misleads; the bytes may be too few, and the links too few or countless
    ∷ block (channel_block 1 8 []) (answer (channel_read 1 0))
    ∷ block (channel_block 168 9 (99 ∷ [])) (answer (channel_read 168 1))
    ∷ block (channel_block 160 9 []) (refusal 2 168)
    ∷ block (take 159 (channel_block 160 8 [])) (refusal 2 160)
    ∷ block (channel_block 160 7 []) (refusal 17 0)
    ∷ block (channel_block 160 18446744073709551615 []) (refusal 2 18446744073709551615)
    ∷ block (short_list 1 0) (refusal 3 0)
    ∷ block (take 23 (channel_block 160 8 [])) (refusal 2 24)
    ∷ fetch three_blocks 1 (record { reply = answer tt; buffer = 3 ∷ 4 ∷ [] })
    ∷ fetch one_block 1 (record { reply = answer tt; buffer = 3 ∷ 4 ∷ [] })
    ∷ fetch three_blocks 3 (record { reply = refusal 16 0; buffer = 255 ∷ 255 ∷ [] })
    ∷ fetch one_block 3 (record { reply = refusal 16 0; buffer = 255 ∷ 255 ∷ [] })
    -- one length, in one list: the last block may be shorter, and neither it longer nor one before it shorter
    ∷ fetch (two_blocks 4 (1 ∷ 2 ∷ 3 ∷ 4 ∷ []) (5 ∷ 6 ∷ [])) 2 (record { reply = answer tt; buffer = 5 ∷ 6 ∷ [] })
    ∷ fetch (two_blocks 2 (1 ∷ 2 ∷ []) (3 ∷ 4 ∷ 5 ∷ 6 ∷ [])) 0 (record { reply = refusal 13 0; buffer = 255 ∷ 255 ∷ [] })
    ∷ fetch (two_blocks 4 (1 ∷ 2 ∷ []) (3 ∷ 4 ∷ 5 ∷ 6 ∷ [])) 0 (record { reply = refusal 13 0; buffer = 255 ∷ 255 ∷ [] })
    -- in two lists: only the last block of the last list may be shorter, also where that list has none
    ∷ fetch (two_lists 1 4 (1 ∷ 2 ∷ 3 ∷ 4 ∷ []) 1 1 4 (5 ∷ 6 ∷ [])) 2 (record { reply = answer tt; buffer = 5 ∷ 6 ∷ [] })
    ∷ fetch (two_lists 1 4 (1 ∷ 2 ∷ []) 1 1 4 (3 ∷ 4 ∷ 5 ∷ 6 ∷ [])) 0 (record { reply = refusal 13 0; buffer = 255 ∷ 255 ∷ [] })
    ∷ fetch (two_lists 1 4 (1 ∷ 2 ∷ 3 ∷ 4 ∷ []) 0 1 4 []) 1 (record { reply = answer tt; buffer = 3 ∷ 4 ∷ [] })
    ∷ fetch (two_lists 1 4 (1 ∷ 2 ∷ []) 0 1 4 []) 0 (record { reply = refusal 13 0; buffer = 255 ∷ 255 ∷ [] })
    -- a larger last count, another length, one list of each form; and offsets, with blocks of any length
    ∷ fetch (two_lists 1 4 (1 ∷ 2 ∷ 3 ∷ 4 ∷ []) 2 1 4 (5 ∷ 6 ∷ 7 ∷ 8 ∷ [])) 0 (record { reply = refusal 13 0; buffer = 255 ∷ 255 ∷ [] })
    ∷ fetch (two_lists 1 4 (1 ∷ 2 ∷ 3 ∷ 4 ∷ []) 1 1 2 (5 ∷ 6 ∷ [])) 0 (record { reply = refusal 13 0; buffer = 255 ∷ 255 ∷ [] })
    ∷ fetch (two_lists 1 4 (1 ∷ 2 ∷ 3 ∷ 4 ∷ []) 1 0 4 (5 ∷ 6 ∷ [])) 0 (record { reply = refusal 13 0; buffer = 255 ∷ 255 ∷ [] })
    ∷ fetch (two_lists 0 0 (1 ∷ 2 ∷ 3 ∷ 4 ∷ []) 1 1 2 (5 ∷ 6 ∷ [])) 0 (record { reply = refusal 13 0; buffer = 255 ∷ 255 ∷ [] })
    ∷ fetch (two_lists 0 0 (1 ∷ 2 ∷ []) 1 0 2 (3 ∷ 4 ∷ 5 ∷ 6 ∷ [])) 2 (record { reply = answer tt; buffer = 5 ∷ 6 ∷ [] })
    -- numbers written beside other bits, in either order, and over nine bytes
    ∷ write (0x12 ∷ 0x34 ∷ []) (channel (unsigned_integer little) 4 8) (given_unsigned 0xAB) (leaves (0xB2 ∷ 0x3A ∷ []))
    ∷ write (0x12 ∷ 0x34 ∷ []) (channel (unsigned_integer big) 4 8) (given_unsigned 0xAB) (leaves (0x1A ∷ 0xB4 ∷ []))
    ∷ write (0x7F ∷ []) (channel (signed_integer little) 4 4) (given_signed (negsuc 7)) (leaves (0x8F ∷ []))
    ∷ write (0x05 ∷ 0 ∷ 0 ∷ 0 ∷ 0 ∷ 0 ∷ 0 ∷ 0 ∷ 0xA0 ∷ []) (channel (unsigned_integer little) 4 64) (given_unsigned 18446744073709551615)
    (leaves (0xF5 ∷ 255 ∷ 255 ∷ 255 ∷ 255 ∷ 255 ∷ 255 ∷ 255 ∷ 0xAF ∷ []))
    -- floats of 32 bits: 1, -0, the least above 0, an infinity and the one NaN; of 64 bits another NaN too
    ∷ write four (channel (float little) 0 32) (given_double 0x3FF0000000000000) (leaves (0 ∷ 0 ∷ 0x80 ∷ 0x3F ∷ []))
    ∷ write four (channel (float big) 0 32) (given_double 0x8000000000000000) (leaves (0x80 ∷ 0 ∷ 0 ∷ 0 ∷ []))
    ∷ write four (channel (float little) 0 32) (given_double 0x36A0000000000000) (leaves (1 ∷ 0 ∷ 0 ∷ 0 ∷ []))
    ∷ write four (channel (float big) 0 32) (given_double 0xFFF0000000000000) (leaves (0xFF ∷ 0x80 ∷ 0 ∷ 0 ∷ []))
    ∷ write four (channel (float big) 0 32) (given_double 0x7FF8000000000000) (leaves (0x7F ∷ 0xC0 ∷ 0 ∷ 0 ∷ []))
    ∷ write (le 8 0) (channel (float little) 0 64) (given_double 0xFFF8000000000001) (leaves (le 8 0xFFF8000000000001))
    -- 24: too large, too small, half-way between two floats, half the least, and that NaN with its sign
    ∷ write (0 ∷ []) (channel (unsigned_integer little) 0 7) (given_unsigned 128) (refuses 24 0 (0 ∷ []))
    ∷ write (0 ∷ []) (channel (signed_integer little) 4 4) (given_signed (pos 8)) (refuses 24 0 (0 ∷ []))
    ∷ write (0 ∷ []) (channel (signed_integer little) 4 4) (given_signed (negsuc 8)) (refuses 24 0 (0 ∷ []))
    ∷ write four (channel (float little) 0 32) (given_double 0x3FF0000010000000) (refuses 24 0 four)
    ∷ write four (channel (float little) 0 32) (given_double 0x3690000000000000) (refuses 24 0 four)
    ∷ write four (channel (float little) 0 32) (given_double 0xFFF8000000000000) (refuses 24 0 four)
    -- 25: another kind, no number, no field of the record; and first what decoding refuses
    ∷ write (0 ∷ []) (channel (signed_integer little) 0 8) (given_unsigned 256) (refuses 25 0 (0 ∷ []))
    ∷ write four (channel (float little) 0 32) (given_signed (pos 1)) (refuses 25 0 four)
    ∷ write (0 ∷ []) (channel (unsigned_integer little) 0 8) given_other (refuses 25 0 (0 ∷ []))
    ∷ write (0 ∷ []) (channel (string latin1) 0 8) (given_unsigned 1) (refuses 25 0 (0 ∷ []))
    ∷ write (0 ∷ []) (channel (string latin1) 0 16) (given_unsigned 1) (refuses 21 2 (0 ∷ []))
    ∷ write (0 ∷ []) (payload (unsigned_integer little) 0 8) (given_unsigned 1) (refuses 25 0 (0 ∷ []))
    ∷ write [] (payload (unsigned_integer little) 0 8) (given_unsigned 1) (refuses 21 1 [])
    ∷ write four (channel (float little) 0 16) (given_unsigned 1) (refuses 22 0 four)
    -- a payload whose length is cut by a block's end, and one that is not cut; validity by the record
    ∷ follow (remarks 0 0) (remark (string latin1) 0 97) 3 (answer (record { value = text 0 2; valid = true; size = 2 })) (remark_left 0 0) (0x50 ∷ 0x58 ∷ 255 ∷ [])
    ∷ follow (remarks_uncut 0 0) (remark (string latin1) 0 105) 3 (answer (record { value = text 0 2; valid = true; size = 2 })) (remark_left 0 0) (0x50 ∷ 0x58 ∷ 255 ∷ [])
    ∷ follow (remarks 0 1) (remark byte_array 0 97) 2 (answer (record { value = bytes 0 2; valid = false; size = 2 })) (remark_left 0 1) (0x50 ∷ 0x58 ∷ [])
    -- the refusals in their order, and what each leaves
    ∷ follow (remarks 0 0) (channel (string latin1) 0 64) 3 (refusal 35 0) untouched (255 ∷ 255 ∷ 255 ∷ [])
    ∷ follow (le 8 0) (remark (string latin1) 0 97) 1 (refusal 11 0) untouched (255 ∷ [])
    ∷ follow (remarks 0 0) (remark (string latin1) 2 97) 1 (refusal 21 10) (remark_left 0 0) (255 ∷ [])
    -- a link to a block of payloads, and to the list of the records
    ∷ follow (remarks 0 0) (remark (string latin1) 0 169) 1 (refusal 3 0) (remark_left 0 0) (255 ∷ [])
    ∷ follow (remarks 0 0) (remark (string latin1) 0 8) 1 (refusal 12 0) (remark_left 0 0) (255 ∷ [])
    -- a length that ends behind the data, a payload that does, and a position near 2^64, which is little-endian for every type
    ∷ follow (remarks 4 0) (remark (string latin1) 0 97) 1 (refusal 23 0) (remark_left 4 0) (255 ∷ [])
    ∷ follow (remarks 3 0) (remark (string latin1) 0 97) 1 (refusal 23 0) (remark_left 3 0) (255 ∷ [])
    ∷ follow (remarks 18446744073709551615 0) (remark (signed_integer big) 0 97) 1 (refusal 23 0) (remark_left 18446744073709551615 0) (255 ∷ [])
    ∷ follow (remarks 0 0) (remark (string latin1) 0 97) 1 (refusal 6 2) (remark_left 0 0) (255 ∷ [])
    ∷ follow (remarks 0 0) (remark (unsigned_integer big) 0 97) 3 (refusal 21 8) (remark_left 0 0) (0x50 ∷ 0x58 ∷ 255 ∷ [])
    ∷ []

-- every row of the table is right
abbrev pub Claim : Type 0
Claim = map given table ≡ map stated table
