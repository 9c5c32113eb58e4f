-- The worked examples hold: the definitions compute to what the table says.
use mathlib.Core.Path.{◌≡◌, refl, ap}
use mathlib.Core.List.{List, [], ◌∷◌}
use lib.Ieee.{to_unsigned, of_bits, to_bits, of_int}
use Rattle.definitions.specs.Reply.{answer}
use Rattle.definitions.specs.Bytes.{little, le_of, le, les}
use Rattle.definitions.specs.Unicode.{stopped, before_nul, before_zero_unit, is_scalar, utf8_of, six_bits, utf8_two, utf8_three, utf8_four, utf8_char, utf16_char, char_of, char_at, chars, placeholder, text_of}
use Rattle.definitions.specs.DataType.{unsigned_integer}
use Rattle.definitions.specs.Channel.{unsigned, decoded, value_by, value_of, record_double, valid_of, area_of, bounded_valid_of, bounded_value_of}
use Rattle.definitions.specs.WrittenValue.{field_given, value_written}
use Rattle.definitions.specs.Header.{header_of, header_bytes}
use Rattle.definitions.specs.DataList.{list_of, links_of, rest_of, list_bytes}
use Rattle.definitions.specs.ChannelBlock.{fields_of, channel_block_of}
use Rattle.definitions.specs.Chain.{joined, total, block_at, fragment_of, fragments, list_at, chained_at, lists, chain_of, record_of, fetched}
use Rattle.definitions.specs.Payload.{position_of, payload_at, joined_of, payload_of, payload_value_of, payload_fetched}
use Rattle.theorems.specs.Examples.{channel, copies, Said, a_value, a_number, Claim}

pub claim : Claim
unfolding copies to_unsigned of_bits to_bits of_int le_of le les stopped before_nul before_zero_unit is_scalar utf8_of six_bits utf8_two utf8_three utf8_four utf8_char utf16_char char_of char_at chars placeholder text_of decoded value_by value_of record_double valid_of area_of bounded_valid_of bounded_value_of field_given value_written header_of header_bytes list_of links_of rest_of list_bytes fields_of channel_block_of joined total block_at fragment_of fragments list_at chained_at lists chain_of record_of fetched position_of payload_at joined_of payload_of payload_value_of payload_fetched
claim = refl

-- the claim is about the definitions: without computing any, it gives what one of them answers
abbrev first : List Said → Said
first [] = a_number 0
first (said ∷ rest) = said

pub first_example : Claim → a_value (value_of (0x34 ∷ 0x12 ∷ []) 0 (channel (unsigned_integer little) 0 16)) ≡ a_value (answer (unsigned 4660))
first_example holds = ap first holds
