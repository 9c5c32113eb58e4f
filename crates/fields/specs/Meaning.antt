-- What the code's own types mean in the definitions.
use Rattle.std.specs.Prelude.{Bool, Result}
use Rattle.definitions.specs.Reply.{Reply}
use Rattle.definitions.specs.Channel as channels
use Rattle.definitions.specs.Channel.{Value, ValidValue, unsigned, signed, double, text, bytes, sample, stream, unknown_value}
use Rattle.refusals.specs.Meaning.{replied}
use Rattle.refusals.specs.declared.Refusal.{Refusal}
use Rattle.data_types.specs.Meaning.{type_meant}
use Rattle.fields.specs.declared.channel.Channel.{Channel}
use Rattle.fields.specs.declared.value.DecodedValue.{DecodedValue}
use Rattle.fields.specs.declared.value.DecodedValue.TheVariants.{UnsignedInteger, SignedInteger, Float, String, ByteArray, MimeSample, MimeStream, Unknown}
use Rattle.fields.specs.declared.value.DecodedChannelValue.{DecodedChannelValue}
use Rattle.fields.specs.declared.group.Group.{Group}

abbrev pub channel_meant : Channel → channels.Channel
channel_meant c = record {
  data_type = type_meant c.data_type;
  channel_type = c.channel_type;
  bit_offset = c.bit_offset;
  byte_offset = c.byte_offset;
  bit_count = c.bit_count;
  flags = c.flags;
  invalidation_bit = c.pos_invalidation_bit;
  data_link = c.data;
}

abbrev pub group_meant : Group → channels.Group
group_meant g = record {
  id_size = g.record_id_size;
  data_bytes = g.data_bytes;
  invalidation_bytes = g.invalidation_bytes;
}

abbrev pub value_meant : DecodedValue → Value
value_meant (UnsignedInteger n) = unsigned n
value_meant (SignedInteger z) = signed z
value_meant (Float x pattern) = double x pattern
value_meant (String at n) = text at n
value_meant (ByteArray at n) = bytes at n
value_meant (MimeSample at n) = sample at n
value_meant (MimeStream at n) = stream at n
value_meant Unknown = unknown_value

abbrev pub value_reply : Result DecodedValue Refusal → Reply Value
value_reply = replied value_meant

abbrev pub valid_value_meant : DecodedChannelValue → ValidValue
valid_value_meant v = record { value = value_meant v.value; valid = v.is_valid }

abbrev pub valid_value_reply : Result DecodedChannelValue Refusal → Reply ValidValue
valid_value_reply = replied valid_value_meant

abbrev pub area_reply : Result (Unit {0}) Refusal → Reply (Unit {0})
area_reply = replied (λ u. u)

abbrev pub validity_reply : Result Bool Refusal → Reply Bool
validity_reply = replied (λ b. b)
