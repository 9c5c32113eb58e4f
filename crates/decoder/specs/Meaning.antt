-- What is made of a field: a double, and a value with its validity.
use Rattle.std.specs.Prelude.{Bool, false, List, ℕ, ◌+◌, pos}
use Rattle.definitions.specs.Reply.{Reply, answer, and_then}
use Rattle.definitions.specs.Bytes.{twos_complement}
use Rattle.definitions.specs.Ieee754.{double_of}
use Rattle.definitions.specs.DataType.{DataType, Kind}
use Rattle.definitions.specs.Channel.{Channel, Value, ValidValue, float_bits, double_in}
use Rattle.fields.specs.Known.{value_at}
use Rattle.fields.specs.declared.form.Number.{Number}
use Rattle.fields.specs.declared.form.Number.TheVariants.{Unsigned, Signed, Float}

-- the field x of a number as a double
abbrev pub number_double : Number → ℕ → ℕ → ℕ
number_double Unsigned count x = double_of (pos x)
number_double Signed count x = double_of (twos_complement count x)
number_double Float count x = float_bits count x

-- the double of the field of a kind, where the channel is fixed
abbrev pub double_at : Kind → List ℕ → ℕ → Channel → ℕ
double_at k s id_size c = double_in (value_at k false s (id_size + c.byte_offset) c)

-- a value with its validity, or what refuses the one or else the other
abbrev pub judged_reply : Reply Bool → Reply Value → Reply ValidValue
judged_reply validity value = and_then value (λ v. and_then validity (λ b. answer (record { value = v; valid = b })))

-- a description with nothing said of payloads and of validity
abbrev pub placed : DataType → ℕ → ℕ → ℕ → Channel
placed type bit_offset byte_offset bit_count = record {
  data_type = type;
  channel_type = 0;
  bit_offset = bit_offset;
  byte_offset = byte_offset;
  bit_count = bit_count;
  flags = 0;
  invalidation_bit = 0;
  data_link = 0;
}
