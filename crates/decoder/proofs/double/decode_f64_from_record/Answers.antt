-- A payload has no double, nor has a number without bits; else a word holds the field, or it is found as any field is.
use mathlib.Core.Path.{sym, ◌∙◌}
use Rattle.fields.specs.Meaning.{channel_meant}
use Rattle.decoder.proofs.Doubles.{double_payload}
use Rattle.decoder.proofs.LaidAnew.{far_taken}
use Rattle.decoder.proofs.WordFields.{without_bits}
use Rattle.decoder.proofs.double.decode_f64_from_record.Goals as goal

pub returns-then-is_variable_length : goal.returns-then-is_variable_length
returns-then-is_variable_length c = double_payload _ _ _ (sym c.is_variable_length.ensures ∙ c.if-is_variable_length.true)

pub returns-then-channel-eq0 : goal.returns-then-channel-eq0
returns-then-channel-eq0 c = without_bits _ _ _ (sym c.is_variable_length.ensures ∙ c.if-is_variable_length.false) c.if-channel-eq0.true

pub returns-in_default : goal.returns-in_default
returns-in_default c =
    far_taken _ _ (channel_meant c.args.channel) _ c.decoding_code.ensures (sym c.is_variable_length.ensures ∙ c.if-is_variable_length.false) c.far_double.ensures
