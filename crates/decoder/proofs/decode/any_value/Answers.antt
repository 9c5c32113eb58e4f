-- What is said of validity does not matter to the value, nor the code that an unknown type carries.
use mathlib.Core.Path.{refl, sym, ◌∙◌}
use Rattle.definitions.specs.DataType.{type_of}
use Rattle.fields.specs.Meaning.{channel_meant}
use Rattle.decoder.proofs.LaidAnew.{laid_anew}
use Rattle.decoder.proofs.decode.any_value.Goals as goal

pub returns-then-is_variable_length : goal.returns-then-is_variable_length
returns-then-is_variable_length c =
    laid_anew _ _ (channel_meant c.args.channel) (type_of c.decoding_code-code.result) c.decoding_code-code.ensures
    (sym c.if-is_variable_length.true ∙ c.is_variable_length.ensures) refl refl c.far_value.ensures

pub returns : goal.returns
returns c =
    laid_anew _ _ (channel_meant c.args.channel) (type_of c.decoding_code-code.result) c.decoding_code-code.ensures
    (sym c.if-is_variable_length.false ∙ c.is_variable_length.ensures) refl refl c.far_value-2.ensures
