-- A word's number has the value of its field.
use mathlib.Core.Path.{sym, ◌∙◌}
use Rattle.fields.specs.Meaning.{channel_meant}
use Rattle.decoder.proofs.WordFields.{near_valued}
use Rattle.decoder.proofs.decode.short_value.Goals as goal

pub returns : goal.returns
returns c =
    near_valued _ _ (channel_meant c.args.channel) (sym c.is_variable_length.ensures ∙ c.if-is_variable_length.false) c.in_ok-form.ensures c.in_ok-field.ensures
    c.near_value.ensures
