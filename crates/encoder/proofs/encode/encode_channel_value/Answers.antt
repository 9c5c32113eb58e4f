-- What was chosen is written, or nothing is.
use Rattle.std.proofs.lemmas.Result.{err_from_is_err_and}
use Rattle.fields.specs.Meaning.{channel_meant}
use Rattle.encoder.specs.Meaning.{given_meant}
use Rattle.encoder.proofs.Choosing.{refused_left, field_left}
use Rattle.encoder.proofs.encode.encode_channel_value.Goals as goal

pub returns-in_err-field : goal.returns-in_err-field
returns-in_err-field c =
    let a = c.args in
    let p = err_from_is_err_and c.from_residual.result c.from_residual.ensures.1 in
    rw (p.1, p.2) (refused_left a.«record».now a.record_id_size (channel_meant a.channel) (given_meant a.given) _ c.in_err-field.ensures)

pub returns : goal.returns
returns c =
    let a = c.args in
    field_left a.«record».now a.record_id_size (channel_meant a.channel) (given_meant a.given) c.in_ok-field.ensures c.put_chosen.ensures
