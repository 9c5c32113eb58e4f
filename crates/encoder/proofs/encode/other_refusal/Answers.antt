-- What decoding would refuse, and else the kind.
use mathlib.Core.Path.{sym}
use Rattle.fields.specs.Meaning.{channel_meant}
use Rattle.encoder.proofs.Choosing.{value_refused}
use Rattle.encoder.proofs.encode.other_refusal.Goals as goal

pub returns-in-Err : goal.returns-in-Err
returns-in-Err c v =
    let a = c.args in
    value_refused a.«record».now a.record_id_size (channel_meant a.channel) v (sym c.in-Err.ensures)
