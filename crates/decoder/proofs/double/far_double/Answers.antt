-- The field that was found gives the double, and NaN stands for a refusal.
use mathlib.Core.Path.{refl, sym, ap, ◌∙◌}
use Rattle.definitions.specs.Channel.{variable_length, record_double}
use Rattle.fields.specs.Meaning.{channel_meant}
use Rattle.decoder.proofs.Doubles.{double_refused, double_found, double_other, double_number}
use Rattle.decoder.proofs.double.far_double.Goals as goal

pub returns-in_default : goal.returns-in_default
returns-in_default c =
    let placed = c.placed_channel-channel in
    double_other _ _ (channel_meant placed.result) (ap variable_length placed.ensures) (sym c.in_default.ensures) ∙ ap (record_double _ _) placed.ensures

pub returns-in-Ok : goal.returns-in-Ok
returns-in-Ok c =
    let placed = c.placed_channel-channel in
    let form = sym c.in-Number.ensures in
    double_number _ _ (channel_meant placed.result) (ap variable_length placed.ensures) form
    (double_found c.in-Ok.ensures.0 refl form c.number_at-x.ensures c.number_double.ensures)
    ∙ ap (record_double _ _) placed.ensures

pub returns-in-Err : goal.returns-in-Err
returns-in-Err c =
    let placed = c.placed_channel-channel in
    double_number _ _ (channel_meant placed.result) (ap variable_length placed.ensures) (sym c.in-Number.ensures) (double_refused c.in-Err.ensures.0 refl)
    ∙ ap (record_double _ _) placed.ensures
