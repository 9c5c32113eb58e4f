use mathlib.Core.Path.{◌∙◌}
use Rattle.fields.specs.Meaning.{channel_meant}
use Rattle.overlaps.proofs.Pairs.{bare_share}
use Rattle.overlaps.proofs.pair.share_a_bit.Goals as goal

pub returns : goal.returns
returns c =
    c.fields_share_a_bit.ensures ∙ bare_share (channel_meant c.args.a) (channel_meant c.args.b) c.field_place.ensures c.field_place-2.ensures
