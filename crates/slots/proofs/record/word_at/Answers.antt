-- The word that is loaded holds the field, of which the slot's word is made.
use mathlib.Core.Path.{refl, ◌∙◌}
use Rattle.slots.proofs.Places.{place_is_slot}
use Rattle.slots.proofs.record.word_at.Goals as goal

pub returns : goal.returns
returns g c =
    let a = c.args in
    c.word_of.ensures
    ∙ place_is_slot a.at c.requires.0 c.requires.1 c.read_le-word.result c.width-count.ensures c.near_field-x.ensures
    a.«record».now (λ i. (c.type_inv.record i).fits) refl c.read_le-word.ensures c.requires.2
