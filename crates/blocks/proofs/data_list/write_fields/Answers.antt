use Rattle.blocks.proofs.Writes.{list_small, list_fits}
use Rattle.blocks.proofs.data_list.write_fields.Goals as goal

pub returns-then-out-need : goal.returns-then-out-need
returns-then-out-need c =
    list_small _ _ _ _ _ c.requires.0 c.requires.1 c.if-out-need.true

pub returns : goal.returns
returns c =
    list_fits _ _ _ _ _ _ c.if-out-need.false c.put_fields.ensures
