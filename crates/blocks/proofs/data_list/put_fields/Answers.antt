use Rattle.blocks.proofs.Writes.{list_stored}
use Rattle.blocks.proofs.data_list.put_fields.Goals as goal

pub returns : goal.returns
returns c =
    list_stored _ _ _ _ _ _ c.ranges.flags.fits c.list_header.ensures c.put_header.ensures c.write_le.ensures
    c.put_all_le.ensures c.write_le-2.ensures c.write_le-3.ensures c.put_all_le-2.ensures
