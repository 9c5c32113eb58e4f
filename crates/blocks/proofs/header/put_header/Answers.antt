use Rattle.blocks.proofs.Headers.{header_stored}
use Rattle.blocks.proofs.header.put_header.Goals as goal

pub returns : goal.returns
returns c =
    header_stored _ _ _ _ _ c.write_le.ensures c.write_le-2.ensures c.write_le-3.ensures c.write_le-4.ensures
