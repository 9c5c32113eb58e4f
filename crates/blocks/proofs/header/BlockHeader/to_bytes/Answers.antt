use Rattle.blocks.proofs.Headers.{header_small, header_fits}
use Rattle.blocks.proofs.header.BlockHeader.to_bytes.Goals as goal

pub returns-then-out-lt24 : goal.returns-then-out-lt24
returns-then-out-lt24 c = header_small _ _ c.if-out-lt24.true

pub returns : goal.returns
returns c =
    header_fits _ _ _ c.if-out-lt24.false c.put_header.ensures
