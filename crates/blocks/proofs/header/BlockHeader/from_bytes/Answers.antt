use mathlib.Core.Path.{sym}
use Rattle.blocks.proofs.Headers.{header_short, header_read}
use Rattle.blocks.proofs.header.BlockHeader.from_bytes.Goals as goal

pub returns-then-bytes-lt24 : goal.returns-then-bytes-lt24
returns-then-bytes-lt24 c = sym (header_short _ c.if-bytes-lt24.true)

pub returns : goal.returns
returns c =
    sym (header_read _ _ _ _ _ c.read_le.ensures c.read_le-2.ensures c.read_le-3.ensures c.read_le-4.ensures c.if-bytes-lt24.false)
