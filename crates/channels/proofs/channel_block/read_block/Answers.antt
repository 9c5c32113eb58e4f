use mathlib.Core.Path.{ap, ◌∙◌}
use Prim.Native.Nat.{ℕ, ◌+◌, ◌-◌, ◌*◌}
use lib.ListN.{length}
use Rattle.definitions.specs.Bytes.{span}
use Rattle.definitions.specs.ChannelBlock.{block_in}
use Rattle.words.proofs.Spans.{span_rest}
use Rattle.blocks.specs.Meaning.{header_meant}
use Rattle.channels.proofs.Channels.{block_read}
use Rattle.channels.proofs.channel_block.read_block.Goals as goal

pub returns : goal.returns
returns c =
    let a = c.args in
    let at : ℕ = 24 + a.header.links_nr * 8 in
    block_read a.bytes.now (span a.bytes.now at (length a.bytes.now - at)) (header_meant a.header) c.read_all_le.ensures
    c.read_all_le-2.ensures c.from_u8.ensures c.read_le.ensures c.read_le-2.ensures
    c.read_le-3.ensures c.read_le-4.ensures c.read_le-5.ensures
    ∙ ap (block_in a.bytes.now (header_meant a.header)) (span_rest a.bytes.now at)
