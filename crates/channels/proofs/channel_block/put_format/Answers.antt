use Rattle.channels.specs.Meaning.{channel_block_meant}
use Rattle.channels.proofs.Channels.{format_stored}
use Rattle.channels.proofs.channel_block.put_format.Goals as goal

pub returns : goal.returns
returns c =
    let a = c.args in
    format_stored (channel_block_meant a.block) _ c.to_u8-code.ensures c.four_bytes.ensures c.four_bytes-2.ensures
    c.write_le.ensures c.write_le-2.ensures c.write_le-3.ensures c.write_le-4.ensures
    c.write_le-5.ensures c.write_le-6.ensures
