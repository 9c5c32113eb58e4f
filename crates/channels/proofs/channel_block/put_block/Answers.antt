use Rattle.channels.specs.Meaning.{channel_block_meant}
use Rattle.channels.proofs.Channels.{channel_stored}
use Rattle.channels.proofs.channel_block.put_block.Goals as goal

pub returns : goal.returns
returns c =
    let a = c.args in
    channel_stored (channel_block_meant a.block) _ c.channel_header.ensures c.put_header.ensures c.put_all_le.ensures
    c.put_format.ensures c.put_all_le-2.ensures
