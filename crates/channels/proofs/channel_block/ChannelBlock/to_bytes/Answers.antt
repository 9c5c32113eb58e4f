use Rattle.channels.proofs.Channels.{channel_small, channel_fits}
use Rattle.channels.proofs.channel_block.ChannelBlock.to_bytes.Goals as goal

pub returns-then-out-lt160 : goal.returns-then-out-lt160
returns-then-out-lt160 c = channel_small _ _ c.if-out-lt160.true

pub returns : goal.returns
returns c =
    channel_fits _ _ _ c.if-out-lt160.false c.put_block.ensures
