use Rattle.channels.proofs.Channels.{word_bytes}
use Rattle.channels.proofs.channel_block.four_bytes.Goals as goal

pub returns : goal.returns
returns c =
    let f = c.ranges in
    word_bytes _ _ _ _ _ f.first.fits f.second.fits f.third.fits f.fourth.fits c.read_le.ensures
