-- An entry means the channel that C gives by it.
use Rattle.block_replies.specs.Channels.{channel_given}
use Rattle.lent_channels.proofs.overlap.first_overlap.Given as goal

abbrev pub ghost-first_overlap : goal.ghost-first_overlap
ghost-first_overlap a = channel_given
