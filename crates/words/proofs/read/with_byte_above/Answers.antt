-- The byte is shifted to where the number ends.
use Rattle.words.proofs.Shifts.{byte_above}
use Rattle.words.proofs.read.with_byte_above.Goals as goal

pub returns : goal.returns
returns c = byte_above c.args.b c.args.x c.args.i c.ranges.b.fits c.requires.0 c.requires.1
