-- The word that begins at the offset is put together of the word and the byte, and cut.
use Rattle.words.proofs.Shifts.{cut_window}
use Rattle.bit_fields.proofs.read.cut_nine.Goals as goal

pub returns : goal.returns
returns c =
    cut_window c.args.byte c.args.word c.args.offset c.args.count c.ranges.byte.fits c.ranges.word.fits c.requires.0 c.requires.2 c.cut.ensures
