-- All digits of a word, and as many dropped as are too many.
use Rattle.encoder.proofs.Digits.{all_set}
use Rattle.encoder.proofs.bits.Width.ones.Goals as goal

pub returns : goal.returns
returns c = let width = c.args.self in all_set width.count width.in_word.0 width.in_word.1
