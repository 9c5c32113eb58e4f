-- The word in the other order is the number of its bytes with the lowest last.
use mathlib.Core.Path.{◌∙◌}
use Rattle.words.proofs.OtherOrder.{library_swapped}
use Rattle.words.proofs.read.swapped.Goals as goal

pub returns : goal.returns
returns c = c.swap_bytes.ensures ∙ library_swapped c.args.word
