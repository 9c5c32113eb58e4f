-- A word is the number of its bytes.
use mathlib.Core.Path.{sym, ◌∙◌}
use native.Mathlib.Nat.{mod-eq_of_lt}
use Rattle.words.proofs.Numbers.{le_back}
use Rattle.words.proofs.order.LittleByteOrder.of_word.Goals as goal

pub returns : goal.returns
returns c = sym (le_back 8 c.args.word ∙ mod-eq_of_lt c.ranges.word.fits)
