-- The bytes of the word that are not read stand below in the swapped one, and are shifted out.
use mathlib.Core.Path.{refl}
use Rattle.words.proofs.OtherOrder.{in_other_order}
use Rattle.words.proofs.read.be_bytes.Goals as goal

pub returns : goal.returns
returns c =
    in_other_order c.args.s.now c.args.at c.args.n c.requires.1 (λ i. (c.type_inv.s i).fits) c.requires.2
    c.few_le_bytes.ensures c.swapped.ensures refl
