-- The bytes stand at the top of the word that is swapped, and below in the swapped one.
use mathlib.Core.Path.{refl, ap, ◌∙◌}
use mathlib.Core.List.{List}
use Prim.Native.Nat.{ℕ}
use lib.Seq.{sets}
use Rattle.words.proofs.BytesOf.{turned_round}
use Rattle.words.proofs.write.put_few_be.Goals as goal

pub returns : goal.returns
returns c =
    let a = c.args in
    c.put_few_le.ensures ∙ ap (λ (bs : List ℕ). sets a.out.now a.at bs) (turned_round a.n a.x c.requires.1 c.requires.3 refl c.swapped.ensures)
