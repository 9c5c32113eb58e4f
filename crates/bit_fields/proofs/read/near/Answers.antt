-- The bytes that weigh less than the field stand below it in the word, and the others above.
use mathlib.Core.Path.{ap, ◌∙◌}
use Prim.Native.Nat.{ℕ}
use Rattle.definitions.specs.Bytes.{bits}
use Rattle.bit_fields.proofs.Ways.{near, low}
use Rattle.bit_fields.proofs.read.near.Goals as goal

pub returns : goal.returns
returns g c =
    let a = c.args in
    let order = g.O.ByteOrder.order in
    near order a.word a.from a.count
    (c.cut.ensures ∙ ap (λ (n : ℕ). bits c.of_word.result n a.count) (low order a.from a.count c.requires.1 c.lower-below.ensures))
    c.of_word.ensures c.requires.1
