-- The meanings are one-to-one: from its meaning each answer comes back.
use mathlib.Core.Path.{◌≡◌, refl}
use Rattle.std.specs.Prelude.{Result}
use Rattle.definitions.specs.Chain.{Block}
use Rattle.refusals.specs.declared.Refusal.{Refusal}
use Rattle.refusals.proofs.Back.{replied_one}
use Rattle.places.specs.Meaning.{block_meant, block_reply}
use Rattle.places.specs.declared.block.DataBlock.{DataBlock}

abbrev pub block_meaning : Block → DataBlock
block_meaning b = record { address = record { 0 = b.address }; size = b.size }

pub block_one : (a b : Result DataBlock Refusal) → block_reply a ≡ block_reply b → a ≡ b
block_one = replied_one block_meant block_meaning (λ b. refl)
