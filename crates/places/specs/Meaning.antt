-- What each struct and each answer means in the definitions.
use Rattle.std.specs.Prelude.{Result}
use Rattle.definitions.specs.Reply.{Reply}
use Rattle.definitions.specs.Chain.{Block}
use Rattle.refusals.specs.Meaning.{replied}
use Rattle.refusals.specs.declared.Refusal.{Refusal}
use Rattle.places.specs.declared.block.DataBlock.{DataBlock}

abbrev pub block_meant : DataBlock → Block
block_meant b = record { address = b.address.0; size = b.size }

abbrev pub block_reply : Result DataBlock Refusal → Reply Block
block_reply = replied block_meant
