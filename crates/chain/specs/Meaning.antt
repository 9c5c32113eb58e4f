-- What each answer means in the definitions.
use Rattle.std.specs.Prelude.{ℕ, Result}
use Rattle.definitions.specs.Reply.{Reply}
use Rattle.refusals.specs.Meaning.{replied}
use Rattle.refusals.specs.declared.Refusal.{Refusal}
use Rattle.places.specs.declared.place.DataPosition.{DataPosition}
use Rattle.chain.specs.declared.acceptance.Located.{Located}

abbrev pub chain_reply : Result DataPosition Refusal → Reply ℕ
chain_reply = replied (λ q. q.0)

-- the same of a chain in which a position was looked for
abbrev pub located_reply : Result Located Refusal → Reply ℕ
located_reply = replied (λ l. l.total.0)
