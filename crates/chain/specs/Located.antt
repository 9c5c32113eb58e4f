-- Where a position stands in the joined data of a chain.
use Rattle.std.specs.Prelude.{◌≡◌, ℕ, ◌≤◌, List, Result, Ok}
use Rattle.definitions.specs.Reply.{Reply}
use Rattle.definitions.specs.Chain.{Block}
use Rattle.refusals.specs.declared.Refusal.{Refusal}
use Rattle.chain.specs.Meaning.{located_reply}
use Rattle.chain.specs.Walk.{At}
use Rattle.chain.specs.declared.acceptance.Located.{Located}

-- r replies so of the chain from `start` on, and its place is on the way there and not behind the wanted position
pub record Locates (id f : List ℕ) (start wanted : ℕ) (reply : Reply ℕ) (r : Result Located Refusal) : Type 0 where
  pub replied : located_reply r ≡ reply
  pub place : (l : Located) → r ≡ Ok l → (before : List Block) × At id f start l.place before × (l.place.position.0 ≤ wanted)
