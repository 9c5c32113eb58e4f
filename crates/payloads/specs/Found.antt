-- Where a payload lies in the joined data of its chain.
use Rattle.std.specs.Prelude.{◌≡◌, ℕ, ◌+◌, ◌≤◌, List, length, Result, Ok, Err}
use Rattle.definitions.specs.Reply.{Reply, answer, and_then}
use Rattle.definitions.specs.Bytes.{span, u32_at}
use Rattle.definitions.specs.Chain.{Block, joined}
use Rattle.definitions.specs.Payload.{id_sd, joined_of, payload_at}
use Rattle.refusals.specs.Meaning.{refused}
use Rattle.refusals.specs.declared.Refusal.{Refusal}
use Rattle.chain.specs.Walk.{Walked}
use Rattle.records.specs.Window.{ReadsOn}
use Rattle.payloads.specs.declared.payload.LengthRead.{LengthRead}
use Rattle.payloads.specs.declared.payload.PayloadFound.{PayloadFound}

-- the payload at a position in what the `##SD` blocks of the chain from `start` on join to
abbrev pub payload_from : List ℕ → ℕ → ℕ → Reply (List ℕ)
payload_from f start position = and_then (joined_of id_sd f start) (λ j. payload_at j position)

-- the number of the four bytes at a position of the blocks' data, if it has so many, and a place to read on from behind them
pub record HasLength (f : List ℕ) (blocks : List Block) (position : ℕ) (r : LengthRead) : Type 0 where
  pub is : position + 4 ≤ length (joined f blocks) → r.length ≡ u32_at (joined f blocks) position
  pub on : ReadsOn id_sd f blocks (position + 4) r.reached

-- it is that of what a walk joins that stands at the place, not behind it
pub record Lies (f : List ℕ) (payload : Reply (List ℕ)) (p : PayloadFound) : Type 0 where
  pub walked : Walked id_sd f p.place
  pub ahead : p.place.position.0 ≤ p.first.0
  pub inside : p.first.0 + p.length ≤ length (joined f walked.blocks)
  pub is : payload ≡ answer (span (joined f walked.blocks) p.first.0 p.length)

abbrev pub Finds : List ℕ → Reply (List ℕ) → Result PayloadFound Refusal → Type 0
Finds f payload (Ok p) = Lies f payload p
Finds f payload (Err r) = payload ≡ refused r
