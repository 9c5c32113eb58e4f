-- What a step of a walk may answer, and a walk to the next fragment.
use Rattle.std.specs.Prelude.{◌≡◌, ℕ, ◌+◌, ◌≤◌, ◌<◌, List, [], ◌∷◌, ◌++◌, length, Result, Ok, Err, Option, Some, None}
use Rattle.definitions.specs.Reply.{answer}
use Rattle.definitions.specs.Chain.{Block, chain_of}
use Rattle.refusals.specs.Meaning.{refused}
use Rattle.refusals.specs.declared.Refusal.{Refusal}
use Rattle.places.specs.Meaning.{block_meant}
use Rattle.places.specs.Places.{behind}
use Rattle.places.specs.declared.place.Place.{Place}
use Rattle.chain.specs.Walk.{At, turns_left}
use Rattle.chain.specs.declared.walk.Fragment.{Fragment}
use Rattle.chain.specs.declared.walk.Step.{Step}
use Rattle.chain.specs.declared.walk.Step.TheVariants.{OverFragment, IntoList}

-- a fragment of the chain: the walk stood before it, it lies in the file, and the walk is behind it at q
pub record Met (id f : List ℕ) (start : ℕ) (p : Place) (before : List Block) (x : Fragment) (q : Place) : Type 0 where
  pub here : At id f start x.before before
  pub inside : x.block.address.0 + 24 + x.block.size ≤ length f
  pub there : At id f start q (before ++ (block_meant x.block ∷ []))
  pub behind : q ≡ behind x.before x.block.size
  -- one turn less
  pub nearer : turns_left q < turns_left p

-- a list of the chain, which the walk has entered at q: no block more, and one turn less
pub record Entered (id f : List ℕ) (start : ℕ) (p : Place) (before : List Block) (q : Place) : Type 0 where
  pub there : At id f start q before
  pub nearer : turns_left q < turns_left p

-- to the next fragment, over the lists that end before it: from p, behind the blocks `before` of the chain from `start` on, to q
abbrev pub Stepped : List ℕ → List ℕ → ℕ → Place → List Block → Result (Option Fragment) Refusal → Place → Type 0
Stepped id f start p before (Err r) q = chain_of id f start ≡ refused r
Stepped id f start p before (Ok None) q = (chain_of id f start ≡ answer before) × At id f start q before
Stepped id f start p before (Ok (Some x)) q = Met id f start p before x q

-- by one step, over a fragment or into a list, from p to q
abbrev pub OneStep : List ℕ → List ℕ → ℕ → Place → List Block → Result (Option Step) Refusal → Place → Type 0
OneStep id f start p before (Err r) q = chain_of id f start ≡ refused r
OneStep id f start p before (Ok None) q = (chain_of id f start ≡ answer before) × At id f start q before
OneStep id f start p before (Ok (Some (OverFragment x))) q = Met id f start p before x q
OneStep id f start p before (Ok (Some IntoList)) q = Entered id f start p before q
