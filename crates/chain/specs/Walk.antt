-- A walk along a chain: what the chain gives from where it stands. f is the file, and id the id of its data blocks.
use Rattle.std.specs.Prelude.{◌≡◌, false, ℕ, ◌+◌, ◌-◌, ◌*◌, ◌≤◌, List, [], ◌∷◌, length, drop, eqb, if◌then◌else◌}
use Rattle.definitions.specs.Reply.{Reply, answer, and_then}
use Rattle.definitions.specs.Chain.{Block, file_limit, fragment_limit, list_limit, total, fragments, list_at, Declaration, lists, chain_of}
use Rattle.places.specs.Places.{ended}
use Rattle.places.specs.declared.place.Place.{Place}
use Rattle.steps.specs.Steps.{ListKnown, Onward, a_list, the_end, declared_before}

-- ---- the rest of the chain

-- what is left of the list read last, added to the blocks before
unfoldable pub fragments_left : List ℕ → List ℕ → Place → List Block → Reply (List Block)
fragments_left id f p before =
    if eqb p.lists 0 then answer before
    else and_then (list_at f p.fragments p.list.address.0)
    (λ d. fragments id f (drop p.list.address.0 f) d p.index (d.links - p.index) before)

-- the lists behind it, in a chain whose first list declares so
unfoldable pub lists_behind : List ℕ → List ℕ → Declaration → Place → List Block → Reply (List Block)
lists_behind id f first p bs = if ended p then answer bs else lists id f first (list_limit - p.lists) p.list.next.0 bs

-- what the chain gives in all, where the walk stands at p and the blocks so far are `before`
abbrev pub chain_from : List ℕ → List ℕ → Declaration → Place → List Block → Reply (List Block)
chain_from id f first p before = and_then (fragments_left id f p before) (lists_behind id f first p)

-- the same behind a list
abbrev pub go_on : List ℕ → List ℕ → Declaration → List Block → Onward → Reply (List Block)
go_on id f first before (a_list p) = chain_from id f first p before
go_on id f first before (the_end n) = answer before

-- ---- a walk so far

-- each block lies in the file, with its header
unfoldable pub Inside : List ℕ → List Block → Type 0
Inside f [] = Unit {0}
Inside f (b ∷ bs) = (b.address + 24 + b.size ≤ length f) × Inside f bs

pub record Stand (f : List ℕ) (bs : List Block) : Type 0 where
  pub inside : Inside f bs
  pub few : length bs ≤ fragment_limit

-- a walk along the chain from `start` on stands at p, and has met the blocks `before`
pub record At (id f : List ℕ) (start : ℕ) (p : Place) (before : List Block) : Type 0 where
  pub known : ListKnown f p
  pub stand : Stand f before
  -- so that the data of all blocks is far shorter than a word can count
  pub short : length f ≤ file_limit
  pub count : length before ≡ p.fragments + p.index
  pub size : total before ≡ p.position.0
  -- what the first list declares, and so the list read last, if another follows it
  pub first : Declaration
  pub alike : ended p ≡ false → declared_before f p ≡ first
  pub rest : chain_of id f start ≡ chain_from id f first p before

-- p is a place on the way along an accepted chain
pub record Walked (id f : List ℕ) (p : Place) : Type 0 where
  pub start : ℕ
  pub before : List Block
  pub blocks : List Block
  pub at : At id f start p before
  pub whole : chain_of id f start ≡ answer blocks

-- no walk makes more turns than this
abbrev pub turns_left : Place → ℕ
turns_left p = (list_limit - p.lists) * (fragment_limit + 1) + (p.list.links - p.index)
