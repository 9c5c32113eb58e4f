-- What a walk meets at a place: the fragment there, or the next list. f is the file, and id the id of its data blocks.
use Rattle.std.specs.Prelude.{◌≡◌, ℕ, ◌+◌, ◌*◌, ◌%◌, ◌≤◌, ◌<◌, List, length, drop, leb, eqb, if◌then◌else◌, Result}
use Rattle.definitions.specs.Reply.{Reply, answer, refusal, and_then}
use Rattle.definitions.specs.Bytes.{u64_at}
use Rattle.definitions.specs.DataList.{DataList, one_length, rest_count}
use Rattle.definitions.specs.Chain.{Block, fragment_limit, list_limit, fragment_of, list_at, Declaration, by_length, by_offsets, declaration_of, chained_at}
use Rattle.refusals.specs.Meaning.{replied}
use Rattle.refusals.specs.declared.Refusal.{Refusal}
use Rattle.places.specs.Places.{Opens, entered, ended}
use Rattle.places.specs.declared.place.OpenList.{OpenList}
use Rattle.places.specs.declared.place.Place.{Place}
use Rattle.steps.specs.declared.next.Next.{Next}
use Rattle.steps.specs.declared.next.Next.TheVariants.{List as AList, End}

-- ---- what can be read of a list that is kept

-- link i of the list, and what it declares of that fragment, lie in the bytes s
pub record LinkWithin (s : List ℕ) (l : OpenList) (i : ℕ) : Type 0 where
  pub one : i < l.links
  pub link : l.links_at + l.links * 8 ≤ length s
  pub rest : l.rest_at + rest_count l.flags l.links * 8 ≤ length s

-- the one length that the list declares, if it does, lies in the file
pub record LengthWithin (f : List ℕ) (l : OpenList) : Type 0 where
  pub there : l.address.0 ≤ length f
  pub rest : l.flags % 2 ≡ 1 → l.rest_at + 8 ≤ length (drop l.address.0 f)

-- what a list that is kept declares for its chain
abbrev pub declaration_in : List ℕ → OpenList → Declaration
declaration_in f l =
    if one_length l.flags then by_length (u64_at (drop l.address.0 f) l.rest_at) l.links else by_offsets

-- what the list declares that was read at an address; where it was refused, so is the chain, and this plays no part
abbrev pub declared_at : List ℕ → ℕ → Reply DataList → Declaration
declared_at f a (answer d) = declaration_of (drop a f) d
declared_at f a (refusal n t) = by_offsets

-- what a place keeps of its list is what stands in the file
pub record ListKnown (f : List ℕ) (p : Place) : Type 0 where
  pub inside : p.index ≤ p.list.links
  pub few : p.fragments + p.list.links ≤ fragment_limit
  -- before the first list there are no links
  pub none : p.list.links ≤ p.lists * fragment_limit
  pub read : 0 < p.lists → (d : DataList) × (list_at f p.fragments p.list.address.0 ≡ answer d) × Opens p.list d

-- ---- what a walk meets

-- the fragment at a place
unfoldable pub fragment_at : List ℕ → List ℕ → Place → Reply Block
fragment_at id f p =
    and_then (list_at f p.fragments p.list.address.0)
    (λ d. fragment_of id f (drop p.list.address.0 f) d p.index p.position.0)

-- behind the last fragment of a list: the next one, or the end with the length of the data
pub data Onward : Type 0 where
  a_list : Place → Onward
  the_end : ℕ → Onward

abbrev pub next_meant : Next → Onward
next_meant (AList p) = a_list p
next_meant (End q) = the_end q.0

abbrev pub next_reply : Result Next Refusal → Reply Onward
next_reply = replied next_meant

-- what the list read last declares, and before the first list what that one will
unfoldable pub declared_before : List ℕ → Place → Declaration
declared_before f p =
    if eqb p.lists 0 then declared_at f p.list.next.0 (list_at f (p.fragments + p.index) p.list.next.0)
    else declaration_in f p.list

unfoldable pub next_of : List ℕ → Place → Reply Onward
next_of f p =
    if ended p then answer (the_end p.position.0)
    else if leb list_limit p.lists then refusal 8 0
    else and_then (chained_at (declared_before f p) f (p.fragments + p.index) p.list.next.0)
    (λ d. answer (a_list (entered p d)))
