-- An accepted chain, said at once and not in turn: the conditions that its lists and its blocks meet.
use Rattle.std.specs.Prelude.{◌≡◌, true, ◌⊎◌, ℕ, ◌+◌, ◌*◌, ◌≤◌, ◌<◌, List, [], ◌∷◌, ◌++◌, length, drop}
use Rattle.definitions.specs.Reply.{answer}
use Rattle.definitions.specs.Bytes.{u64_at, id_at, bit}
use Rattle.definitions.specs.DataList.{DataList, list_of}
use Rattle.definitions.specs.Chain.{Block, total, list_limit, fragment_limit}

-- P holds of each element of a list, with those before it and those after it
unfoldable pub Each : {A : Type 0} → (List A → A → List A → Type 0) → List A → List A → Type 0
Each P before [] = Unit {0}
Each P before (x ∷ after) = P before x after × Each P (before ++ (x ∷ [])) after

-- a list of the chain with its address, and the blocks that it links
pub record Part : Type 0 where
  pub address : ℕ
  pub list : DataList
  pub blocks : List Block

-- the blocks of all parts in turn
unfoldable pub blocks_of : List Part → List Block
blocks_of [] = []
blocks_of (q ∷ qs) = q.blocks ++ blocks_of qs

-- the address that a link to these parts holds: that of the first, and 0 where there is none
abbrev pub link_to : List Part → ℕ
link_to [] = 0
link_to (q ∷ qs) = q.address

-- a data block with the wanted id stands at its address, whole
pub record BlockStands (id f : List ℕ) (b : Block) : Type 0 where
  pub somewhere : 0 < b.address
  pub inside : b.address + 24 + b.size ≤ length f
  pub named : id_at f b.address id ≡ true
  pub links : u64_at f (b.address + 16) ≡ 0
  pub block_length : u64_at f (b.address + 8) ≡ 24 + b.size

-- What the list d, the first of the bytes s, declares of a fragment is true: with i fragments of the list before it and `more`
-- behind it, its data has n bytes and follows p bytes of the chain's.
pub record Truthful (s : List ℕ) (d : DataList) (p i more n : ℕ) : Type 0 where
  -- flag bit 0: one length, that of the data without the header. No fragment is longer, and none is shorter behind which
  -- there is another of the list or a next list
  pub longest : bit d.flags 0 ≡ 1 → n ≤ u64_at s d.rest_at
  pub full : bit d.flags 0 ≡ 1 → (0 < more) ⊎ (0 < d.next) → n ≡ u64_at s d.rest_at
  -- without it: an offset for each fragment, which is the length of all data before it
  pub offset : bit d.flags 0 ≡ 0 → u64_at s (d.rest_at + i * 8) ≡ p

-- Behind the blocks `before` of the list d at a comes b, then `after`: it is the block that its data link names, and the list
-- tells the truth of it, p bytes of data being before the list.
pub record BlockListed (id f : List ℕ) (a : ℕ) (d : DataList) (p : ℕ) (before : List Block) (b : Block) (after : List Block) : Type 0 where
  pub link : u64_at (drop a f) (d.links_at + length before * 8) ≡ b.address
  pub stands : BlockStands id f b
  pub truthful : Truthful (drop a f) d (p + total before) (length before) (length after) b.size

-- a list stands at its address, agrees with itself, links its blocks, and names the list after it, or 0
pub record PartStands (id f : List ℕ) (before : List Part) (q : Part) (after : List Part) : Type 0 where
  pub somewhere : 0 < q.address
  pub inside : q.address + 24 ≤ length f
  pub reads : list_of (drop q.address f) ≡ answer q.list
  pub count : q.list.count ≡ q.list.links
  pub block_length : q.list.rest_at + q.list.rest * 8 ≤ q.list.header.block_length
  pub links : length q.blocks ≡ q.list.links
  pub each : Each (BlockListed id f q.address q.list (total (blocks_of before))) [] q.blocks
  pub next : q.list.next ≡ link_to after

-- A list with flag bit 0 declares the length n, and counts c fragments, or fewer where it has no next list
pub record DeclaresLength (f : List ℕ) (n c : ℕ) (before : List Part) (q : Part) (after : List Part) : Type 0 where
  pub flag : bit q.list.flags 0 ≡ 1
  pub declares : u64_at (drop q.address f) q.list.rest_at ≡ n
  pub counts : 0 < q.list.next → q.list.count ≡ c
  pub most : q.list.count ≤ c

-- a list without it
pub record DeclaresOffsets (before : List Part) (q : Part) (after : List Part) : Type 0 where
  pub flag : bit q.list.flags 0 ≡ 0

pub record Accepted (id f : List ℕ) (start : ℕ) (blocks : List Block) : Type 0 where
  -- the lists in turn, the first at the start
  pub parts : List Part
  pub some : 0 < start
  pub first : link_to parts ≡ start
  pub each : Each (PartStands id f) [] parts
  -- all with one length and one count between them, or all with offsets
  pub alike : ((n : ℕ) × (c : ℕ) × Each (DeclaresLength f n c) [] parts) ⊎ Each DeclaresOffsets [] parts
  -- their blocks are these
  pub together : blocks ≡ blocks_of parts
  pub few_lists : length parts ≤ list_limit
  pub few_blocks : length blocks ≤ fragment_limit
