-- Why a chain of data lists is not read: each refusal with its condition, in the order of the tests. f is the file, and id the id
-- of its data blocks.
use Rattle.std.specs.Prelude.{◌≡◌, ◌⊎◌, List, [], ◌∷◌, ◌++◌, false, ℕ, zero, suc, ◌+◌, ◌-◌, ◌*◌, ◌<◌, length, drop}
use Rattle.definitions.specs.Bytes.{u64_at, id_at, bit}
use Rattle.definitions.specs.Header.{header_in}
use Rattle.definitions.specs.DataList.{DataList, list_in}
use Rattle.definitions.specs.Chain.{Block, total, list_limit, fragment_limit}
use Rattle.theorems.specs.Causes.{Not}
use Rattle.theorems.specs.Refused.{Cause, refused, ◌or_else◌, first_of, provided}
use Rattle.theorems.specs.BlockCauses.{list_refused}

-- ---- a data block

-- a link of 0, or one behind which the file has no 24 bytes
abbrev pub NoHeader : List ℕ → ℕ → Type 0
NoHeader f a = (a ≡ 0) ⊎ (length f < a + 24)

-- the block that stands at a, by the length in its header
abbrev pub block_there : List ℕ → ℕ → Block
block_there f a = record { address = a; size = u64_at f (a + 8) - 24 }

abbrev pub block_refused : List ℕ → List ℕ → ℕ → Cause
block_refused id f a =
    refused 11 0 (NoHeader f a)
    or_else refused 12 0 (id_at f a id ≡ false)  -- another id
    or_else refused 12 0 (Not (u64_at f (a + 16) ≡ 0))  -- it has links
    or_else refused 12 0 (u64_at f (a + 8) < 24)  -- a length under the header's own
    or_else refused 12 0 (length f < a + u64_at f (a + 8))  -- it ends past the file

-- ---- a fragment

-- the one length of a list d, the first of the bytes s
abbrev pub length_in : List ℕ → DataList → ℕ
length_in s d = u64_at s d.rest_at

-- What d declares of its fragment i is false, where the fragment has n bytes of data and p are before it
pub data Untrue (s : List ℕ) (d : DataList) (i p n : ℕ) : Type 0 where
  -- flag bit 0: the fragment is longer than the one length
  longer : bit d.flags 0 ≡ 1 → length_in s d < n → Untrue s d i p n
  -- or not as long, and another fragment or another list follows
  not_full : bit d.flags 0 ≡ 1 → (i + 1 < d.links) ⊎ (0 < d.next) → Not (n ≡ length_in s d) → Untrue s d i p n
  -- without it: its offset is not the length of the data before it
  misplaced : bit d.flags 0 ≡ 0 → Not (u64_at s (d.rest_at + i * 8) ≡ p) → Untrue s d i p n

-- the block that data link i of the list leads to
abbrev pub fragment_there : List ℕ → List ℕ → DataList → ℕ → Block
fragment_there f s d i = block_there f (u64_at s (d.links_at + i * 8))

-- with p bytes of data before it
abbrev pub fragment_refused : List ℕ → List ℕ → List ℕ → DataList → ℕ → ℕ → Cause
fragment_refused id f s d i p =
    block_refused id f (fragment_there f s d i).address
    or_else refused 13 0 (Untrue s d i p (fragment_there f s d i).size)  -- the list does not tell the truth of it

-- ---- a list

-- the list that stands at a
abbrev pub list_there : List ℕ → ℕ → DataList
list_there f a = list_in (drop a f) (header_in (drop a f))

-- its count is not that of its data links, or its block is shorter than its fields
abbrev pub Disagrees : DataList → Type 0
Disagrees d = Not (d.count ≡ d.links) ⊎ (d.header.block_length < d.rest_at + d.rest * 8)

-- The list at a does not keep to what the first list of the chain declares
pub data Unlike (f : List ℕ) (start a : ℕ) : Type 0 where
  -- one has flag bit 0, and the other has not
  other_form : Not (bit (list_there f a).flags 0 ≡ bit (list_there f start).flags 0) → Unlike f start a
  -- with it: another length
  other_length : bit (list_there f a).flags 0 ≡ 1 → Not (length_in (drop a f) (list_there f a) ≡ length_in (drop start f) (list_there f start)) → Unlike f start a
  -- another count, and a list follows
  other_count : bit (list_there f a).flags 0 ≡ 1 → 0 < (list_there f a).next → Not ((list_there f a).count ≡ (list_there f start).count) → Unlike f start a
  -- a higher count
  higher_count : bit (list_there f a).flags 0 ≡ 1 → (list_there f start).count < (list_there f a).count → Unlike f start a

-- a list behind n fragments of the lists before it
abbrev pub list_at_refused : List ℕ → ℕ → ℕ → Cause
list_at_refused f n a =
    refused 11 0 (NoHeader f a)
    or_else list_refused (drop a f)  -- its own: 2, 3, 4
    or_else refused 10 0 (Disagrees (list_there f a))
    or_else refused 9 0 (fragment_limit < n + (list_there f a).links)  -- too many fragments with these

-- in the chain whose first list is at the start
abbrev pub chained_refused : List ℕ → ℕ → ℕ → ℕ → Cause
chained_refused f start n a = list_at_refused f n a or_else refused 13 0 (Unlike f start a)

-- ---- the chain

-- where list k of the chain stands, counted from 0: where the next link of the one before it leads
unfoldable pub address_of : List ℕ → ℕ → ℕ → ℕ
address_of f start zero = start
address_of f start (suc k) = (list_there f (address_of f start k)).next

-- the first i blocks of the list d
unfoldable pub blocks_to : List ℕ → List ℕ → DataList → ℕ → List Block
blocks_to f s d zero = []
blocks_to f s d (suc i) = blocks_to f s d i ++ (fragment_there f s d i ∷ [])

-- all blocks of the list at a
abbrev pub blocks_at : List ℕ → ℕ → List Block
blocks_at f a = blocks_to f (drop a f) (list_there f a) (list_there f a).links

-- the blocks of all lists before list k
unfoldable pub blocks_before : List ℕ → ℕ → ℕ → List Block
blocks_before f start zero = []
blocks_before f start (suc k) = blocks_before f start k ++ blocks_at f (address_of f start k)

-- the chain has a list k: those before it name a next one
abbrev pub HasList : List ℕ → ℕ → ℕ → Type 0
HasList f start k = (j : ℕ) → j < k → 0 < (list_there f (address_of f start j)).next

-- the list at a, then its fragments in turn, where the lists before it have these blocks
abbrev pub part_refused : List ℕ → List ℕ → ℕ → ℕ → List Block → Cause
part_refused id f start a before =
    chained_refused f start (length before) a
    or_else first_of (list_there f a).links (λ i. fragment_refused id f (drop a f) (list_there f a) i (total (before ++ blocks_to f (drop a f) (list_there f a) i)))

-- the lists in turn, each with its fragments; 8: there is one more than may be read
abbrev pub chain_refused : List ℕ → List ℕ → ℕ → Cause
chain_refused id f start =
    first_of list_limit (λ k. provided (HasList f start k) (part_refused id f start (address_of f start k) (blocks_before f start k)))
    or_else refused 8 0 (HasList f start list_limit)
