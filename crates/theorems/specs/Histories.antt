-- What a sequence of operations leaves of a table, refused ones among them: the table that is worked out afresh from the block
-- addresses that are left.
use Rattle.std.specs.Prelude.{◌≡◌, List, [], ◌∷◌, ◌++◌, map, ℕ, ◌+◌, ◌-◌, ◌≤◌, length, take}
use Rattle.definitions.specs.Reply.{Reply, Outcome, answer, refusal}
use Rattle.definitions.specs.Bytes.{u64_at}
use Rattle.definitions.specs.Chain.{Block, id_dt, chain_of}
use Rattle.definitions.specs.Accepted.{BlockStands}
use Rattle.definitions.specs.Table.{table_limit, table_of, opened, extended, shortened}

-- ---- worked out afresh

-- the block at an address, by the length that stands there in the file
abbrev pub block_there : List ℕ → ℕ → Block
block_there f a = record { address = a; size = u64_at f (a + 8) - 24 }

abbrev pub blocks_there : List ℕ → List ℕ → List Block
blocks_there f xs = map (block_there f) xs

-- at each address there is a whole ##DT block
unfoldable pub AllStand : List ℕ → List ℕ → Type 0
AllStand f [] = Unit {0}
AllStand f (a ∷ xs) = BlockStands id_dt f (block_there f a) × AllStand f xs

-- w is the table of the blocks at these addresses of the file f
pub record Afresh (f xs w : List ℕ) : Type 0 where
  pub few : length xs ≤ table_limit
  pub stand : AllStand f xs
  pub table : w ≡ table_of (blocks_there f xs)

-- ---- operations

pub data Operation : Type 0 where
  opens : ℕ → Operation
  extends : ℕ → Operation
  shortens : Operation

-- what the definition gives
abbrev pub outcome_of : List ℕ → Operation → List ℕ → Outcome (Unit {0})
outcome_of f (opens start) w = opened f start w
outcome_of f (extends a) w = extended f a w
outcome_of f shortens w = shortened w

abbrev pub addresses_of : Reply (List Block) → List ℕ
addresses_of (answer bs) = map (λ (b : Block). b.address) bs
addresses_of (refusal n t) = []

-- the block addresses that it leaves of those before, where it answers: those of the chain; one more; all but the last
abbrev pub leaves_done : List ℕ → Operation → List ℕ → List ℕ
leaves_done f (opens start) xs = addresses_of (chain_of id_dt f start)
leaves_done f (extends a) xs = xs ++ (a ∷ [])
leaves_done f shortens xs = take (length xs - 1) xs

-- a refused one leaves them all
abbrev pub leaves : List ℕ → Operation → Reply (Unit {0}) → List ℕ → List ℕ
leaves f o (answer u) xs = leaves_done f o xs
leaves f o (refusal n t) xs = xs

-- ---- one after the other

-- `By` says what a call replies, and what it leaves of a table: the operations in turn lead from the table w to x, and from the
-- addresses xs to bs
unfoldable pub Runs : (Operation → List ℕ → Reply (Unit {0}) → List ℕ → Type 0) → List ℕ → List Operation → List ℕ → List ℕ → List ℕ → List ℕ → Type 0
Runs By f [] w xs x ys = (w ≡ x) × (xs ≡ ys)
Runs By f (o ∷ os) w xs x ys = (r : Reply (Unit {0})) × (v : List ℕ) × By o w r v × Runs By f os v (leaves f o r xs) x ys
