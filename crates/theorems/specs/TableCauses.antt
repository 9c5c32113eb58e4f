-- A table that can be right, said at once and not in turn; when a call that is given one answers; and why it refuses: each refusal
-- with its condition, in the order of the tests.
use Rattle.std.specs.Prelude.{◌≡◌, List, ℕ, ◌+◌, ◌-◌, ◌*◌, ◌≤◌, ◌<◌, length}
use Rattle.definitions.specs.Bytes.{span}
use Rattle.definitions.specs.Channel.{Channel, Group}
use Rattle.definitions.specs.Chain.{Block, id_dt, file_limit, record_limit, joined}
use Rattle.definitions.specs.Accepted.{BlockStands, Accepted}
use Rattle.definitions.specs.Table.{table_limit, count_of, total_in, address_at, position_at, blocks_in}
use Rattle.theorems.specs.Exactly.{FieldStands, InArea}
use Rattle.theorems.specs.Causes.{Not, bounded_refused}
use Rattle.theorems.specs.Refused.{Cause, refused, ◌or_else◌}
use Rattle.theorems.specs.ChainCauses.{block_refused, chain_refused}
use Rattle.theorems.specs.RecordCauses.{BadSize}

-- ---- a table that can be right

pub record InOrder (w : List ℕ) : Type 0 where
  pub few : count_of w ≤ table_limit
  -- not empty with a total
  pub empty : count_of w ≡ 0 → total_in w ≡ 0
  -- the positions do not start above 0, fall, or pass the total
  pub starts : 0 < count_of w → position_at w 0 ≡ 0
  pub rises : (i : ℕ) → i + 1 < count_of w → position_at w i ≤ position_at w (i + 1)
  pub ends : (i : ℕ) → i + 1 ≡ count_of w → position_at w i ≤ total_in w

pub record RightIn (f w : List ℕ) : Type 0 where
  pub order : InOrder w
  -- no fragment ends past the file, with its header: its data reaches to the next position, and that of the last to the total
  pub inside : (i : ℕ) → i + 1 < count_of w → address_at w i + 24 + (position_at w (i + 1) - position_at w i) ≤ length f
  pub last : (i : ℕ) → i + 1 ≡ count_of w → address_at w i + 24 + (total_in w - position_at w i) ≤ length f

-- ---- when each call answers

pub record Openable (f : List ℕ) (start : ℕ) : Type 0 where
  pub short : length f ≤ file_limit
  pub blocks : List Block
  pub accepted : Accepted id_dt f start blocks
  pub few : length blocks ≤ table_limit

pub record Extendable (f : List ℕ) (a : ℕ) (w : List ℕ) : Type 0 where
  pub short : length f ≤ file_limit
  pub right : RightIn f w
  pub block : Block
  pub there : block.address ≡ a
  pub stands : BlockStands id_dt f block
  pub room : count_of w < table_limit

pub record Shortenable (w : List ℕ) : Type 0 where
  pub order : InOrder w
  pub some : 0 < count_of w

pub record TableFetchable (f w : List ℕ) (k size : ℕ) (out : List ℕ) : Type 0 where
  pub some : 0 < size
  pub small : size ≤ record_limit
  pub room : size ≤ length out
  pub short : length f ≤ file_limit
  pub right : RightIn f w
  pub inside : k * size + size ≤ total_in w

pub record TableValueFetchable (f w : List ℕ) (k size : ℕ) (g : Group) (c : Channel) (out : List ℕ) : Type 0 where
  pub fetchable : TableFetchable f w k size out
  -- in the record's own bytes
  pub field : FieldStands (span (joined f (blocks_in w)) (k * size) size) g.id_size c
  pub area : InArea size g c

-- ---- a table is changed

-- the accepted chain has more fragments than a table
abbrev pub TooMany : List ℕ → ℕ → Type 0
TooMany f start = (blocks : List Block) × (Accepted id_dt f start blocks × (table_limit < length blocks))

abbrev pub open_refused : List ℕ → ℕ → Cause
open_refused f start =
    refused 7 0 (file_limit < length f)
    or_else chain_refused id_dt f start
    or_else refused 30 0 (TooMany f start)

abbrev pub extend_refused : List ℕ → ℕ → List ℕ → Cause
extend_refused f a w =
    refused 7 0 (file_limit < length f)
    or_else refused 32 0 (Not (RightIn f w))
    or_else block_refused id_dt f a  -- 11, 12
    or_else refused 30 0 (table_limit ≤ count_of w)

abbrev pub shorten_refused : List ℕ → Cause
shorten_refused w = refused 32 0 (Not (InOrder w)) or_else refused 31 0 (count_of w ≡ 0)

-- ---- a record, and a value in it

abbrev pub table_record_refused : List ℕ → List ℕ → ℕ → ℕ → List ℕ → Cause
table_record_refused f w k size out =
    refused 15 0 (BadSize size (length out))
    or_else refused 7 0 (file_limit < length f)
    or_else refused 32 0 (Not (RightIn f w))
    or_else refused 16 0 (total_in w < k * size + size)

-- then the field, in the record's own bytes
abbrev pub table_value_refused : List ℕ → List ℕ → ℕ → ℕ → List ℕ → Group → Channel → Cause
table_value_refused f w k size out g c =
    table_record_refused f w k size out
    or_else bounded_refused (span (joined f (blocks_in w)) (k * size) size) g c
