-- The first fragments of a chain, listed in a table.
use Rattle.std.specs.Prelude.{◌≡◌, ℕ, ◌+◌, ◌≤◌, ◌<◌, List, length, ltb, if◌then◌else◌, Result, Ok, Err}
use Rattle.definitions.specs.Reply.{answer}
use Rattle.definitions.specs.Chain.{Block, id_dt, chain_of}
use Rattle.definitions.specs.Table.{table_limit, count_of, total_in, with_block, table_of}
use Rattle.refusals.specs.Meaning.{refused}
use Rattle.refusals.specs.declared.Refusal.{Refusal}

-- fragment i, if it is one of the first `most`, has room
abbrev pub AddsWithin : ℕ → ℕ → List ℕ → Block → Type 0
AddsWithin i most w b = i < most → (count_of w < table_limit) × (total_in w + b.size < 18446744073709551616)

-- the table with it
abbrev pub added_within : ℕ → ℕ → List ℕ → Block → List ℕ
added_within i most w b = if ltb i most then with_block w b else w

-- w became v: it is as it was where nothing was to be listed, and lists the blocks where it holds them
pub record Filled (most : ℕ) (bs : List Block) (w v : List ℕ) : Type 0 where
  pub none : most ≡ 0 → v ≡ w
  pub all : 0 < most → length bs ≤ most → v ≡ table_of bs

-- what a walk along a chain says of it, and what it leaves of a table
abbrev pub Lists : Result ℕ Refusal → List ℕ → ℕ → ℕ → List ℕ → List ℕ → Type 0
Lists (Ok n) f start most w v = (bs : List Block) × (chain_of id_dt f start ≡ answer bs) × (length bs ≡ n) × Filled most bs w v
Lists (Err r) f start most w v = (chain_of id_dt f start ≡ refused r) × (most ≡ 0 → v ≡ w)
