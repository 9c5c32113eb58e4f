-- A fetch through a table that a history left is that of the data joined from the blocks at its addresses; through one just
-- opened it is the fetch through the chain, so two files whose chains join to the same bytes give the same.
use mathlib.Core.Path.{◌≡◌, refl, ap, ◌∙◌}
use mathlib.Core.List.{List}
use Prim.Native.Nat.{ℕ, ◌≤◌}
use native.Mathlib.Omega.{arith}
use lib.ListN.{length}
use borrow.Author.Tests.{le-ltb}
use Rattle.definitions.specs.Channel.{Channel, Group}
use Rattle.definitions.specs.Chain.{Block, id_dt, file_limit, joined, fetched, field_of, value_fetched}
use Rattle.definitions.specs.Table.{table_limit, table_fetched, table_value_fetched}
use Rattle.chain.proofs.Chains.{chain_stands}
use Rattle.theorems.specs.Histories.{blocks_there, Afresh}
use Rattle.theorems.proofs.Records.TwoFiles.{Joins, record_in, value_in, record_of_joined}
use Rattle.theorems.proofs.Tables.AfreshTables.{blocks_back, sound_afresh}
use Rattle.theorems.proofs.Tables.Histories.{map_long, stand_inside, OpenedFrom}

-- ---- through what a history left

module _ (f xs w : List ℕ) (h : Afresh f xs w) (short : length f ≤ file_limit) (k size : ℕ) where
  pub fetch_afresh : (out : List ℕ) → table_fetched f w k size out ≡ record_in (joined f (blocks_there f xs)) k size out
  unfolding table_fetched
  fetch_afresh out =
      let bs : List Block = blocks_there f xs in
      let few : length bs ≤ table_limit = omega (arith, map_long f xs, h.few) in
      ap (λ (v : List ℕ). table_fetched f v k size out) h.table
      ∙ rw (le-ltb _ _ short, sound_afresh bs f few (stand_inside f xs h.stand), blocks_back bs) refl

  pub value_afresh : (g : Group) (c : Channel) (out : List ℕ) → table_value_fetched f w k size g c out ≡ value_in (joined f (blocks_there f xs)) k size g c out
  unfolding table_value_fetched
  value_afresh g c out = ap (field_of size g c) (fetch_afresh out)

-- ---- just after opening

module _ (f : List ℕ) (start : ℕ) (v : List ℕ) (h : OpenedFrom f start v) (k size : ℕ) where
  pub fetch_opened : (out : List ℕ) → table_fetched f v k size out ≡ fetched f start k size out
  unfolding table_fetched fetched
  fetch_opened out =
      let bs : List Block = h.blocks in
      ap (λ (u : List ℕ). table_fetched f u k size out) h.table
      ∙ rw (sound_afresh bs f h.few (chain_stands id_dt f start bs h.chain).inside, blocks_back bs, h.chain) refl

  pub value_opened : (g : Group) (c : Channel) (out : List ℕ) → table_value_fetched f v k size g c out ≡ value_fetched f start k size g c out
  unfolding table_value_fetched value_fetched
  value_opened g c out = ap (field_of size g c) (fetch_opened out)

  -- on the joined bytes
  pub fetch_on_joined : (j out : List ℕ) → Joins f start j → table_fetched f v k size out ≡ record_in j k size out
  fetch_on_joined j out i = fetch_opened out ∙ record_of_joined f start j i k size out

  pub value_on_joined : (g : Group) (c : Channel) (j out : List ℕ) → Joins f start j → table_value_fetched f v k size g c out ≡ value_in j k size g c out
  unfolding table_value_fetched
  value_on_joined g c j out i = ap (field_of size g c) (fetch_on_joined j out i)
