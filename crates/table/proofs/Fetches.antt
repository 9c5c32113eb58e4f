-- The ways through a fetch by a table.
use Rattle.std.specs.Prelude.{Ok}
use mathlib.Core.Path.{◌≡◌, refl, sym, ap, ◌∙◌}
use mathlib.Core.Bool.{true, false}
use mathlib.Core.List.{List, ◌++◌}
use Prim.Native.Nat.{ℕ, ◌+◌, ◌*◌, ◌≤◌, ◌<◌}
use native.Mathlib.Omega.{arith}
use lib.ListN.{length, take, drop}
use lib.Seq.{length-take-le}
use lib.Dec.{ltb}
use borrow.Author.Tests.{le-ltb, ltb-false}
use Rattle.definitions.specs.Reply.{answer, refusal}
use Rattle.definitions.specs.Bytes.{span}
use Rattle.definitions.specs.Chain.{file_limit, joined, bad_size, record_of}
use Rattle.definitions.specs.Table.{total_in, blocks_in, sound, table_fetched}
use Rattle.records.specs.Meaning.{fetched_by}
use Rattle.records.specs.Window.{laid}
use Rattle.records.proofs.Fetches.{sized}
use Rattle.records.proofs.Laying.{laid_whole}
use Rattle.records.proofs.Records.{size_good}
use Rattle.table.proofs.Fragments.{data_long}

module _ (f w : List ℕ) (k size : ℕ) (out : List ℕ) where
  -- a record that was fetched fits into the buffer
  pub fits : {u : Unit {0}} {left : List ℕ} → fetched_by (Ok u) left ≡ table_fetched f w k size out → size ≤ length out
  unfolding table_fetched
  fits e = (sized size out _ e).0

  module _ (good : bad_size size (length out) ≡ false) (l : length f ≤ file_limit) (s : sound f w ≡ true) (end : ℕ) (e : end ≡ total_in w) where
    pub table_behind : ltb end (k * size + size) ≡ true → record { reply = refusal 16 0; buffer = out } ≡ table_fetched f w k size out
    unfolding table_fetched record_of
    table_behind h = rw (good, le-ltb _ _ l, s, data_long w f s ∙ sym e, h) refl

    module _ (h : ltb end (k * size + size) ≡ false) where
      long : length (take size out) ≡ size
      long = length-take-le size out (size_good size (length out) good).1

      -- what the window asks
      pub table_within : (0 < length (take size out)) × (k * size + length (take size out) ≤ total_in w)
      table_within = (omega (arith, long, (size_good size (length out) good).0), omega (arith, long, e, ltb-false end (k * size + size) h))

      pub table_record : (r : List ℕ) → r ≡ laid (take size out) (k * size) 0 (joined f (blocks_in w))
          → record { reply = answer tt; buffer = r ++ drop size out } ≡ table_fetched f w k size out
      unfolding table_fetched record_of
      table_record r is =
          let j : List ℕ = joined f (blocks_in w) in
          let all : length j ≡ end = data_long w f s ∙ sym e in
          let inside : k * size + length (take size out) ≤ length j = omega (arith, data_long w f s, table_within.1) in
          let front : r ≡ span j (k * size) size = is ∙ laid_whole (take size out) (k * size) j inside ∙ ap (span j (k * size)) long in
          rw (good, le-ltb _ _ l, s, all, h, front) refl
