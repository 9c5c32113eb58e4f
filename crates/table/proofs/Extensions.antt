-- What a table that is to change has room for, or to give up.
use Rattle.std.specs.Prelude.{Some, None}
use mathlib.Core.Path.{◌≡◌, refl, sym, ◌∙◌}
use mathlib.Core.Bool.{Bool, true}
use mathlib.Core.List.{List}
use Prim.Native.Nat.{ℕ, zero, suc, ◌+◌, ◌*◌, ◌≤◌, ◌<◌}
use native.Mathlib.Omega.{arith}
use lib.ListN.{length}
use Rattle.definitions.specs.Reply.{answer}
use Rattle.definitions.specs.Chain.{Block, file_limit, id_dt, total, block_at}
use Rattle.definitions.specs.Table.{table_limit, count_of, total_in, blocks_in, sound}
use Rattle.places.proofs.Blocks.{block_stands}
use Rattle.chain.proofs.Chains.{total_bound}
use Rattle.table.specs.Passed.{passes}
use Rattle.table.proofs.Ordered.{without_file, with_file}
use Rattle.table.proofs.Fragments.{length_fragments, in_order, total_all, sound_ordered, all_inside}

-- a table in order that has a fragment
module _ (w : List ℕ) (t : Bool) (passed : t ≡ passes None w) (s : t ≡ true) (n : ℕ) (k : n ≡ count_of w) where
  some : (m : ℕ) → (m ≡ 0 → ⊥) → 0 < m
  some zero y = absurd (y refl)
  some (suc m) y = omega arith

  pub up_asks : (n ≡ 0 → ⊥) → (0 < count_of w) × (count_of w ≤ table_limit)
  up_asks z = (some (count_of w) (λ y. z (k ∙ y)), (in_order w (sym (passed ∙ without_file w) ∙ s)).few)

-- so many fragments of a file that is not too long have far less data than a word can count
room : (f w : List ℕ) → length f ≤ file_limit → sound f w ≡ true → total_in w ≤ table_limit * file_limit
room f w l s =
    let all : total (blocks_in w) ≤ length (blocks_in w) * file_limit = total_bound f file_limit (blocks_in w) (omega arith) (all_inside w f s) in
    let few : length (blocks_in w) ≤ table_limit = omega (arith, length_fragments w (count_of w), (sound_ordered w f s).few) in
    omega (arith, all, total_all w (sound_ordered w f s))

-- a sound one that has a free place
module _ (f w : List ℕ) (a : ℕ) (l : length f ≤ file_limit) (t : Bool) (passed : t ≡ passes (Some (length f)) w) (n : t ≡ true)
    (b : Block) (h : block_at id_dt f a ≡ answer b) (c : ℕ) (q : c ≡ count_of w) where
  pub extend_asks : c < table_limit → (count_of w < table_limit) × (total_in w + b.size < 18446744073709551616)
  extend_asks m =
      let s : sound f w ≡ true = sym (passed ∙ with_file f w) ∙ n in
      (omega arith, omega (arith, room f w l s, (block_stands id_dt f a b h).1.inside))
