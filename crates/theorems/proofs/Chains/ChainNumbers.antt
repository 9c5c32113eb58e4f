-- Which numbers a chain's own refusals have: 2 to 4, of the bytes of a list, and 8 to 13.
use mathlib.Core.Path.{◌≡◌, refl}
use mathlib.Core.Bool.{Bool, true, ◌&&◌, ◌||◌}
use mathlib.Core.List.{List}
use Prim.Native.Nat.{ℕ}
use lib.Dec.{leb}
use lib.ListN.{drop}
use Rattle.definitions.specs.DataList.{DataList}
use Rattle.definitions.specs.Chain.{list_limit}
use Rattle.theorems.specs.Refused.{Cause, refused, ◌or_else◌}
use Rattle.theorems.specs.BlockCauses.{list_refused}
use Rattle.theorems.specs.ChainCauses.{block_refused, fragment_refused, chained_refused, chain_refused}
use Rattle.theorems.proofs.Calls.CauseNumbers.{Within, within_one, within_else, within_first, within_provided}

abbrev pub is_of_chains : ℕ → Bool
is_of_chains n = leb 2 n && leb n 4 || leb 8 n && leb n 13

abbrev Ours : Cause → Type 0
Ours = Within is_of_chains

one : (number tells : ℕ) (P : Type 0) → is_of_chains number ≡ true → Ours (refused number tells P)
one = within_one is_of_chains

then : {c d : Cause} → Ours c → Ours d → Ours (c or_else d)
then {c} {d} = within_else is_of_chains c d

block_within : (id f : List ℕ) (a : ℕ) → Ours (block_refused id f a)
block_within id f a = then (one 11 0 _ refl) (then (one 12 0 _ refl) (then (one 12 0 _ refl) (then (one 12 0 _ refl) (one 12 0 _ refl))))

fragment_within : (id f s : List ℕ) (d : DataList) (i p : ℕ) → Ours (fragment_refused id f s d i p)
fragment_within id f s d i p = then (block_within id f _) (one 13 0 _ refl)

list_within : (s : List ℕ) → Ours (list_refused s)
list_within s = then (one 2 _ _ refl) (then (one 3 0 _ refl) (then (one 4 0 _ refl) (then (one 2 _ _ refl) (one 2 _ _ refl))))

chained_within : (f : List ℕ) (start n a : ℕ) → Ours (chained_refused f start n a)
chained_within f start n a =
    then (then (one 11 0 _ refl) (then (list_within (drop a f)) (then (one 10 0 _ refl) (one 9 0 _ refl)))) (one 13 0 _ refl)

pub chain_within : (id f : List ℕ) (start : ℕ) → Within is_of_chains (chain_refused id f start)
chain_within id f start =
    then (within_first is_of_chains list_limit _
    (λ k. within_provided is_of_chains _ _
    (then (chained_within f start _ _) (within_first is_of_chains _ _ (λ i. fragment_within id f _ _ i _)))))
    (one 8 0 _ refl)
