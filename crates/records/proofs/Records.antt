-- The ways through a record that is fetched.
use Rattle.std.specs.Prelude.{if◌then◌else◌}
use mathlib.Core.Path.{◌≡◌, refl, ap, ◌∙◌}
use mathlib.Core.Bool.{Bool, true, false, ◌||◌}
use mathlib.Core.List.{List, ◌++◌}
use Prim.Native.Nat.{ℕ, suc, ◌+◌, ◌*◌, ◌/◌, ◌≤◌, ◌<◌}
use native.Mathlib.Nat.{le-div_iff_mul-le, div-lt_iff_lt-mul, suc-mul}
use native.Mathlib.Omega.{arith}
use lib.ListN.{length, take, drop}
use lib.Seq.{length-take-le}
use lib.Dec.{eqb, leb, ltb}
use borrow.Author.Tests.{eq-eqb, ne_eqb, lt-ltb, le-leb, lt-leb, ltb-true, ltb-false, eqb-false}
use Rattle.definitions.specs.Reply.{answer, refusal}
use Rattle.definitions.specs.Bytes.{span}
use Rattle.definitions.specs.Chain.{Block, file_limit, record_limit, id_dt, joined, chain_of, total_of, data_length, bad_size, record_of, fetched}
use Rattle.records.specs.Window.{laid}
use Rattle.places.proofs.Answers.{passed, followed, answered, unfollowed}
use Rattle.chain.proofs.Chains.{joined_length, chain_stands}
use Rattle.records.proofs.Laying.{laid_whole}

-- ---- a record's size

neither : (a b : Bool) → a || b ≡ false → (a ≡ false) × (b ≡ false)
neither true b h = (h, cc)
neither false b h = (refl, h)

module _ (size room : ℕ) where
  pub size_none : size ≡ 0 → true ≡ bad_size size room
  size_none z = rw (eq-eqb _ _ z)

  pub size_large : (size ≡ 0 → ⊥) → record_limit < size → true ≡ bad_size size room
  size_large z l = rw (ne_eqb _ _ z, lt-ltb _ _ l)

  pub size_good : bad_size size room ≡ false → (0 < size) × (size ≤ room)
  size_good h =
      let fits = neither (eqb size 0 || ltb record_limit size) (ltb room size) h in
      let some = neither (eqb size 0) (ltb record_limit size) fits.0 in
      omega (arith, eqb-false size 0 some.0, ltb-false room size fits.1)

-- ---- a record's end

module _ (t k size : ℕ) (z : 0 < size) where
  ends_by_law : (b : Bool) → ltb t (k * size + size) ≡ b → leb (t / size) k ≡ b
  ends_by_law true e =
      let h : t < suc k * size = omega (arith, suc-mul k size, ltb-true t (k * size + size) e) in
      let q : t / size < suc k = (div-lt_iff_lt-mul {k = size} {x = t} {y = suc k} z).1 h in
      le-leb (t / size) k (omega arith)
  ends_by_law false e =
      let h : suc k * size ≤ t = omega (arith, suc-mul k size, ltb-false t (k * size + size) e) in
      let q : suc k ≤ t / size = (le-div_iff_mul-le {k = size} {x = suc k} {y = t} z).1 h in
      lt-leb (t / size) k (omega arith)

  pub ends_is : leb (t / size) k ≡ ltb t (k * size + size)
  ends_is = ends_by_law (ltb t (k * size + size)) refl

-- ---- a record's first byte

module _ (last k size : ℕ) (z : 0 < size) where
  pub first_past : (n : ℕ) → last / size < k → k * size ≤ last → n ≡ k * size
  first_past n h l =
      let m : last < k * size = (div-lt_iff_lt-mul {k = size} {x = last} {y = k} z).0 h in
      let no : ⊥ = omega arith in
      absurd no

  pub first_fits : k ≤ last / size → k * size ≤ last
  first_fits h = (le-div_iff_mul-le {k = size} {x = k} {y = last} z).0 h

-- ---- the ways out

-- the blocks behind the length of the joined data
pub whole : (id f : List ℕ) (start n : ℕ) → total_of id f start ≡ answer n
    → (bs : List Block) × (chain_of id f start ≡ answer bs) × (length (joined f bs) ≡ n)
unfolding total_of
whole id f start n e =
    let r = followed (chain_of id f start) _ n e in
    (r.0, r.1, joined_length f r.0 (chain_stands id f start r.0 r.1).inside ∙ answered r.2)

-- and those of a file that is not too long
pub data_whole : (f : List ℕ) (start n : ℕ) → data_length f start ≡ answer n
    → (ltb file_limit (length f) ≡ false) × (bs : List Block) × (chain_of id_dt f start ≡ answer bs) × (length (joined f bs) ≡ n)
unfolding data_length
data_whole f start n e =
    let short = passed (ltb file_limit (length f)) _ _ _ _ e in
    let w = whole id_dt f start n short.1 in
    (short.0, w.0, w.1, w.2)

module _ (f : List ℕ) (start k size : ℕ) (out : List ℕ) where
  pub fetch_bad : bad_size size (length out) ≡ true → record { reply = refusal 15 0; buffer = out } ≡ fetched f start k size out
  unfolding fetched
  fetch_bad b = rw b

  module _ (good : bad_size size (length out) ≡ false) where
    refused_by : (long : Bool) → ltb file_limit (length f) ≡ long → (n t : ℕ) → (if long then refusal 7 0 else total_of id_dt f start) ≡ refusal n t
        → record { reply = refusal n t; buffer = out } ≡ fetched f start k size out
    unfolding fetched total_of
    refused_by true l n t e = rw (good, l) (cc)
    refused_by false l n t e = rw (good, l, unfollowed (chain_of id_dt f start) _ n t e)

    pub fetch_refused : (n t : ℕ) → data_length f start ≡ refusal n t → record { reply = refusal n t; buffer = out } ≡ fetched f start k size out
    unfolding data_length
    fetch_refused n t e = refused_by (ltb file_limit (length f)) refl n t e

    module _ (n : ℕ) (e : data_length f start ≡ answer n) where
      pub fetch_behind : ltb n (k * size + size) ≡ true → record { reply = refusal 16 0; buffer = out } ≡ fetched f start k size out
      unfolding fetched record_of
      fetch_behind h = let w = data_whole f start n e in rw (good, w.0, w.2, w.3, h)

      -- the window on the record, in the front of the buffer
      pub fetch_record : (r : List ℕ) (from : ℕ) → ltb n (k * size + size) ≡ false → from ≡ k * size → r ≡ laid (take size out) from 0 (joined f (data_whole f start n e).1)
          → record { reply = answer tt; buffer = r ++ drop size out } ≡ fetched f start k size out
      unfolding fetched record_of
      fetch_record r from h first is =
          let w = data_whole f start n e in
          let j : List ℕ = joined f w.1 in
          let m : length (take size out) ≡ size = length-take-le size out (size_good size (length out) good).1 in
          let inside : from + length (take size out) ≤ length j = omega (arith, w.3, ltb-false n (k * size + size) h) in
          let front : r ≡ span j (k * size) size = is ∙ laid_whole (take size out) from j inside ∙ ap (span j from) m ∙ ap (λ (x : ℕ). span j x size) first in
          rw (good, w.0, w.2, w.3, h, front)
