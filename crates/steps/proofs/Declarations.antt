-- What a list declares for its chain, and which lists keep to it.
use mathlib.Core.Path.{◌≡◌, refl, sym, ap₂}
use mathlib.Core.Bool.{Bool, true, false, true≢false, not}
use mathlib.Core.List.{List, []}
use Prim.Native.Nat.{ℕ}
use native.Mathlib.Omega.{arith}
use lib.ListN.{drop}
use lib.Dec.{eqb}
use borrow.Author.Tests.{eq-eqb, le-leb, eqb-true, not-false}
use Rattle.definitions.specs.Reply.{Reply, answer, refusal, and_then}
use Rattle.definitions.specs.DataList.{DataList}
use Rattle.definitions.specs.Chain.{Declaration, by_length, by_offsets, declaration_of, keeps_to, list_at, chained_at, lists, list_limit, chain_of}
use Rattle.definitions.proofs.Replies.{both}
use Rattle.places.specs.Places.{opened}
use Rattle.steps.specs.Steps.{declaration_in, declared_at}
use Rattle.places.specs.declared.place.FileAddress.{FileAddress}
use Rattle.places.proofs.Answers.{passed, followed, answered}

-- ---- to keep to a declaration

pub keeps_itself : (last : Bool) (x : Declaration) → keeps_to x last x ≡ true
keeps_itself true (by_length n c) = rw (eq-eqb n n refl) (le-leb c c (omega arith))
keeps_itself false (by_length n c) = rw (eq-eqb n n refl) (eq-eqb c c refl)
keeps_itself last by_offsets = refl

-- a list that keeps to it and is not the last declares the same
pub kept_same : (first x : Declaration) → keeps_to first false x ≡ true → x ≡ first
kept_same (by_length n c) (by_length m k) h =
    let p = both (eqb m n) (eqb k c) h in
    ap₂ by_length (eqb-true m n p.0) (eqb-true k c p.1)
kept_same (by_length n c) by_offsets h = absurd (true≢false (sym h))
kept_same by_offsets (by_length m k) h = absurd (true≢false (sym h))
kept_same by_offsets by_offsets h = refl

-- ---- a list of the chain

-- what is kept of a list declares what the list does
pub declares_kept : (f : List ℕ) (a : FileAddress) (d : DataList) → d.count ≡ d.links → declaration_in f (opened a d) ≡ declaration_of (drop a.0 f) d
declares_kept f a d e = rw e

module _ (first : Declaration) (f : List ℕ) (n a : ℕ) where
  pub chained_refused_law : (k t : ℕ) → list_at f n a ≡ refusal k t → refusal k t ≡ chained_at first f n a
  unfolding chained_at
  chained_refused_law k t h = rw h

  module _ (d : DataList) where
    module _ (h : list_at f n a ≡ answer d) where
      pub chained_untrue : keeps_to first (eqb d.next 0) (declaration_of (drop a f) d) ≡ false → refusal 13 0 ≡ chained_at first f n a
      unfolding chained_at
      chained_untrue k = rw (h, k)

      pub chained_kept : keeps_to first (eqb d.next 0) (declaration_of (drop a f) d) ≡ true → answer d ≡ chained_at first f n a
      unfolding chained_at
      chained_kept k = rw (h, k)

    pub chained_answer : chained_at first f n a ≡ answer d → (list_at f n a ≡ answer d) × (keeps_to first (eqb d.next 0) (declaration_of (drop a f) d) ≡ true)
    unfolding chained_at
    chained_answer h =
        let read = followed (list_at f n a) _ d h in
        let x = read.0 in
        let kept = passed (not (keeps_to first (eqb x.next 0) (declaration_of (drop a f) x))) _ _ _ _ read.2 in
        let e : (list_at f n a ≡ answer x) × (keeps_to first (eqb x.next 0) (declaration_of (drop a f) x) ≡ true) = (read.1, not-false _ kept.0) in
        rw (answered kept.1) at e

-- ---- the first list

-- the chain is that of all lists, the first among them
chain_by : (id f : List ℕ) (start : ℕ) (r : Reply DataList) → list_at f 0 start ≡ r
    → and_then r (λ d. lists id f (declaration_of (drop start f) d) list_limit start []) ≡ lists id f (declared_at f start r) list_limit start []
unfolding lists chained_at
chain_by id f start (answer d) e = refl
chain_by id f start (refusal n t) e = rw e

pub chain_all : (id f : List ℕ) (start : ℕ) → chain_of id f start ≡ lists id f (declared_at f start (list_at f 0 start)) list_limit start []
unfolding chain_of
chain_all id f start = chain_by id f start (list_at f 0 start) refl
