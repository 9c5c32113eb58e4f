-- The ways through a data block, and what an answer tells of it.
use mathlib.Core.Path.{◌≡◌, sym, ap, subst, ◌∙◌}
use mathlib.Core.Bool.{true, false, not}
use mathlib.Core.List.{List}
use Prim.Native.Nat.{ℕ, ◌+◌, ◌-◌, ◌≤◌, ◌<◌}
use native.Mathlib.Omega.{arith}
use lib.ListN.{length, drop, length-drop}
use lib.Seq.{drop-drop}
use lib.Dec.{ltb, eqb}
use borrow.Author.Tests.{eq-eqb, ne_eqb, lt-ltb, le-ltb, ltb-false, eqb-true, not-false}
use Rattle.definitions.specs.Reply.{answer, refusal}
use Rattle.definitions.specs.Bytes.{u64_at, id_at}
use Rattle.definitions.specs.Header.{Header, header_of, header_in}
use Rattle.definitions.specs.Chain.{Block, has_header, block_at}
use Rattle.definitions.proofs.Replies.{not_answered}
use Rattle.blocks.proofs.Headers.{header_met, header_answered}
use Rattle.definitions.specs.Accepted.{BlockStands}
use Rattle.places.proofs.Addresses.{header_there}
use Rattle.places.proofs.Answers.{passed, answered}

module _ (id f : List ℕ) (a : ℕ) where
  pub block_nowhere : has_header f a ≡ false → refusal 11 0 ≡ block_at id f a
  unfolding block_at
  block_nowhere h = rw h

  module _ (there : has_header f a ≡ true) where
    -- its header is not refused
    pub header_stands : {B : Type 0} (n t : ℕ) → header_of (drop a f) ≡ refusal n t → B
    header_stands n t h =
        not_answered (header_in (drop a f)) n t (sym h ∙ header_met (drop a f) (omega (arith, length-drop a f, header_there f a there)))

    pub block_other : id_at f a id ≡ false → refusal 12 0 ≡ block_at id f a
    unfolding block_at
    block_other i = rw (there, i)

  -- a block that is read stands there
  pub block_stands : (b : Block) → block_at id f a ≡ answer b → (b.address ≡ a) × BlockStands id f b
  unfolding block_at
  block_stands b h =
      let there = passed (not (has_header f a)) _ _ _ _ h in
      let named = passed (not (id_at f a id)) _ _ _ _ there.1 in
      let unlinked = passed (not (eqb (u64_at f (a + 16)) 0)) _ _ _ _ named.1 in
      let enough = passed (ltb (u64_at f (a + 8)) 24) _ _ _ _ unlinked.1 in
      let whole = passed (ltb (length f) (a + u64_at f (a + 8))) _ _ _ _ enough.1 in
      let room = header_there f a (not-false _ there.0) in
      let l : 24 ≤ u64_at f (a + 8) = ltb-false _ _ enough.0 in
      let m : a + u64_at f (a + 8) ≤ length f = ltb-false _ _ whole.0 in
      let stands : BlockStands id f (record { address = a; size = u64_at f (a + 8) - 24 }) = record {
        somewhere = room.0;
        inside = omega arith;
        named = not-false _ named.0;
        links = eqb-true _ _ (not-false _ unlinked.0);
        block_length = omega arith;
      } in
      (sym (ap (λ (x : Block). x.address) (answered whole.1)), subst (BlockStands id f) (answered whole.1) stands)

-- a block with the wanted id, and what its header x tells
pub record Named (id f : List ℕ) (a : ℕ) (x : Header) : Type 0 where
  pub there : has_header f a ≡ true
  pub named : id_at f a id ≡ true
  pub links : x.link_count ≡ u64_at f (a + 16)
  pub long : x.block_length ≡ u64_at f (a + 8)

module _ (id f : List ℕ) (a : ℕ) (x : Header) where
  u64_from : (n : ℕ) → u64_at (drop a f) n ≡ u64_at f (a + n)
  u64_from n = rw drop-drop

  pub block_named : has_header f a ≡ true → header_of (drop a f) ≡ answer x → id_at f a id ≡ true → Named id f a x
  block_named there h i =
      let e : x ≡ header_in (drop a f) = (header_answered _ _ h).1 in
      record {
        there = there;
        named = i;
        links = ap (λ (y : Header). y.link_count) e ∙ u64_from 16;
        long = ap (λ (y : Header). y.block_length) e ∙ u64_from 8;
      }

  module _ (b : Named id f a x) where
    pub block_linked : (x.link_count ≡ 0 → ⊥) → refusal 12 0 ≡ block_at id f a
    unfolding block_at
    block_linked z = rw (b.there, b.named, ne_eqb _ _ (λ e. z (b.links ∙ e)))

    module _ (z : x.link_count ≡ 0) where
      pub block_short : x.block_length < 24 → refusal 12 0 ≡ block_at id f a
      unfolding block_at
      block_short l = rw (b.there, b.named, eq-eqb _ _ (sym b.links ∙ z), sym b.long, lt-ltb _ _ l)

      module _ (l : 24 ≤ x.block_length) where
        pub block_cut : ltb (length f) (a + x.block_length) ≡ true → refusal 12 0 ≡ block_at id f a
        unfolding block_at
        block_cut m = rw (b.there, b.named, eq-eqb _ _ (sym b.links ∙ z), sym b.long, le-ltb _ _ l, m)

        pub block_read : ltb (length f) (a + x.block_length) ≡ false → answer (record { address = a; size = x.block_length - 24 }) ≡ block_at id f a
        unfolding block_at
        block_read m = rw (b.there, b.named, eq-eqb _ _ (sym b.links ∙ z), sym b.long, le-ltb _ _ l, m)
