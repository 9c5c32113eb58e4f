-- A block is taken at an address exactly where it stands there, a fragment exactly where its list tells the truth of it, and a
-- list exactly where it stands and agrees.
use Rattle.std.specs.Prelude.{if◌then◌else◌}
use mathlib.Core.Path.{◌≡◌, refl, sym, ap, ◌∙◌}
use mathlib.Core.Bool.{Bool, true, false, not, ◌&&◌}
use mathlib.Core.Logic.{◌⊎◌, inl, inr}
use mathlib.Core.List.{List}
use Prim.Native.Nat.{ℕ, ◌+◌, ◌-◌, ◌*◌, ◌≤◌, ◌<◌}
use native.Mathlib.Omega.{arith}
use lib.ListN.{length, drop}
use lib.Dec.{ltb, leb, eqb}
use borrow.Author.Tests.{leb-true, leb-false, ltb-false, eqb-true, eqb-false, not-false, le-leb, le-ltb, eq-eqb, ne_eqb}
use Rattle.definitions.specs.Reply.{answer}
use Rattle.definitions.specs.Bytes.{u64_at, bit}
use Rattle.definitions.specs.DataList.{DataList, one_length, list_of}
use Rattle.definitions.specs.Chain.{Block, fragment_limit, has_header, block_at, is_last, judged, declared, fragment_of, agrees, admitted, list_at}
use Rattle.definitions.specs.Accepted.{BlockStands, Truthful}
use Rattle.definitions.proofs.Replies.{both}
use Rattle.places.proofs.Addresses.{header_there}
use Rattle.places.proofs.Answers.{passed, followed}
use Rattle.places.proofs.Blocks.{block_stands}

has_header_law : (f : List ℕ) (a : ℕ) → 0 < a → a + 24 ≤ length f → has_header f a ≡ true
has_header_law f a h l =
    let z : a ≡ 0 → ⊥ = λ e. omega arith in
    rw (ne_eqb _ _ z, le-leb _ _ l)

pub unset : (flags : ℕ) → (bit flags 0 ≡ 1 → ⊥) → bit flags 0 ≡ 0
unset flags h = omega arith

-- the walk's test of a fragment, by the flag and by whether another fragment or list follows, is that the list tells the truth
module _ (s : List ℕ) (d : DataList) (p i more n : ℕ) (here : i + 1 + more ≡ d.links) where
  abbrev Test : Bool → Bool → Bool
  Test one last =
      if one then (if last then leb n (u64_at s d.rest_at) else eqb n (u64_at s d.rest_at))
      else eqb (u64_at s (d.rest_at + i * 8)) p

  -- nothing follows the last one
  none_behind : {B : Type 0} → is_last d i ≡ true → (0 < more) ⊎ (0 < d.next) → B
  none_behind h (inl m) = absurd (omega (arith, leb-true d.links (i + 1) (both (eqb d.next 0) (leb d.links (i + 1)) h).1))
  none_behind h (inr m) = absurd (omega (arith, eqb-true d.next 0 (both (eqb d.next 0) (leb d.links (i + 1)) h).0))

  behind_by : (t : Bool) → eqb d.next 0 ≡ t → (t && leb d.links (i + 1)) ≡ false → (0 < more) ⊎ (0 < d.next)
  behind_by true e h = inl (omega (arith, leb-false d.links (i + 1) h))
  behind_by false e h = inr (omega (arith, eqb-false d.next 0 e))

  -- and something follows any other
  some_behind : is_last d i ≡ false → (0 < more) ⊎ (0 < d.next)
  some_behind h = behind_by (eqb d.next 0) refl h

  -- bit 0 is not both
  clash : {B : Type 0} → bit d.flags 0 ≡ 1 → bit d.flags 0 ≡ 0 → B
  clash one zero = absurd (omega arith)

  by_test : (one last : Bool) → one_length d.flags ≡ one → is_last d i ≡ last → Test one last ≡ true → Truthful s d p i more n
  by_test true true e k h = record {
    longest = λ o. leb-true _ _ h;
    full = λ o m. none_behind k m;
    offset = λ z. clash (eqb-true _ _ e) z;
  }
  by_test true false e k h =
      let same : n ≡ u64_at s d.rest_at = eqb-true _ _ h in
      record { longest = λ o. omega arith; full = λ o m. same; offset = λ z. clash (eqb-true _ _ e) z }
  by_test false last e k h = record {
    longest = λ o. absurd (eqb-false _ _ e o);
    full = λ o m. absurd (eqb-false _ _ e o);
    offset = λ z. eqb-true _ _ h;
  }

  test_true : declared s d i p n ≡ true → Truthful s d p i more n
  test_true h = by_test (one_length d.flags) (is_last d i) refl refl h

  true_tested : Truthful s d p i more n → declared s d i p n ≡ true
  true_tested t = go (one_length d.flags) (is_last d i) refl refl
    where
      go : (one last : Bool) → one_length d.flags ≡ one → is_last d i ≡ last → Test one last ≡ true
      go true true e k = le-leb _ _ (t.longest (eqb-true _ _ e))
      go true false e k = eq-eqb _ _ (t.full (eqb-true _ _ e) (some_behind k))
      go false last e k = eq-eqb _ _ (t.offset (unset d.flags (eqb-false _ _ e)))

module _ (id f : List ℕ) where
  pub block_taken : (b : Block) → BlockStands id f b → block_at id f b.address ≡ answer b
  unfolding block_at
  block_taken b h =
      let in-file = h.inside in
      let l : u64_at f (b.address + 8) ≡ 24 + b.size = h.block_length in
      let there : has_header f b.address ≡ true = has_header_law f b.address h.somewhere (omega arith) in
      let long : 24 ≤ 24 + b.size = omega arith in
      let ends : b.address + (24 + b.size) ≤ length f = omega arith in
      let less : 24 + b.size - 24 ≡ b.size = omega arith in
      rw (there, h.named, eq-eqb _ _ h.links, l, le-ltb _ _ long, le-ltb _ _ ends, less)

  module _ (s : List ℕ) (d : DataList) (i more p : ℕ) (here : i + 1 + more ≡ d.links) where
    pub fragment_stands : (b : Block) → fragment_of id f s d i p ≡ answer b
        → (u64_at s (d.links_at + i * 8) ≡ b.address) × BlockStands id f b × Truthful s d p i more b.size
    unfolding fragment_of
    fragment_stands b h =
        let g = followed (block_at id f (u64_at s (d.links_at + i * 8))) (judged s d i p) b h in
        let k = block_stands id f (u64_at s (d.links_at + i * 8)) g.0 g.1 in
        let t = passed (not (declared s d i p g.0.size)) 13 0 _ b g.2 in
        let same : g.0 ≡ b = cc in (
          rw (sym same) (sym k.0),
          rw (sym same) k.1,
          rw (sym same) (test_true s d p i more g.0.size here (not-false _ t.0)),
        )

    pub fragment_taken : (b : Block) → u64_at s (d.links_at + i * 8) ≡ b.address → BlockStands id f b → Truthful s d p i more b.size
        → fragment_of id f s d i p ≡ answer b
    unfolding fragment_of
    fragment_taken b e h t = rw (e, block_taken b h, true_tested s d p i more b.size here t)

module _ (f : List ℕ) (n a : ℕ) where
  pub list_there_law : (d : DataList) → list_at f n a ≡ answer d
      → (0 < a) × (a + 24 ≤ length f) × (list_of (drop a f) ≡ answer d) × (d.count ≡ d.links) × (d.rest_at + d.rest * 8 ≤ d.header.block_length) × (n + d.links ≤ fragment_limit)
  unfolding list_at
  list_there_law d h =
      let p = passed (not (has_header f a)) 11 0 _ d h in
      let there = header_there f a (not-false _ p.0) in
      let g = followed (list_of (drop a f)) (admitted n) d p.1 in
      let q = passed (not (agrees g.0)) 10 0 _ d g.2 in
      let r = passed (ltb fragment_limit (n + g.0.links)) 9 0 _ d q.1 in
      let same : g.0 ≡ d = cc in
      let t = both _ _ (not-false _ q.0) in
      (there.0, there.1, g.1 ∙ ap answer same, rw (sym same) (eqb-true _ _ t.0), rw (sym same) (leb-true _ _ t.1), rw (sym same) (ltb-false _ _ r.0))

  pub list_taken : (d : DataList) → 0 < a → a + 24 ≤ length f → list_of (drop a f) ≡ answer d → d.count ≡ d.links
      → d.rest_at + d.rest * 8 ≤ d.header.block_length → n + d.links ≤ fragment_limit → list_at f n a ≡ answer d
  unfolding list_at
  list_taken d h l e c b m = rw (has_header_law f a h l, e, eq-eqb _ _ c, le-leb _ _ b, le-ltb _ _ m)
