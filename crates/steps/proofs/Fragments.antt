-- The ways on which a fragment is refused, and what an answer tells of it.
use mathlib.Core.Path.{◌≡◌, sym}
use mathlib.Core.Bool.{false, not}
use mathlib.Core.List.{List}
use Prim.Native.Nat.{ℕ, ◌+◌, ◌*◌, ◌≤◌}
use lib.ListN.{length}
use Rattle.definitions.specs.Reply.{answer, refusal}
use Rattle.definitions.specs.Bytes.{u64_at}
use Rattle.definitions.specs.DataList.{DataList}
use Rattle.definitions.specs.Chain.{Block, block_at, declared, judged, fragment_of}
use Rattle.places.proofs.Answers.{passed, followed, answered}
use Rattle.places.proofs.Blocks.{block_stands}

module _ (id f s : List ℕ) (d : DataList) (i p a : ℕ) (link : a ≡ u64_at s (d.links_at + i * 8)) where
  pub fragment_refused_law : (n t : ℕ) → block_at id f a ≡ refusal n t → refusal n t ≡ fragment_of id f s d i p
  unfolding fragment_of
  fragment_refused_law n t h = rw (sym link, h)

  module _ (b : Block) (h : block_at id f a ≡ answer b) where
    pub fragment_untrue : declared s d i p b.size ≡ false → refusal 13 0 ≡ fragment_of id f s d i p
    unfolding fragment_of
    fragment_untrue t = rw (sym link, h, t)

-- the block lies in the file
pub fragment_inside : (id f s : List ℕ) (d : DataList) (i p : ℕ) (b : Block) → fragment_of id f s d i p ≡ answer b → b.address + 24 + b.size ≤ length f
unfolding fragment_of
fragment_inside id f s d i p b h =
    let read = followed (block_at id f (u64_at s (d.links_at + i * 8))) (judged s d i p) b h in
    let x = read.0 in
    let truthful = passed (not (declared s d i p x.size)) _ _ _ _ read.2 in
    let e : x.address + 24 + x.size ≤ length f = (block_stands id f (u64_at s (d.links_at + i * 8)) x read.1).1.inside in
    rw (answered truthful.1) at e
