-- The payload at a position of the joined data.
use Rattle.std.specs.Prelude.{Ok, Err}
use mathlib.Core.Path.{◌≡◌, refl, sym, ap, ◌∙◌}
use mathlib.Core.Bool.{true, false}
use mathlib.Core.List.{List, [], ◌∷◌}
use Prim.Native.Nat.{ℕ, ◌+◌, ◌≤◌, ◌<◌}
use native.Mathlib.Omega.{arith}
use lib.ListN.{length}
use lib.Seq.{take_all}
use lib.Dec.{leb}
use borrow.Author.Tests.{lt-ltb, le-ltb, leb-true, leb-false}
use Rattle.definitions.specs.Reply.{answer, refusal}
use Rattle.definitions.specs.Bytes.{le_of, span, u32_at}
use Rattle.definitions.specs.Chain.{Block, file_limit, joined, chain_of, total_of, length_by}
use Rattle.definitions.specs.Payload.{id_sd, payload_at, joined_of}
use Rattle.refusals.specs.Meaning.{refused}
use Rattle.chain.specs.Located.{Locates}
use Rattle.chain.specs.Walk.{Walked}
use Rattle.places.specs.declared.place.DataPosition.{DataPosition}
use Rattle.chain.specs.declared.acceptance.Located.{Located}
use Rattle.refusals.specs.declared.Refusal.{Refusal}
use Rattle.places.proofs.Answers.{unfollowed}
use Rattle.chain.proofs.Walks.{length_total}
use Rattle.words.proofs.Spans.{length_span}
use Rattle.records.specs.Window.{laid}
use Rattle.records.proofs.Laying.{laid_whole}
use Rattle.records.proofs.Records.{whole}
use Rattle.payloads.specs.Found.{payload_from, HasLength, Lies}
use Rattle.payloads.specs.declared.payload.LengthRead.{LengthRead}

-- ---- the length

-- a number of four bytes is that of the window on them
pub length_laid : (j : List ℕ) (p : ℕ) {bytes : List ℕ} {r : ℕ} → p + 4 ≤ length j → bytes ≡ laid (0 ∷ 0 ∷ 0 ∷ 0 ∷ []) p 0 j
    → r ≡ u32_at bytes 0 → r ≡ u32_at j p
length_laid j p h eb er =
    let four : span (span j p 4) 0 4 ≡ span j p 4 = take_all 4 (span j p 4) (omega (arith, length_span j p 4 h)) in
    er ∙ ap (λ (b : List ℕ). u32_at b 0) (eb ∙ laid_whole (0 ∷ 0 ∷ 0 ∷ 0 ∷ []) p j h) ∙ ap le_of four

-- ---- in the joined data

module _ (j : List ℕ) (p : ℕ) where
  length_past : length j < p + 4 → payload_at j p ≡ refusal 23 0
  unfolding payload_at
  length_past h = rw (lt-ltb _ _ h)

  module _ (h : p + 4 ≤ length j) where
    payload_past : length j < p + 4 + u32_at j p → payload_at j p ≡ refusal 23 0
    unfolding payload_at
    payload_past l = rw (le-ltb _ _ h, lt-ltb _ _ l)

    payload_inside : p + 4 + u32_at j p ≤ length j → payload_at j p ≡ answer (span j (p + 4) (u32_at j p))
    unfolding payload_at
    payload_inside l = rw (le-ltb _ _ h, le-ltb _ _ l)

-- ---- in that of a chain

module _ (f : List ℕ) (start : ℕ) (short : length f ≤ file_limit) where
  pub chain_refused_law : (p : ℕ) (r : Refusal) → Locates id_sd f start p (length_by id_sd f start) (Err r) → payload_from f start p ≡ refused r
  unfolding joined_of total_of
  chain_refused_law p r found = rw (unfollowed (chain_of id_sd f start) _ _ _ (length_total f start id_sd short ∙ sym found.replied))

  -- a chain that is accepted, and a place that is not behind the position p
  module _ (p : ℕ) {l : Located} (found : Locates id_sd f start p (length_by id_sd f start) (Ok l)) where
    accepted : (bs : List Block) × (chain_of id_sd f start ≡ answer bs) × (length (joined f bs) ≡ l.total.0)
    accepted = whole id_sd f start l.total.0 (length_total f start id_sd short ∙ sym found.replied)

    pub on_the_way : Walked id_sd f l.place
    on_the_way =
        let kept = found.place l refl in
        record { start = start; before = kept.0; blocks = accepted.0; at = kept.1; whole = accepted.1 }

    pub ahead : l.place.position.0 ≤ p
    ahead = (found.place l refl).2

    as_long : length (joined f on_the_way.blocks) ≡ l.total.0
    unfolding on_the_way
    as_long = accepted.2

    in_chain : payload_from f start p ≡ payload_at (joined f on_the_way.blocks) p
    unfolding joined_of on_the_way
    in_chain = rw accepted.1

    pub found_no_length : leb (p + 4) l.total.0 ≡ false → payload_from f start p ≡ refusal 23 0
    found_no_length h = in_chain ∙ length_past _ p (omega (arith, as_long, leb-false (p + 4) l.total.0 h))

    module _ (h : leb (p + 4) l.total.0 ≡ true) {first : DataPosition} {read : LengthRead} (ef : first.0 ≡ p + 4)
        (has : (w : Walked id_sd f l.place) → HasLength f w.blocks p read) where
      room : p + 4 ≤ length (joined f on_the_way.blocks)
      room = omega (arith, as_long, leb-true (p + 4) l.total.0 h)

      size_is : read.length ≡ u32_at (joined f on_the_way.blocks) p
      size_is = (has on_the_way).is room

      pub found_cut : leb (first.0 + read.length) l.total.0 ≡ false → payload_from f start p ≡ refusal 23 0
      found_cut e = in_chain ∙ payload_past _ p room (omega (arith, as_long, ef, size_is, leb-false (first.0 + read.length) l.total.0 e))

      pub found_whole : leb (first.0 + read.length) l.total.0 ≡ true
          → Lies f (payload_from f start p) (record { place = read.reached; first = first; length = read.length })
      found_whole e =
          let inside : first.0 + read.length ≤ length (joined f on_the_way.blocks) = omega (arith, as_long, leb-true (first.0 + read.length) l.total.0 e) in
          let on = (has on_the_way).on in
          record {
            walked = on.walked;
            ahead = omega (arith, on.ahead, ef);
            inside = rw on.same inside;
            is = rw on.same (in_chain ∙ payload_inside _ p room (omega (arith, inside, ef, size_is)) ∙ rw (sym ef, sym size_is));
          }
