-- A payload into its buffer.
use Rattle.std.specs.Prelude.{Ok, Err}
use mathlib.Core.Path.{◌≡◌, sym, ap, ◌∙◌}
use mathlib.Core.List.{List, ◌++◌}
use Prim.Native.Nat.{ℕ, ◌≤◌, ◌<◌}
use native.Mathlib.Omega.{arith}
use lib.ListN.{length, take, drop, length-append}
use lib.Seq.{length-take-le, take-append_seam}
use borrow.Author.Tests.{le-ltb}
use Rattle.definitions.specs.Reply.{Reply, answer, refusal}
use Rattle.definitions.specs.Bytes.{span}
use Rattle.definitions.specs.Channel.{Channel}
use Rattle.definitions.specs.Chain.{joined}
use Rattle.definitions.specs.Payload.{id_sd, position_of, joined_of, payload_of, stored}
use Rattle.definitions.proofs.Replies.{writing_short}
use Rattle.refusals.specs.Meaning.{refused}
use Rattle.refusals.specs.declared.Refusal.{Refusal}
use Rattle.refusals.specs.declared.Refusal.TheVariants.{NoRoom}
use Rattle.words.proofs.Spans.{length_span}
use Rattle.records.specs.Window.{laid}
use Rattle.records.proofs.Laying.{laid_whole}
use Rattle.payloads.specs.Meaning.{Stores}
use Rattle.payloads.specs.Found.{payload_from, Lies}
use Rattle.payloads.specs.declared.payload.PayloadFound.{PayloadFound}

-- ---- the payload of a record

module _ (f : List ℕ) (link : ℕ) (s : List ℕ) (id_size : ℕ) (c : Channel) where
  pub payload_refused_law : (n t : ℕ) → position_of s id_size c ≡ refusal n t → payload_of (joined_of id_sd f link) s id_size c ≡ refusal n t
  unfolding payload_of
  payload_refused_law n t e = rw e

  pub payload_at_law : (p : ℕ) → position_of s id_size c ≡ answer p → payload_of (joined_of id_sd f link) s id_size c ≡ payload_from f link p
  unfolding payload_of
  payload_at_law p e = rw e

  -- what lies at the record's position is its payload
  pub lies_there : (p : ℕ) {x : PayloadFound} → position_of s id_size c ≡ answer p → Lies f (payload_from f link p) x → Lies f (payload_of (joined_of id_sd f link) s id_size c) x
  lies_there p e l = record { walked = l.walked; ahead = l.ahead; inside = l.inside; is = payload_at_law p e ∙ l.is }

-- ---- and the buffer

pub not_stored : (out : List ℕ) {payload : Reply (List ℕ)} (r : Refusal) → payload ≡ refused r → Stores (stored payload out) (Err r) out
not_stored out r e = record { outcome = ap (λ (q : Reply (List ℕ)). stored q out) (sym e); room = λ n x. cc }

module _ (f out : List ℕ) {payload : Reply (List ℕ)} {p : PayloadFound} (l : Lies f payload p) where
  long : length (span (joined f l.walked.blocks) p.first.0 p.length) ≡ p.length
  long = length_span _ p.first.0 p.length l.inside

  pub short_of_room : p.length < 18446744073709551616 → length out < p.length → Stores (stored payload out) (Err (NoRoom p.length)) out
  short_of_room small h =
      let bytes : List ℕ = span (joined f l.walked.blocks) p.first.0 p.length in
      record {
        outcome = writing_short out bytes bytes p.length (sym long) small h ∙ ap (λ (q : Reply (List ℕ)). stored q out) (sym l.is);
        room = λ n x. cc;
      }

  -- the window on the payload
  module _ (h : p.length ≤ length out) {r : List ℕ} (e : r ≡ laid (take p.length out) p.first.0 0 (joined f l.walked.blocks)) where
    window_is : r ≡ span (joined f l.walked.blocks) p.first.0 p.length
    window_is =
        let m : length (take p.length out) ≡ p.length = length-take-le p.length out h in
        e ∙ laid_whole (take p.length out) p.first.0 _ (omega (arith, l.inside, m)) ∙ ap (span (joined f l.walked.blocks) p.first.0) m

    length_is : length r ≡ p.length
    length_is = ap length window_is ∙ long

    front : take p.length (r ++ drop p.length out) ≡ r
    front = ap (λ (k : ℕ). take k (r ++ drop p.length out)) (sym length_is) ∙ take-append_seam r (drop p.length out)

    written : record { reply = answer r; buffer = r ++ drop p.length out } ≡ stored (answer r) out
    written =
        let fits : length r ≤ length out = omega (arith, length_is) in
        rw (le-ltb _ _ fits, length_is)

    pub stored_in_front : Stores (stored payload out) (Ok p.length) (r ++ drop p.length out)
    stored_in_front = record {
      outcome =
          ap (λ (x : List ℕ). record { reply = answer x; buffer = r ++ drop p.length out }) front ∙ written
          ∙ ap (λ (q : Reply (List ℕ)). stored q out) (ap answer window_is ∙ sym l.is);
      room = λ m x. let same : p.length ≡ m = cc in omega (arith, same, length-append r (drop p.length out), length_is);
    }
