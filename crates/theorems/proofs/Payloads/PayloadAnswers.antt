-- When a call that fetches a payload answers, exactly.
use Rattle.std.specs.Prelude.{if◌then◌else◌}
use mathlib.Core.Path.{◌≡◌, refl, sym, ap, ◌∙◌}
use mathlib.Core.Bool.{Bool, true, false, ◌&&◌}
use mathlib.Core.List.{List}
use Prim.Native.Nat.{ℕ, ◌+◌, ◌*◌, ◌≤◌}
use native.Mathlib.Omega.{arith}
use lib.ListN.{length}
use lib.Dec.{ltb}
use borrow.Author.Tests.{le-ltb, ltb-false}
use Rattle.definitions.specs.Reply.{answer, refusal}
use Rattle.definitions.specs.Bytes.{span, u32_at, u64_at}
use Rattle.definitions.specs.DataType.{kind_of}
use Rattle.definitions.specs.Channel.{Channel, Group, Value, is_number, span_in, decoded, value_of, valid_of}
use Rattle.definitions.specs.Chain.{Block, joined, chain_of}
use Rattle.definitions.specs.Payload.{id_sd, position_of, payload_at, joined_of, payload_of, PayloadValue, Outcomes, payload_value_of, payload_fetched}
use Rattle.definitions.proofs.Replies.{not_answered}
use Rattle.words.proofs.Spans.{length_span}
use Rattle.places.proofs.Answers.{answered, followed, passed}
use Rattle.theorems.specs.Exactly.{Exactly, record_bytes, PayloadFetchable}
use Rattle.theorems.proofs.Chains.AcceptedChains.{accepted, accepts}
use Rattle.theorems.proofs.Payloads.PayloadEnds.{payload_replied, by_record, Answered, payload_answered}

-- ---- the payload of a record s

-- where it lies, and how long it is
pub record Found (f s : List ℕ) (id_size : ℕ) (c : Channel) (payload : List ℕ) : Type 0 where
  pub within : id_size + c.byte_offset + 8 ≤ length s
  pub blocks : List Block
  pub chained : chain_of id_sd f c.data_link ≡ answer blocks
  pub inside : u64_at s (id_size + c.byte_offset) + 4 + u32_at (joined f blocks) (u64_at s (id_size + c.byte_offset)) ≤ length (joined f blocks)
  pub is : payload ≡ span (joined f blocks) (u64_at s (id_size + c.byte_offset) + 4) (u32_at (joined f blocks) (u64_at s (id_size + c.byte_offset)))

module _ (f s : List ℕ) (id_size : ℕ) (c : Channel) where
  pub told_found : (payload : List ℕ) → Found f s id_size c payload → payload_of (joined_of id_sd f c.data_link) s id_size c ≡ answer payload
  unfolding payload_of position_of joined_of payload_at
  told_found payload q =
      let at : ℕ = u64_at s (id_size + c.byte_offset) in
      let before : at + 4 ≤ length (joined f q.blocks) = omega (arith, q.inside) in
      rw (le-ltb _ _ q.within, q.chained, le-ltb _ _ before, le-ltb _ _ q.inside, q.is)

  at_position : (p : ℕ) → position_of s id_size c ≡ answer p → (id_size + c.byte_offset + 8 ≤ length s) × (u64_at s (id_size + c.byte_offset) ≡ p)
  unfolding position_of
  at_position p e =
      let there = passed (ltb (length s) (id_size + c.byte_offset + 8)) 21 _ _ p e in
      (ltb-false (length s) (id_size + c.byte_offset + 8) there.0, answered there.1)

  lies_in : (j payload : List ℕ) (p : ℕ) → payload_at j p ≡ answer payload → (p + 4 + u32_at j p ≤ length j) × (payload ≡ span j (p + 4) (u32_at j p))
  unfolding payload_at
  lies_in j payload p e =
      let long = passed (ltb (length j) (p + 4)) 23 0 _ payload e in
      let full = passed (ltb (length j) (p + 4 + u32_at j p)) 23 0 _ payload long.1 in
      (ltb-false (length j) (p + 4 + u32_at j p) full.0, sym (answered full.1))

  found_at : (j payload : List ℕ) (p : ℕ) (bs : List Block) → (id_size + c.byte_offset + 8 ≤ length s) × (u64_at s (id_size + c.byte_offset) ≡ p)
      → chain_of id_sd f c.data_link ≡ answer bs → joined f bs ≡ j → payload_at j p ≡ answer payload → Found f s id_size c payload
  found_at j payload p bs at chained whole e =
      let lies = lies_in j payload p e in
      record {
        within = at.0;
        blocks = bs;
        chained = chained;
        inside = rw (at.1, whole) lies.0;
        is = lies.1 ∙ rw (at.1, whole);
      }

  pub found_told : (payload : List ℕ) → payload_of (joined_of id_sd f c.data_link) s id_size c ≡ answer payload → Found f s id_size c payload
  unfolding payload_of joined_of
  found_told payload e =
      let read = followed (position_of s id_size c) _ payload e in
      let bytes = followed (joined_of id_sd f c.data_link) _ payload read.2 in
      let chain = followed (chain_of id_sd f c.data_link) _ bytes.0 bytes.1 in
      found_at bytes.0 payload read.0 chain.0 (at_position read.0 read.1) chain.1 (answered chain.2) bytes.2

-- ---- the call

module _ (f : List ℕ) (start k size : ℕ) (g : Group) (c : Channel) (out room : List ℕ) where
  -- from an answer
  module _ (a : PayloadValue) (r : Answered f start k size g c out room a) where
    abbrev at : ℕ
    at = u64_at (record_bytes f start k size out r.fetchable) (g.id_size + c.byte_offset)

    lies : Found f (record_bytes f start k size out r.fetchable) g.id_size c r.payload
    lies = found_told f (record_bytes f start k size out r.fetchable) g.id_size c r.payload r.told

    as_long : length r.payload ≡ u32_at (joined f lies.blocks) at
    as_long = ap length lies.is ∙ length_span (joined f lies.blocks) (at + 4) _ lies.inside

    enough : is_number (kind_of c.data_type) ≡ true → (b : Bool) → ltb (length r.payload) 8 ≡ b → 8 ≤ u32_at (joined f lies.blocks) at
    enough number true l = not_answered a.value 21 8 (sym (payload_replied r.payload g.id_size c r.positioned ∙ rw (number, l)) ∙ r.value_is)
    enough number false l = omega (arith, as_long, ltb-false (length r.payload) 8 l)

    of_answer : PayloadFetchable f start k size g.id_size c out room
    of_answer = record {
      positioned = r.positioned;
      fetchable = r.fetchable;
      within = omega (arith, lies.within, length_span (joined f r.fetchable.blocks) (k * size) size r.fetchable.inside);
      blocks = lies.blocks;
      accepted = accepted id_sd f c.data_link lies.blocks lies.chained;
      position = at;
      told = refl;
      n = u32_at (joined f lies.blocks) at;
      length_is = refl;
      inside = lies.inside;
      fits = omega (arith, r.fits, as_long);
      enough = λ number. enough number (ltb (length r.payload) 8) refl;
    }

  -- and back
  module _ (q : PayloadFetchable f start k size g.id_size c out room) where
    abbrev payload : List ℕ
    payload = span (joined f q.blocks) (q.position + 4) q.n

    found : Found f (record_bytes f start k size out q.fetchable) g.id_size c payload
    found = record {
      within = omega (arith, q.within, length_span (joined f q.fetchable.blocks) (k * size) size q.fetchable.inside);
      blocks = q.blocks;
      chained = accepts id_sd f c.data_link q.blocks q.accepted;
      inside = rw (q.told, q.length_is) q.inside;
      is = rw (q.told, q.length_is);
    }

    long : length payload ≡ q.n
    long = length_span (joined f q.blocks) (q.position + 4) q.n q.inside

    not_short : (b : Bool) → is_number (kind_of c.data_type) ≡ b → b && ltb (length payload) 8 ≡ false
    not_short true e = le-ltb (length payload) 8 (omega (arith, long, q.enough e))
    not_short false e = refl

    abbrev value : Value
    value = decoded c.data_type payload 0 (span_in true (kind_of c.data_type) (length payload) c) c

    value_is : value_of payload g.id_size c ≡ answer value
    value_is =
        payload_replied payload g.id_size c q.positioned
        ∙ ap (λ (b : Bool). if b then refusal 21 8 else answer value) (not_short (is_number (kind_of c.data_type)) refl)

    -- what is answered
    abbrev judged : PayloadValue
    judged = record { value = value; valid = valid_of (record_bytes f start k size out q.fetchable) g c; size = length payload }

    replied : (payload_fetched f start k size g c out room).reply ≡ answer judged
    unfolding payload_value_of
    replied =
        let told = told_found f (record_bytes f start k size out q.fetchable) g.id_size c payload found in
        let fits : length payload ≤ length room = omega (arith, long, q.fits) in
        ap (λ (o : Outcomes PayloadValue). o.reply) (by_record f start k size g c out room q.positioned q.fetchable)
        ∙ rw (told, le-ltb _ _ fits, value_is)

  pub payload_exactly : Exactly (PayloadFetchable f start k size g.id_size c out room) (payload_fetched f start k size g c out room).reply
  payload_exactly = record { answers = λ q. (judged q, replied q); only = λ a e. of_answer a (payload_answered f start k size g c out room a e) }
