-- A call that fetches a payload ends in one of the ways of the table, whatever it is given.
use Rattle.std.specs.Prelude.{if◌then◌else◌}
use mathlib.Core.Path.{◌≡◌, refl, sym, ap, subst, ◌∙◌}
use mathlib.Core.Bool.{Bool, true, false, not, ◌&&◌, true≢false}
use mathlib.Core.List.{List}
use Prim.Native.Nat.{ℕ, ◌+◌, ◌*◌, ◌≤◌, ◌<◌}
use native.Mathlib.Omega.{arith}
use lib.ListN.{length, drop}
use lib.Dec.{ltb, eqb}
use borrow.Author.Tests.{eq-eqb, ne_eqb, le-ltb, eqb-true, eqb-false, ltb-true, ltb-false, not-true}
use Rattle.definitions.specs.Reply.{Reply, Outcome, answer, refusal, and_then}
use Rattle.definitions.specs.DataType.{Kind, integer, floating, whole, undecoded, kind_of}
use Rattle.definitions.specs.Channel.{Channel, Group, Value, variable_length, span_in, decoded, is_number, value_by, value_of}
use Rattle.definitions.specs.Chain.{joined, fetched}
use Rattle.definitions.specs.Payload.{id_sd, holds_position, joined_of, stored, PayloadValue, Outcomes, payload_value_of, payload_behind, payload_fetched}
use Rattle.definitions.proofs.Replies.{not_answered, both}
use Rattle.words.proofs.Spans.{length_span}
use Rattle.places.proofs.Answers.{answered}
use Rattle.theorems.specs.Exactly.{Fetchable, Positioned, record_bytes}
use Rattle.theorems.specs.Causes.{Not}
use Rattle.theorems.specs.FetchEnds.{record_left}
use Rattle.theorems.specs.PayloadEnds.{payload_told, PayloadEnds, no_position, no_record, no_payload, no_room, no_value, a_value}
use Rattle.theorems.proofs.Blocks.Rewritten.{front_of}
use Rattle.theorems.proofs.Calls.RefusalNumbers.{Numbered, OfPayloads, of_answer, of_refusal, of_blocks_too, fetched_numbered, payload_numbered}
use Rattle.theorems.proofs.Calls.Answers.{fetched_exactly, fetched_record}
use Rattle.theorems.proofs.Calls.LeftAlone.{fetch_leaves}
use Rattle.theorems.proofs.Records.FetchEnds.{outcome_is}

-- ---- the channel

module _ (c : Channel) where
  pub positioned : holds_position c ≡ true → Positioned c
  positioned h =
      let p = both (variable_length c && eqb c.bit_offset 0) (eqb c.bit_count 64) h in
      let q = both (variable_length c) (eqb c.bit_offset 0) p.0 in
      let v = both (eqb c.channel_type 1) (not (eqb c.data_link 0)) q.0 in
      record {
        variable = eqb-true _ _ v.0;
        linked = omega (arith, eqb-false _ _ (not-true _ v.1));
        from_first = eqb-true _ _ q.1;
        eight = eqb-true _ _ p.1;
      }

  variable_length_law : Positioned c → variable_length c ≡ true
  variable_length_law p =
      let z : c.data_link ≡ 0 → ⊥ = λ e. omega (arith, p.linked) in
      rw (eq-eqb _ _ p.variable, ne_eqb _ _ z)

  pub held : Positioned c → holds_position c ≡ true
  held p = rw (variable_length_law p, eq-eqb _ _ p.from_first, eq-eqb _ _ p.eight)

  not_positioned : holds_position c ≡ false → Not (Positioned c)
  not_positioned h p = true≢false (sym (held p) ∙ h)

-- ---- the value: of all causes only 21 is left, for a number whose payload has fewer than 8 bytes

module _ (s : List ℕ) (id_size : ℕ) (c : Channel) (p : Positioned c) where
  abbrev Replied : Kind → Reply Value → Type 0
  Replied k r = r ≡ (if is_number k && ltb (length s) 8 then refusal 21 8 else answer (decoded c.data_type s 0 (span_in true k (length s) c) c))

  by_kind : (k : Kind) → Replied k (value_by k 0 (span_in true k (length s) c) s c)
  unfolding value_by
  by_kind integer = rw (p.from_first, p.eight)
  by_kind floating = rw (p.from_first, p.eight)
  by_kind whole = rw (le-ltb (length s) (0 + length s) (omega arith))
  by_kind undecoded = rw (le-ltb (length s) (0 + length s) (omega arith))

  pub payload_replied : Replied (kind_of c.data_type) (value_of s id_size c)
  unfolding value_of
  payload_replied =
      let k : Kind = kind_of c.data_type in
      ap (λ (b : Bool). value_by k (if b then 0 else (id_size + c.byte_offset)) (span_in b k (length s) c) s c) (variable_length_law c p) ∙ by_kind k

  pub only_too_short : (n t : ℕ) → value_of s id_size c ≡ refusal n t
      → (is_number (kind_of c.data_type) ≡ true) × (length s < 8) × (n ≡ 21) × (t ≡ 8)
  only_too_short n t e = go (is_number (kind_of c.data_type)) (ltb (length s) 8) refl refl (sym payload_replied ∙ e)
    where
      go : (a b : Bool) → is_number (kind_of c.data_type) ≡ a → ltb (length s) 8 ≡ b
          → (if a && b then refusal 21 8 else answer (decoded c.data_type s 0 (span_in true (kind_of c.data_type) (length s) c) c)) ≡ refusal n t
          → (is_number (kind_of c.data_type) ≡ true) × (length s < 8) × (n ≡ 21) × (t ≡ 8)
      go true true ea eb q = (ea, ltb-true _ _ eb, cc, cc)
      go true false ea eb q = not_answered _ n t (sym q)
      go false b ea eb q = not_answered _ n t (sym q)

-- ---- the call

module _ (f : List ℕ) (start k size : ℕ) (g : Group) (c : Channel) (out room : List ℕ) where
  abbrev Ends : Type 0
  Ends = PayloadEnds f start k size g c out room (payload_fetched f start k size g c out room)

  abbrev behind : Outcome (Unit {0}) → Outcomes PayloadValue
  behind o = payload_behind (joined_of id_sd f c.data_link) size g c o room

  by_fetch : holds_position c ≡ true → payload_fetched f start k size g c out room ≡ behind (fetched f start k size out)
  unfolding payload_fetched
  by_fetch h = rw h

  -- behind a record that was fetched
  module _ (p : Positioned c) (h : Fetchable f start k size out) where
    abbrev found : Reply (List ℕ) → Outcomes PayloadValue
    found payload = record {
      reply = and_then (stored payload room).reply (payload_value_of (record_bytes f start k size out h) g c);
      record_buffer = record_left f start k size out h;
      payload_buffer = (stored payload room).buffer;
    }

    pub by_record : payload_fetched f start k size g c out room ≡ found (payload_told f start k size out h g.id_size c)
    by_record =
        let l : length (record_bytes f start k size out h) ≡ size = length_span (joined f h.blocks) (k * size) size h.inside in
        by_fetch (held c p) ∙ ap behind (fetched_record f start k size out h) ∙ rw (front_of (record_bytes f start k size out h) (drop size out) size l)

    by_value : (payload : List ℕ) → payload_told f start k size out h g.id_size c ≡ answer payload → ltb (length room) (length payload) ≡ false
        → (r : Reply Value) → value_of payload g.id_size c ≡ r → Ends
    unfolding payload_value_of
    by_value payload e fits (refusal n t) ev =
        let short = only_too_short payload g.id_size c p n t ev in
        let so : value_of payload g.id_size c ≡ refusal 21 8 = ev ∙ rw (short.2, short.3) in
        no_value h payload p e (ltb-false _ _ fits) short.0 short.1 (by_record ∙ ap found e ∙ rw (fits, so))
    by_value payload e fits (answer v) ev = a_value h payload v p e (ltb-false _ _ fits) ev (by_record ∙ ap found e ∙ rw (fits, ev))

    by_room : (payload : List ℕ) → payload_told f start k size out h g.id_size c ≡ answer payload → (b : Bool) → ltb (length room) (length payload) ≡ b → Ends
    by_room payload e true l = no_room h payload p e (ltb-true _ _ l) (by_record ∙ ap found e ∙ rw l)
    by_room payload e false l = by_value payload e l (value_of payload g.id_size c) refl

    by_payload : (r : Reply (List ℕ)) → payload_told f start k size out h g.id_size c ≡ r → Ends
    by_payload (refusal n t) e = no_payload h n t p e (by_record ∙ ap found e)
    by_payload (answer payload) e = by_room payload e (ltb (length room) (length payload)) refl

  by_reply : holds_position c ≡ true → (r : Reply (Unit {0})) → (fetched f start k size out).reply ≡ r → Ends
  by_reply holds (refusal n t) e =
      no_record n t (positioned c holds) e
      (by_fetch holds ∙ ap behind (outcome_is (fetched f start k size out) e ((fetch_leaves out f start k size).refused n t e)))
  by_reply holds (answer u) e =
      let h : Fetchable f start k size out = (fetched_exactly f start k size out).only u e in
      by_payload (positioned c holds) h (payload_told f start k size out h g.id_size c) refl

  by_position : (b : Bool) → holds_position c ≡ b → Ends
  unfolding payload_fetched
  by_position false e = no_position (not_positioned c e) (rw e)
  by_position true e = by_reply e (fetched f start k size out).reply refl

  pub payload_ends : Ends
  payload_ends = by_position (holds_position c) refl

  -- which numbers the refusals have
  as_row : {o : Outcomes PayloadValue} {r : Reply PayloadValue} {left later : List ℕ} → Numbered OfPayloads r
      → o ≡ record { reply = r; record_buffer = left; payload_buffer = later } → Numbered OfPayloads o.reply
  as_row h row = subst (λ (x : Outcomes PayloadValue). Numbered OfPayloads x.reply) (sym row) h

  as_refused : {o : Outcomes PayloadValue} (n t : ℕ) {left later : List ℕ} → OfPayloads n t
      → o ≡ record { reply = refusal n t; record_buffer = left; payload_buffer = later } → Numbered OfPayloads o.reply
  as_refused n t p row = as_row (of_refusal OfPayloads n t p) row

  by_row : (o : Outcomes PayloadValue) → PayloadEnds f start k size g c out room o → Numbered OfPayloads o.reply
  by_row o (no_position p row) = as_refused _ _ refl row
  by_row o (no_record n t p e row) = as_refused n t (of_blocks_too n t (fetched_numbered f start k size out n t e)) row
  by_row o (no_payload h n t p e row) = as_refused n t (payload_numbered f _ g.id_size c n t e) row
  by_row o (no_room h payload p e l row) = as_refused _ _ refl row
  by_row o (no_value h payload p e l number short row) = as_refused _ _ refl row
  by_row o (a_value h payload v p e l ev row) = as_row (of_answer OfPayloads _) row

  pub fetched_payload_numbered : Numbered OfPayloads (payload_fetched f start k size g c out room).reply
  fetched_payload_numbered = by_row _ payload_ends

  -- an answer comes of the last row
  pub record Answered (a : PayloadValue) : Type 0 where
    pub fetchable : Fetchable f start k size out
    pub payload : List ℕ
    pub positioned : Positioned c
    pub told : payload_told f start k size out fetchable g.id_size c ≡ answer payload
    pub fits : length payload ≤ length room
    pub value_is : value_of payload g.id_size c ≡ answer a.value

  module _ (a : PayloadValue) where
    refused_row : {o : Outcomes PayloadValue} {n t : ℕ} {left later : List ℕ} → o.reply ≡ answer a
        → o ≡ record { reply = refusal n t; record_buffer = left; payload_buffer = later } → Answered a
    refused_row {n = n} {t = t} e row = not_answered a n t (sym (ap (λ (x : Outcomes PayloadValue). x.reply) row) ∙ e)

    answered_row : (o : Outcomes PayloadValue) → PayloadEnds f start k size g c out room o → o.reply ≡ answer a → Answered a
    answered_row o (no_position p row) e = refused_row e row
    answered_row o (no_record n t p r row) e = refused_row e row
    answered_row o (no_payload h n t p r row) e = refused_row e row
    answered_row o (no_room h payload p r l row) e = refused_row e row
    answered_row o (no_value h payload p r l number short row) e = refused_row e row
    answered_row o (a_value h payload v p r fits ev row) e =
        let same : v ≡ a.value = ap (λ (x : PayloadValue). x.value) (answered (sym (ap (λ (x : Outcomes PayloadValue). x.reply) row) ∙ e)) in
        record { fetchable = h; payload = payload; positioned = p; told = r; fits = fits; value_is = ev ∙ ap answer same }

    pub payload_answered : (payload_fetched f start k size g c out room).reply ≡ answer a → Answered a
    payload_answered = answered_row _ payload_ends
