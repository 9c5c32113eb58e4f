-- No definition is met by refusing always: each answers exactly where its condition holds.
use Rattle.std.specs.Prelude.{if◌then◌else◌}
use mathlib.Core.Path.{◌≡◌, refl, sym, ap, ◌∙◌, subst}
use mathlib.Core.Logic.{◌⊎◌, inl, inr}
use mathlib.Core.Bool.{Bool, true, false, not, ◌&&◌, ◌||◌, true≢false}
use mathlib.Core.List.{List, ◌++◌}
use Prim.Native.Nat.{ℕ, ◌+◌, ◌*◌, ◌≤◌, ◌<◌}
use native.Mathlib.Omega.{arith}
use lib.ListN.{length, drop}
use lib.Dec.{ltb, eqb}
use borrow.Author.Tests.{ltb-true, ltb-false, lt-ltb, le-ltb, eqb-true, eqb-false, not-false, ne_eqb, eq-eqb}
use Rattle.std.proofs.lemmas.Bool.{or_parts, or_cases}
use Rattle.definitions.specs.Reply.{Reply, Outcome, answer, refusal, and_then, told, writing, on_answer}
use Rattle.definitions.specs.Bytes.{span}
use Rattle.definitions.specs.Unicode.{Encoding, text_of, written_text, text_written}
use Rattle.definitions.specs.Header.{Header, header_in, header_of, header_bytes, header_written}
use Rattle.definitions.specs.DataType.{Kind, integer, floating, whole, undecoded, kind_of}
use Rattle.definitions.specs.DataList.{Lengths, equal, variable, link_limit, list_of, list_bytes, list_size, flags_for, rest_for, unwritable, list_written}
use Rattle.definitions.specs.ChannelBlock.{ChannelBlock, channel_block_of, channel_bytes, channel_written}
use Rattle.definitions.specs.Channel.{Channel, Group, Value, ValidValue, start_of, span_of, value_by, value_of, valid_of, valid_value_of, record_length, has_invalidation_bit, area_of, bounded_valid_of, bounded_value_of}
use Rattle.definitions.specs.Chain.{Block, id_dt, file_limit, record_limit, joined, total, chain_of, total_of, data_length, bad_size, record_of, fetched, value_fetched}
use Rattle.definitions.specs.Accepted.{Accepted}
use Rattle.definitions.proofs.Replies.{not_answered}
use Rattle.blocks.proofs.Headers.{length_header}
use Rattle.blocks.proofs.Writes.{length_list}
use Rattle.channels.proofs.Channels.{length_channel}
use Rattle.words.proofs.Spans.{length_span}
use Rattle.places.proofs.Answers.{answered, followed}
use Rattle.theorems.proofs.Blocks.Rewritten.{front_of}
use Rattle.theorems.proofs.Blocks.ListAnswers.{list_answered, list_stands}
use Rattle.theorems.proofs.Blocks.ChannelAnswers.{channel_answered, channel_stands}
use Rattle.theorems.proofs.Chains.AcceptedChains.{accepted, accepts}
use Rattle.theorems.specs.Exactly.{Exactly, ListStands, ChannelStands, Counted, ListFits, Legal, FieldStands, InArea, BoundedStands, Joinable, Fetchable, ValueFetchable}

-- ---- tests in turn

module _ {A : Type 0} where
  pub always : (a : A) → Exactly (Unit {0}) (answer a)
  always a = record { answers = λ u. (a, refl); only = λ b e. tt }

  pub same : {P Q : Type 0} {r : Reply A} → (Q → P) → (P → Q) → Exactly P r → Exactly Q r
  same back on h = record { answers = λ q. h.answers (back q); only = λ a e. on (h.only a e) }

  -- behind a test that refuses
  passing : {P Q : Type 0} (t : Bool) (n m : ℕ) (r : Reply A) → (P → t ≡ false) → (t ≡ false → P) → Exactly Q r
      → Exactly (P × Q) (if t then refusal n m else r)
  passing true n m r to from h = record {
    answers = λ pq. absurd (true≢false (to pq.0));
    only = λ a e. not_answered a n m e;
  }
  passing false n m r to from h = record {
    answers = λ pq. h.answers pq.1;
    only = λ a e. (from refl, h.only a e);
  }

  pub not_under : {Q : Type 0} (a b n m : ℕ) (r : Reply A) → Exactly Q r → Exactly ((b ≤ a) × Q) (if ltb a b then refusal n m else r)
  not_under a b n m r h = passing (ltb a b) n m r (λ p. le-ltb a b p) (λ e. ltb-false a b e) h

  pub unless_under : (a b n m : ℕ) (x : A) → Exactly (b ≤ a) (if ltb a b then refusal n m else answer x)
  unless_under a b n m x = same (λ p. (p, tt)) (λ p. p.0) (not_under a b n m (answer x) (always x))

  pub not_equal : {Q : Type 0} (a b n m : ℕ) (r : Reply A) → Exactly Q r → Exactly ((a ≡ b → ⊥) × Q) (if eqb a b then refusal n m else r)
  not_equal a b n m r h = passing (eqb a b) n m r (λ p. ne_eqb a b p) (λ e. eqb-false a b e) h

-- going on with an answer
pub going_on : {A B P Q : Type 0} (r : Reply A) (g : A → Reply B) → Exactly P r → ((a : A) → Exactly Q (g a)) → Exactly (P × Q) (and_then r g)
going_on (answer a) g h i = record { answers = λ pq. (i a).answers pq.1; only = λ b e. (h.only a refl, (i a).only b e) }
going_on (refusal n m) g h i = record {
  answers = λ pq. let z = h.answers pq.0 in not_answered z.0 n m z.1;
  only = λ b e. not_answered b n m e;
}

-- ---- headers

pub header_exactly : (s : List ℕ) → Exactly (24 ≤ length s) (header_of s)
unfolding header_of
header_exactly s = unless_under (length s) 24 2 (told 24) (header_in s)

-- ---- lists

pub list_exactly : (s : List ℕ) → Exactly (ListStands s) (list_of s)
list_exactly s = record { answers = λ h. (_, list_answered s h); only = λ d e. (list_stands s d e).0 }

-- ---- channel blocks

pub channel_exactly : (s : List ℕ) → Exactly (ChannelStands s) (channel_block_of s)
channel_exactly s = record { answers = λ h. (_, channel_answered s h); only = λ b e. (channel_stands s b e).0 }

-- ---- into a buffer

module _ {A : Type 0} where
  reply_of_law : {Q : Type 0} (t : Bool) (n m : ℕ) (out : List ℕ) (o : Outcome A) → Exactly Q (if t then refusal n m else o.reply)
      → Exactly Q (if t then record { reply = refusal n m; buffer = out } else o).reply
  reply_of_law true n m out o h = h
  reply_of_law false n m out o h = h

  -- a buffer that is long enough is written
  pub writing_exactly : (out bytes : List ℕ) (a : A) → Exactly (length bytes ≤ length out) (writing out bytes a).reply
  writing_exactly out bytes a =
      reply_of_law (ltb (length out) (length bytes)) 6 (told (length bytes)) out _
      (unless_under (length out) (length bytes) 6 (told (length bytes)) a)

pub header_written_exactly : (out : List ℕ) (h : Header) → Exactly (24 ≤ length out) (header_written out h).reply
unfolding header_written
header_written_exactly out h =
    let l = length_header h in
    same (λ p. omega arith) (λ p. omega arith) (writing_exactly out (header_bytes h) 24)

pub channel_written_exactly : (out : List ℕ) (b : ChannelBlock) → Exactly (160 ≤ length out) (channel_written out b).reply
unfolding channel_written
channel_written_exactly out b =
    let l = length_channel b in
    same (λ p. omega arith) (λ p. omega arith) (writing_exactly out (channel_bytes b) 160)

counted_passes : (n : ℕ) (l : Lengths) → (n ≤ link_limit) × Counted n l → unwritable n l ≡ false
counted_passes n (equal k) p = le-ltb _ _ p.0
counted_passes n (variable ns) p = rw (le-ltb _ _ p.0, eq-eqb _ _ p.1)

passed_counted : (n : ℕ) (l : Lengths) → unwritable n l ≡ false → (n ≤ link_limit) × Counted n l
passed_counted n (equal k) h = (ltb-false _ _ h, tt)
passed_counted n (variable ns) h =
    let p = or_parts (ltb link_limit n) (not (eqb n (length ns))) h in
    (ltb-false _ _ p.0, eqb-true _ _ (not-false _ p.1))

module _ (out : List ℕ) (next : ℕ) (links : List ℕ) (l : Lengths) where
  list_room : Exactly (list_size (length links) (length (rest_for l)) ≤ length out) (writing out (list_bytes next links (flags_for l) (rest_for l)) (list_size (length links) (length (rest_for l)))).reply
  list_room =
      let n = length_list next links (flags_for l) (rest_for l) in
      same (λ p. omega arith) (λ p. omega arith) (writing_exactly out (list_bytes next links (flags_for l) (rest_for l)) _)

  pub list_written_exactly : Exactly (ListFits out links l) (list_written out next links l).reply
  unfolding list_written
  list_written_exactly =
      same (λ w. ((w.few, w.counted), w.room)) (λ p. record { few = p.0.0; counted = p.0.1; room = p.1 })
      (reply_of_law (unwritable (length links) l) 5 0 out _
      (passing (unwritable (length links) l) 5 0 _ (counted_passes (length links) l) (passed_counted (length links) l) list_room))

pub text_written_exactly : (out : List ℕ) (e : Encoding) (s : List ℕ) → Exactly (length (text_of e s).bytes ≤ length out) (text_written out e s).reply
unfolding text_written written_text
text_written_exactly out e s = writing_exactly out (text_of e s).bytes _

-- ---- values

-- a float of 32 or 64 bits
width_passes : (w : ℕ) → (w ≡ 32) ⊎ (w ≡ 64) → not (eqb w 32 || eqb w 64) ≡ false
width_passes w (inl e) = rw (eq-eqb _ _ e)
width_passes w (inr e) = rw e

width_told : (w : ℕ) → (eqb w 32 ≡ true) ⊎ (eqb w 64 ≡ true) → (w ≡ 32) ⊎ (w ≡ 64)
width_told w (inl e) = inl (eqb-true _ _ e)
width_told w (inr e) = inr (eqb-true _ _ e)

passed_width : (w : ℕ) → not (eqb w 32 || eqb w 64) ≡ false → (w ≡ 32) ⊎ (w ≡ 64)
passed_width w h = width_told w (or_cases (eqb w 32) (eqb w 64) (not-false _ h))

module _ (s : List ℕ) (at n : ℕ) (c : Channel) where
  inside_exactly : {Q : Type 0} (r : Reply Value) → Exactly Q r → Exactly ((at + n ≤ length s) × Q) (if ltb (length s) (at + n) then refusal 21 (told (at + n)) else r)
  inside_exactly r h = not_under (length s) (at + n) 21 (told (at + n)) r h

  by_kind : (k : Kind) → Exactly (Legal k c × (at + n ≤ length s)) (value_by k at n s c)
  unfolding value_by
  by_kind integer =
      same (λ p. (λ z. omega (arith, p.0.0, z), (p.0.2, (p.0.1, (p.1, tt))))) (λ p. ((omega (arith, p.0), p.1.1.0, p.1.0), p.1.1.1.0))
      (not_equal c.bit_count 0 18 0 _ (not_under 7 c.bit_offset 19 0 _ (not_under 64 c.bit_count 20 0 _ (inside_exactly _ (always _)))))
  by_kind floating =
      same (λ p. (some p.0.0, (p.0.1, (p.1, (p.0.0, tt))))) (λ p. ((p.1.1.1.0, p.1.0), p.1.1.0))
      (not_equal c.bit_count 0 18 0 _ (not_under 7 c.bit_offset 19 0 _ (inside_exactly _
      (passing _ 22 0 _ (width_passes c.bit_count) (passed_width c.bit_count) (always _)))))
    where
      some : (c.bit_count ≡ 32) ⊎ (c.bit_count ≡ 64) → c.bit_count ≡ 0 → ⊥
      some (inl e) z = omega arith
      some (inr e) z = omega arith
  by_kind whole = same (λ p. (p.1, tt)) (λ p. (tt, p.0)) (inside_exactly _ (always _))
  by_kind undecoded = same (λ p. (p.1, tt)) (λ p. (tt, p.0)) (inside_exactly _ (always _))

module _ (s : List ℕ) (id_size : ℕ) (c : Channel) where
  -- a number field inside the record with a legal width has a value, and every other field that is inside it
  pub value_exactly : Exactly (FieldStands s id_size c) (value_of s id_size c)
  unfolding value_of
  value_exactly =
      same (λ r. (r.legal, r.inside)) (λ p. record { legal = p.0; inside = p.1 })
      (by_kind s (start_of id_size c) (span_of s c) c (kind_of c.data_type))

pub valid_value_exactly : (s : List ℕ) (g : Group) (c : Channel) → Exactly (FieldStands s g.id_size c) (valid_value_of s g c)
unfolding valid_value_of
valid_value_exactly s g c =
    same (λ p. (p, tt)) (λ p. p.0) (going_on (value_of s g.id_size c) _ (value_exactly s g.id_size c) (λ v. always _))

-- ---- validity

-- a bit that tells is below the end
below_passes : (tells inside : Bool) → (tells ≡ true → inside ≡ true) → tells && not inside ≡ false
below_passes true inside h = rw (h refl)
below_passes false inside h = refl

passed_below : (tells inside : Bool) → tells && not inside ≡ false → tells ≡ true → inside ≡ true
passed_below true inside h e = not-false inside h
passed_below false inside h e = absurd (true≢false (sym e))

pub area_exactly : (n : ℕ) (g : Group) (c : Channel) → Exactly (InArea n g c) (area_of n g c)
unfolding area_of
area_exactly n g c =
    let inside = ltb c.invalidation_bit (8 * g.invalidation_bytes) in
    same (λ a. (a.long, (λ e. lt-ltb _ _ (a.below e), tt))) (λ p. record { long = p.0; below = λ e. ltb-true _ _ (p.1.0 e) })
    (passing (not (eqb n (record_length g))) 28 0 _ (λ e. rw (eq-eqb n (record_length g) e)) (λ e. eqb-true _ _ (not-false _ e))
    (passing (has_invalidation_bit c && not inside) 29 0 _ (below_passes (has_invalidation_bit c) inside) (passed_below (has_invalidation_bit c) inside) (always tt)))

module _ (s : List ℕ) (g : Group) (c : Channel) where
  pub bounded_valid_exactly : Exactly (InArea (length s) g c) (bounded_valid_of s g c)
  unfolding bounded_valid_of
  bounded_valid_exactly = same (λ a. (a, tt)) (λ p. p.0) (going_on (area_of (length s) g c) _ (area_exactly (length s) g c) (λ u. always (valid_of s g c)))

  pub bounded_value_exactly : Exactly (BoundedStands s g c) (bounded_value_of s g c)
  unfolding bounded_value_of
  bounded_value_exactly =
      same (λ h. (h.field, (h.area, tt))) (λ p. record { field = p.0; area = p.1.0 })
      (going_on (value_of s g.id_size c) _ (value_exactly s g.id_size c) (λ v. going_on (bounded_valid_of s g c) _ bounded_valid_exactly (λ b. always _)))

-- ---- the joined data

module _ (id f : List ℕ) (start : ℕ) where
  pub total_exactly : Exactly ((bs : List Block) × Accepted id f start bs) (total_of id f start)
  unfolding total_of
  total_exactly = record {
    answers = λ p. (_, ap (λ (r : Reply (List Block)). and_then r (λ bs. answer (total bs))) (accepts id f start p.0 p.1));
    only = λ n e. let r = followed (chain_of id f start) _ n e in (r.0, accepted id f start r.0 r.1);
  }

pub length_exactly : (f : List ℕ) (start : ℕ) → Exactly (Joinable f start) (data_length f start)
unfolding data_length
length_exactly f start =
    same (λ h. (h.short, (h.blocks, h.accepted))) (λ p. record { short = p.0; blocks = p.1.0; accepted = p.1.1 })
    (not_under file_limit (length f) 7 0 _ (total_exactly id_dt f start))

-- ---- records

pub size_passes : (size room : ℕ) → (0 < size) × (size ≤ record_limit) × (size ≤ room) → bad_size size room ≡ false
size_passes size room p =
    let z : size ≡ 0 → ⊥ = λ e. omega (arith, p.0) in
    rw (ne_eqb _ _ z, le-ltb _ _ p.1, le-ltb _ _ p.2)

pub size_fits : (size room : ℕ) → bad_size size room ≡ false → (0 < size) × (size ≤ record_limit) × (size ≤ room)
size_fits size room h =
    let p = or_parts (eqb size 0 || ltb record_limit size) (ltb room size) h in
    let q = or_parts (eqb size 0) (ltb record_limit size) p.0 in
    (omega (arith, eqb-false _ _ q.0), ltb-false _ _ q.1, ltb-false _ _ p.1)

module _ (f : List ℕ) (start k size : ℕ) (out : List ℕ) where
  record_exactly : (j : List ℕ) → Exactly (k * size + size ≤ length j) (record_of j k size out).reply
  unfolding record_of
  record_exactly j =
      reply_of_law (ltb (length j) (k * size + size)) 16 0 out _
      (unless_under (length j) (k * size + size) 16 0 tt)

  -- the record is inside the joined data of a chain that is accepted
  abbrev Joined : Reply (List Block) → Type 0
  Joined r = (bs : List Block) × (r ≡ answer bs) × (k * size + size ≤ length (joined f bs))

  on_blocks : (r : Reply (List Block)) → Exactly (Joined r) (on_answer r (λ bs. record_of (joined f bs) k size out) out).reply
  on_blocks (answer bs) =
      same (λ p. let e : bs ≡ p.0 = answered p.1 in rw e p.2) (λ p. (bs, refl, p)) (record_exactly (joined f bs))
  on_blocks (refusal n m) = record {
    answers = λ p. not_answered p.0 n m p.1;
    only = λ a e. not_answered a n m e;
  }

  pub fetched_exactly : Exactly (Fetchable f start k size out) (fetched f start k size out).reply
  unfolding fetched
  fetched_exactly =
      same
      (λ h. ((h.some, h.small, h.room), (h.short, (h.blocks, accepts id_dt f start h.blocks h.accepted, h.inside))))
      (λ p. record {
        some = p.0.0;
        small = p.0.1;
        room = p.0.2;
        short = p.1.0;
        blocks = p.1.1.0;
        accepted = accepted id_dt f start p.1.1.0 p.1.1.1;
        inside = p.1.1.2;
      })
      (reply_of_law (bad_size size (length out)) 15 0 out _
      (passing (bad_size size (length out)) 15 0 _ (size_passes size (length out)) (size_fits size (length out))
      (reply_of_law (ltb file_limit (length f)) 7 0 out _
      (not_under file_limit (length f) 7 0 _ (on_blocks (chain_of id_dt f start))))))

  -- such a record is left in the buffer's front
  pub fetched_record : (h : Fetchable f start k size out)
      → fetched f start k size out ≡ record { reply = answer tt; buffer = span (joined f h.blocks) (k * size) size ++ drop size out }
  unfolding fetched record_of
  fetched_record h =
      rw (size_passes size (length out) (h.some, h.small, h.room), le-ltb _ _ h.short, accepts id_dt f start h.blocks h.accepted, le-ltb _ _ h.inside)

  record_length_law : (h : Fetchable f start k size out) → length (span (joined f h.blocks) (k * size) size) ≡ size
  record_length_law h = length_span (joined f h.blocks) (k * size) size h.inside

  module _ (g : Group) (c : Channel) where
    -- and its field is read from those bytes alone
    pub value_of_record : (h : Fetchable f start k size out)
        → (value_fetched f start k size g c out).reply ≡ bounded_value_of (span (joined f h.blocks) (k * size) size) g c
    unfolding value_fetched
    value_of_record h = rw (fetched_record h, front_of _ (drop size out) size (record_length_law h))

    -- a value is answered of a record that was fetched
    record_before : (v : ValidValue) → (value_fetched f start k size g c out).reply ≡ answer v → Fetchable f start k size out
    unfolding value_fetched
    record_before v e = let r = followed (fetched f start k size out).reply _ v e in fetched_exactly.only r.0 r.1

    pub value_fetched_exactly : Exactly (ValueFetchable f start k size g c out) (value_fetched f start k size g c out).reply
    value_fetched_exactly = record {
      answers = λ h.
          let area = subst (λ (n : ℕ). InArea n g c) (sym (record_length_law h.fetchable)) h.area in
          let v = (bounded_value_exactly _ g c).answers (record { field = h.field; area = area }) in
          (v.0, value_of_record h.fetchable ∙ v.1);
      only = λ a e.
          let h = record_before a e in
          let b = (bounded_value_exactly _ g c).only a (sym (value_of_record h) ∙ e) in
          record { fetchable = h; field = b.field; area = subst (λ (n : ℕ). InArea n g c) (record_length_law h) b.area };
    }
