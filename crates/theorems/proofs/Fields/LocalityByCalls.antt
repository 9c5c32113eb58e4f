-- Two records that are alike in a fixed field give the same value and the same double, and with the invalidation bit the same
-- validity. Two of one length are refused alike, whatever their bits. About each call's own clause.
use mathlib.Core.Path.{◌≡◌, refl, sym, ap, ap₂, ◌∙◌}
use mathlib.Core.Bool.{Bool, true, false}
use mathlib.Core.List.{List}
use Prim.Native.Nat.{ℕ, ◌+◌, ◌≤◌, ◌<◌}
use contract.Lifetimes.{Lfts}
use lib.ListN.{length, get_or}
use Rattle.std.specs.Prelude.{Result}
use Rattle.definitions.specs.Reply.{Reply, answer, refusal, and_then}
use Rattle.definitions.specs.Bytes.{bytes_for}
use Rattle.definitions.specs.DataType.{kind_of, order_of}
use Rattle.definitions.specs.Channel.{Channel, Group, Value, ValidValue, variable_length, span_in, is_number, value_of, valid_value_of, double_in, record_double, has_invalidation_bit, area_of, bounded_valid_of, bounded_value_of}
use Rattle.definitions.proofs.Replies.{not_answered}
use Rattle.refusals.specs.declared.Refusal.{Refusal}
use Rattle.words.proofs.Numbers.{Bytes}
use Rattle.bit_fields.proofs.Locality.{record_bit}
use Rattle.fields.proofs.Locality.{locality, content_locality, refusal_locality}
use Rattle.fields.proofs.OneBit.{invalidation_bit_in, one_bit, bounded_alike}
use Rattle.decoder.proofs.Doubles.{double_fixed}
use Rattle.fields.proofs.Back.{value_one, valid_value_one}
use Rattle.fields.specs.Meaning.{channel_meant, group_meant, value_reply, valid_value_reply}
use Rattle.fields.specs.declared.channel.Channel.{Channel as Description}
use Rattle.fields.specs.declared.group.Group.{Group as Grouped}
use Rattle.fields.specs.declared.value.DecodedValue.{DecodedValue}
use Rattle.fields.specs.declared.value.DecodedChannelValue.{DecodedChannelValue}
use Rattle.replies.proofs.ToldToC.{value_reply_again, valid_value_again}
use Rattle.mf4.specs.Clauses.{Slice}
use Rattle.theorems.specs.Clauses.{ReadsValue, ReadsValidValue, ReadsBoundedValue, ChecksValidity, ReadsDouble}
use Rattle.theorems.specs.ClausesToC.{ReadsValueC, ReadsValidValueC, ReadsUnboundedC, ChecksUnboundedC, ReadsDoubleC}
use Rattle.theorems.proofs.Calls.TestsInTurn.{refused_made, made_refused}
use Rattle.theorems.proofs.Calls.ToldToC.{mf4_decode_value_told, mf4_decode_valid_value_told, mf4_decode_valid_value_unbounded_told}
use Rattle.replies.specs.Replies.{flag_c}
use Rattle.block_replies.specs.Channels.{channel_given}
use Rattle.replies.specs.Values.{group_given, value_c, valid_value_c}
use Rattle.block_replies.specs.declared.channel.Mf4Channel.{Mf4Channel}
use Rattle.replies.specs.declared.group.Mf4Group.{Mf4Group}
use Rattle.replies.specs.declared.values.Mf4ValueReply.{Mf4ValueReply}
use Rattle.replies.specs.declared.valid_values.Mf4ValidValueReply.{Mf4ValidValueReply}

-- records of one length, that hold a fixed field's bits alike, or its bytes where it is no number
pub record Alike (s t : List ℕ) (id_size : ℕ) (c : Channel) : Type 0 where
  pub fixed : variable_length c ≡ false
  pub long : length s ≡ length t
  pub bytes : Bytes s × Bytes t
  pub number : is_number (kind_of c.data_type) ≡ true → (k : ℕ) → c.bit_offset ≤ k → k < c.bit_offset + c.bit_count
      → record_bit (order_of c.data_type) s (id_size + c.byte_offset) (bytes_for c.bit_offset c.bit_count) k
      ≡ record_bit (order_of c.data_type) t (id_size + c.byte_offset) (bytes_for c.bit_offset c.bit_count) k
  pub content : is_number (kind_of c.data_type) ≡ false → (i : ℕ) → i < span_in false (kind_of c.data_type) 0 c
      → get_or s (id_size + c.byte_offset + i) 0 ≡ get_or t (id_size + c.byte_offset + i) 0

module _ (s t : List ℕ) (id_size : ℕ) (c : Channel) (h : Alike s t id_size c) where
  pub same_value : value_of s id_size c ≡ value_of t id_size c
  same_value = go (is_number (kind_of c.data_type)) refl
    where
      go : (b : Bool) → is_number (kind_of c.data_type) ≡ b → value_of s id_size c ≡ value_of t id_size c
      go true e = locality s t id_size c h.fixed e h.bytes.0 h.bytes.1 h.long (h.number e)
      go false e = content_locality s t id_size c h.fixed e h.long (h.content e)

  pub same_double : record_double s id_size c ≡ record_double t id_size c
  same_double = sym (double_fixed s id_size c h.fixed) ∙ ap double_in same_value ∙ double_fixed t id_size c h.fixed

-- alike in the invalidation bit, if that tells
abbrev pub BitAlike : List ℕ → List ℕ → Group → Channel → Type 0
BitAlike s t g c = has_invalidation_bit c ≡ true → invalidation_bit_in s g c ≡ invalidation_bit_in t g c

-- then the value with its validity
module _ (s t : List ℕ) (g : Group) (c : Channel) (e : BitAlike s t g c) where
  pub same_valid_value : Alike s t g.id_size c → valid_value_of s g c ≡ valid_value_of t g c
  unfolding valid_value_of
  same_valid_value h =
      ap₂ (λ (r : Reply Value) (b : Bool). and_then r (λ v. answer (record { value = v; valid = b }))) (same_value s t g.id_size c h) (one_bit s t g c e)

  -- and where the invalidation bytes have an end
  pub same_bounded_valid : length s ≡ length t → bounded_valid_of s g c ≡ bounded_valid_of t g c
  same_bounded_valid long = bounded_alike s t g c long (one_bit s t g c e)

  pub same_bounded_value : Alike s t g.id_size c → bounded_value_of s g c ≡ bounded_value_of t g c
  unfolding bounded_value_of
  same_bounded_value h =
      ap₂ (λ (r : Reply Value) (q : Reply Bool). and_then r (λ v. and_then q (λ b. answer (record { value = v; valid = b })))) (same_value s t g.id_size c h) (same_bounded_valid h.long)

module _ (κs : Lfts 1) (s t : Slice) (id_size : ℕ) (channel : Description) (h : Alike s.now t.now id_size (channel_meant channel)) where
  pub value_read_alike : (y z : Result DecodedValue Refusal) → ReadsValue κs s id_size channel y → ReadsValue κs t id_size channel z → y ≡ z
  value_read_alike y z p q = value_one y z (p ∙ same_value s.now t.now id_size (channel_meant channel) h ∙ sym q)

  pub double_read_alike : (y z : ℕ) → ReadsDouble κs s id_size channel y → ReadsDouble κs t id_size channel z → y ≡ z
  double_read_alike y z p q = p ∙ same_double s.now t.now id_size (channel_meant channel) h ∙ sym q

pub valid_value_read_alike : (κs : Lfts 1) (s t : Slice) (group : Grouped) (channel : Description)
    → Alike s.now t.now (group_meant group).id_size (channel_meant channel) → BitAlike s.now t.now (group_meant group) (channel_meant channel)
    → (y z : Result DecodedChannelValue Refusal) → ReadsValidValue κs s group channel y → ReadsValidValue κs t group channel z → y ≡ z
valid_value_read_alike κs s t group channel h e y z p q =
    valid_value_one y z (p ∙ same_valid_value s.now t.now (group_meant group) (channel_meant channel) e h ∙ sym q)

pub bounded_value_read_alike : (κs : Lfts 1) (s t : Slice) (group : Grouped) (channel : Description)
    → Alike s.now t.now (group_meant group).id_size (channel_meant channel) → BitAlike s.now t.now (group_meant group) (channel_meant channel)
    → (y z : Result DecodedChannelValue Refusal) → ReadsBoundedValue κs s group channel y → ReadsBoundedValue κs t group channel z → y ≡ z
bounded_value_read_alike κs s t group channel h e y z p q =
    valid_value_one y z (p ∙ same_bounded_value s.now t.now (group_meant group) (channel_meant channel) e h ∙ sym q)

-- ---- a refusal

module _ (s t : List ℕ) (c : Channel) (long : length s ≡ length t) (n m : ℕ) where
  pub same_refusal : (id_size : ℕ) → value_of s id_size c ≡ refusal n m → value_of t id_size c ≡ refusal n m
  same_refusal id_size e = refusal_locality s t id_size c n m long e

  pub same_valid_refusal : (g : Group) → valid_value_of s g c ≡ refusal n m → valid_value_of t g c ≡ refusal n m
  unfolding valid_value_of
  same_valid_refusal g e =
      refused_made _ (value_of t g.id_size c) n m (same_refusal g.id_size (made_refused _ (value_of s g.id_size c) n m e))

  pub same_validity_refusal : (g : Group) → bounded_valid_of s g c ≡ refusal n m → bounded_valid_of t g c ≡ refusal n m
  unfolding bounded_valid_of
  same_validity_refusal g e =
      refused_made _ (area_of (length t) g c) n m (sym (ap (λ (k : ℕ). area_of k g c) long) ∙ made_refused _ (area_of (length s) g c) n m e)

-- the value's refusal, or that of the validity behind it
pub same_bounded_refusal : (s t : List ℕ) (g : Group) (c : Channel) → length s ≡ length t → (n m : ℕ) → bounded_value_of s g c ≡ refusal n m
    → bounded_value_of t g c ≡ refusal n m
unfolding bounded_value_of
same_bounded_refusal s t g c long n m = go (value_of s g.id_size c) (value_of t g.id_size c) refl refl
  where
    with_validity : Value → Bool → ValidValue
    with_validity v b = record { value = v; valid = b }

    go : (r q : Reply Value) → value_of s g.id_size c ≡ r → value_of t g.id_size c ≡ q
        → and_then r (λ v. and_then (bounded_valid_of s g c) (λ b. answer (with_validity v b))) ≡ refusal n m
        → and_then q (λ v. and_then (bounded_valid_of t g c) (λ b. answer (with_validity v b))) ≡ refusal n m
    go (answer v) (answer w) es et e =
        refused_made (with_validity w) (bounded_valid_of t g c) n m
        (same_validity_refusal s t c long n m g (made_refused (with_validity v) (bounded_valid_of s g c) n m e))
    go (answer v) (refusal k u) es et e = not_answered v k u (sym (same_refusal t s c (sym long) k u g.id_size et) ∙ es)
    go (refusal k u) (answer w) es et e = not_answered w k u (sym (same_refusal s t c long k u g.id_size es) ∙ et)
    go (refusal k u) (refusal l x) es et e =
        let same = sym et ∙ same_refusal s t c long k u g.id_size es in
        let el : l ≡ k = cc in
        let ex : x ≡ u = cc in
        rw (el, ex) e

module _ (κs : Lfts 1) (s t : Slice) (channel : Description) (long : length s.now ≡ length t.now) (n m : ℕ) where
  pub value_read_refused : (id_size : ℕ) (y z : Result DecodedValue Refusal) → ReadsValue κs s id_size channel y → ReadsValue κs t id_size channel z
      → value_reply y ≡ refusal n m → value_reply z ≡ refusal n m
  value_read_refused id_size y z p q e = q ∙ same_refusal s.now t.now (channel_meant channel) long n m id_size (sym p ∙ e)

  pub valid_value_read_refused : (group : Grouped) (y z : Result DecodedChannelValue Refusal) → ReadsValidValue κs s group channel y
      → ReadsValidValue κs t group channel z → valid_value_reply y ≡ refusal n m → valid_value_reply z ≡ refusal n m
  valid_value_read_refused group y z p q e = q ∙ same_valid_refusal s.now t.now (channel_meant channel) long n m (group_meant group) (sym p ∙ e)

  pub bounded_value_read_refused : (group : Grouped) (y z : Result DecodedChannelValue Refusal) → ReadsBoundedValue κs s group channel y
      → ReadsBoundedValue κs t group channel z → valid_value_reply y ≡ refusal n m → valid_value_reply z ≡ refusal n m
  bounded_value_read_refused group y z p q e = q ∙ same_bounded_refusal s.now t.now (group_meant group) (channel_meant channel) long n m (sym p ∙ e)

-- validity alone reads that one bit
pub validity_alike : (κs : Lfts 1) (s t : Slice) (group : Grouped) (channel : Description) → BitAlike s.now t.now (group_meant group) (channel_meant channel)
    → (y z : Bool) → ChecksValidity κs s group channel y → ChecksValidity κs t group channel z → y ≡ z
validity_alike κs s t group channel e y z p q = p ∙ one_bit s.now t.now (group_meant group) (channel_meant channel) e ∙ sym q

-- ---- for C

module _ (κs : Lfts 1) (s t : Slice) (id_size : ℕ) (channel : Mf4Channel) (h : Alike s.now t.now id_size (channel_given channel)) where
  pub mf4_decode_value_alike : (y z : Mf4ValueReply) → ReadsValueC κs s id_size channel y → ReadsValueC κs t id_size channel z → y ≡ z
  mf4_decode_value_alike y z p q = p ∙ ap value_c (same_value s.now t.now id_size (channel_given channel) h) ∙ sym q

  pub mf4_decode_double_bits_alike : (y z : ℕ) → ReadsDoubleC κs s id_size channel y → ReadsDoubleC κs t id_size channel z → y ≡ z
  mf4_decode_double_bits_alike y z p q = p ∙ same_double s.now t.now id_size (channel_given channel) h ∙ sym q

module _ (κs : Lfts 1) (s t : Slice) (group : Mf4Group) (channel : Mf4Channel) (h : Alike s.now t.now (group_given group).id_size (channel_given channel))
    (e : BitAlike s.now t.now (group_given group) (channel_given channel)) (y z : Mf4ValidValueReply)
  where
    pub mf4_decode_valid_value_alike : ReadsValidValueC κs s group channel y → ReadsValidValueC κs t group channel z → y ≡ z
    mf4_decode_valid_value_alike p q = p ∙ ap valid_value_c (same_bounded_value s.now t.now (group_given group) (channel_given channel) e h) ∙ sym q

    pub mf4_decode_valid_value_unbounded_alike : ReadsUnboundedC κs s group channel y → ReadsUnboundedC κs t group channel z → y ≡ z
    mf4_decode_valid_value_unbounded_alike p q = p ∙ ap valid_value_c (same_valid_value s.now t.now (group_given group) (channel_given channel) e h) ∙ sym q

-- of the reply that the struct tells
module _ (κs : Lfts 1) (s t : Slice) (channel : Mf4Channel) (long : length s.now ≡ length t.now) (n m : ℕ) where
  pub mf4_decode_value_refused : (id_size : ℕ) (y z : Mf4ValueReply) → ReadsValueC κs s id_size channel y → ReadsValueC κs t id_size channel z
      → value_reply_again y ≡ refusal n m → value_reply_again z ≡ refusal n m
  mf4_decode_value_refused id_size y z p q e =
      mf4_decode_value_told κs t id_size channel z q
      ∙ same_refusal s.now t.now (channel_given channel) long n m id_size (sym (mf4_decode_value_told κs s id_size channel y p) ∙ e)

  pub mf4_decode_valid_value_refused : (group : Mf4Group) (y z : Mf4ValidValueReply) → ReadsValidValueC κs s group channel y
      → ReadsValidValueC κs t group channel z → valid_value_again y ≡ refusal n m → valid_value_again z ≡ refusal n m
  mf4_decode_valid_value_refused group y z p q e =
      mf4_decode_valid_value_told κs t group channel z q
      ∙ same_bounded_refusal s.now t.now (group_given group) (channel_given channel) long n m (sym (mf4_decode_valid_value_told κs s group channel y p) ∙ e)

  pub mf4_decode_valid_value_unbounded_refused : (group : Mf4Group) (y z : Mf4ValidValueReply) → ReadsUnboundedC κs s group channel y
      → ReadsUnboundedC κs t group channel z → valid_value_again y ≡ refusal n m → valid_value_again z ≡ refusal n m
  mf4_decode_valid_value_unbounded_refused group y z p q e =
      mf4_decode_valid_value_unbounded_told κs t group channel z q
      ∙ same_valid_refusal s.now t.now (channel_given channel) long n m (group_given group) (sym (mf4_decode_valid_value_unbounded_told κs s group channel y p) ∙ e)

pub mf4_check_validity_unbounded_alike : (κs : Lfts 1) (s t : Slice) (group : Mf4Group) (channel : Mf4Channel)
    → BitAlike s.now t.now (group_given group) (channel_given channel)
    → (y z : ℕ) → ChecksUnboundedC κs s group channel y → ChecksUnboundedC κs t group channel z → y ≡ z
mf4_check_validity_unbounded_alike κs s t group channel e y z p q =
    p ∙ ap flag_c (one_bit s.now t.now (group_given group) (channel_given channel) e) ∙ sym q
