-- Validity where the invalidation bytes have an end. In a record of the group whose invalidation bit is inside, both readings
-- agree. The bit that tells is in the record's own invalidation bytes, and it decides alone: neither the data nor what follows the
-- record plays a part. About each call's own clause.
use mathlib.Core.Path.{◌≡◌, refl, sym, ap, ◌∙◌}
use mathlib.Core.Bool.{Bool, true}
use mathlib.Core.List.{List}
use Prim.Native.Nat.{ℕ, ◌+◌, ◌%◌, ◌≤◌, ◌<◌}
use native.Mathlib.Omega.{arith}
use contract.Lifetimes.{Lfts}
use lib.ListN.{length, get_or}
use Rattle.std.specs.Prelude.{Result}
use Rattle.definitions.specs.Reply.{Reply, answer, refusal, and_then}
use Rattle.definitions.specs.Bytes.{bit}
use Rattle.definitions.specs.Channel.{Channel, Group, valid_of, valid_value_of, record_length, has_invalidation_bit, area_of, bounded_valid_of, bounded_value_of}
use Rattle.refusals.specs.declared.Refusal.{Refusal}
use Rattle.fields.specs.Meaning.{channel_meant, group_meant, validity_reply}
use Rattle.fields.specs.declared.channel.Channel.{Channel as Description}
use Rattle.fields.specs.declared.group.Group.{Group as Grouped}
use Rattle.fields.specs.declared.value.DecodedChannelValue.{DecodedChannelValue}
use Rattle.fields.proofs.Back.{valid_value_one, validity_one}
use Rattle.fields.proofs.OneBit.{invalidation_byte, bit_in_area}
use Rattle.block_replies.specs.Channels.{channel_given}
use Rattle.replies.specs.Values.{group_given, valid_value_c, validity_c}
use Rattle.block_replies.specs.declared.channel.Mf4Channel.{Mf4Channel}
use Rattle.replies.specs.declared.group.Mf4Group.{Mf4Group}
use Rattle.replies.specs.declared.valid_values.Mf4ValidValueReply.{Mf4ValidValueReply}
use Rattle.replies.specs.declared.validity.Mf4ValidityReply.{Mf4ValidityReply}
use Rattle.mf4.specs.Clauses.{Slice}
use Rattle.theorems.specs.Exactly.{InArea}
use Rattle.theorems.specs.Clauses.{ReadsValidValue, ReadsBoundedValue, ChecksValidity, ChecksBoundedValidity}
use Rattle.theorems.specs.ClausesToC.{ReadsValidValueC, ChecksValidityC, ReadsUnboundedC, ChecksUnboundedC}
use Rattle.theorems.proofs.Calls.Answers.{area_exactly}
use Rattle.theorems.proofs.Calls.TestsInTurn.{refused_made}
use Rattle.theorems.proofs.Fields.LocalityByCalls.{BitAlike, same_bounded_valid}

-- ---- both readings

module _ (s : List ℕ) (g : Group) (c : Channel) (h : InArea (length s) g c) where
  inside : area_of (length s) g c ≡ answer tt
  inside = ((area_exactly (length s) g c).answers h).1

  pub validity_agrees : bounded_valid_of s g c ≡ answer (valid_of s g c)
  unfolding bounded_valid_of
  validity_agrees = rw inside

  pub value_agrees : bounded_value_of s g c ≡ valid_value_of s g c
  unfolding bounded_value_of valid_value_of
  value_agrees = rw validity_agrees

module _ (κs : Lfts 1) (bytes : Slice) (group : Grouped) (channel : Description) (h : InArea (length bytes.now) (group_meant group) (channel_meant channel)) where
  pub bounded_value_agrees : (y z : Result DecodedChannelValue Refusal) → ReadsBoundedValue κs bytes group channel y → ReadsValidValue κs bytes group channel z → y ≡ z
  bounded_value_agrees y z p q = valid_value_one y z (p ∙ value_agrees bytes.now (group_meant group) (channel_meant channel) h ∙ sym q)

  pub bounded_validity_agrees : (y : Result Bool Refusal) (z : Bool) → ChecksBoundedValidity κs bytes group channel y → ChecksValidity κs bytes group channel z
      → validity_reply y ≡ answer z
  bounded_validity_agrees y z p q = p ∙ validity_agrees bytes.now (group_meant group) (channel_meant channel) h ∙ ap answer (sym q)

module _ (κs : Lfts 1) (bytes : Slice) (group : Mf4Group) (channel : Mf4Channel) (h : InArea (length bytes.now) (group_given group) (channel_given channel)) where
  pub mf4_decode_valid_value_agrees : (y z : Mf4ValidValueReply) → ReadsValidValueC κs bytes group channel y → ReadsUnboundedC κs bytes group channel z → y ≡ z
  mf4_decode_valid_value_agrees y z p q = p ∙ ap valid_value_c (value_agrees bytes.now (group_given group) (channel_given channel) h) ∙ sym q

  pub mf4_check_validity_agrees : (y : Mf4ValidityReply) (z : ℕ) → ChecksValidityC κs bytes group channel y → ChecksUnboundedC κs bytes group channel z
      → (y.reply ≡ 0) × (y.is_valid ≡ z)
  mf4_check_validity_agrees y z p q =
      let e = p ∙ ap validity_c (validity_agrees bytes.now (group_given group) (channel_given channel) h) in
      (ap (λ (x : Mf4ValidityReply). x.reply) e, ap (λ (x : Mf4ValidityReply). x.is_valid) e ∙ sym q)

-- ---- one bit, in the invalidation bytes

-- a record of the group has the byte with that bit behind its id and its data, and before its end
pub bit_inside : (n : ℕ) (g : Group) (c : Channel) → InArea n g c → has_invalidation_bit c ≡ true
    → (g.id_size + g.data_bytes ≤ invalidation_byte g c) × (invalidation_byte g c < n)
bit_inside n g c h tells =
    let p = bit_in_area g c (h.below tells) in
    let e = h.long in
    (p.0, omega (arith, p.1))

-- alike in the invalidation bytes
abbrev pub AreaAlike : List ℕ → List ℕ → Group → Type 0
AreaAlike s t g = (i : ℕ) → g.id_size + g.data_bytes ≤ i → i < record_length g → get_or s i 0 ≡ get_or t i 0

module _ (s t : List ℕ) (g : Group) (c : Channel) (long : length s ≡ length t) where
  pub same_in_area : AreaAlike s t g → bounded_valid_of s g c ≡ bounded_valid_of t g c
  unfolding bounded_valid_of
  same_in_area alike = go (area_of (length s) g c) refl
    where
      other : area_of (length t) g c ≡ area_of (length s) g c
      other = ap (λ (n : ℕ). area_of n g c) (sym long)

      go : (r : Reply (Unit {0})) → area_of (length s) g c ≡ r
          → and_then (area_of (length s) g c) (λ u. answer (valid_of s g c)) ≡ and_then (area_of (length t) g c) (λ u. answer (valid_of t g c))
      go (refusal n m) e = refused_made _ (area_of (length s) g c) n m e ∙ sym (refused_made _ (area_of (length t) g c) n m (other ∙ e))
      go (answer u) e =
          let h : InArea (length s) g c = (area_exactly (length s) g c).only u e in
          let same : BitAlike s t g c = λ tells.
          let p = bit_in_area g c (h.below tells) in ap (λ (b : ℕ). bit b (c.invalidation_bit % 8)) (alike (invalidation_byte g c) p.0 p.1) in
          same_bounded_valid s t g c same long

module _ (κs : Lfts 1) (s t : Slice) (group : Grouped) (channel : Description) (long : length s.now ≡ length t.now) (y z : Result Bool Refusal)
    (p : ChecksBoundedValidity κs s group channel y) (q : ChecksBoundedValidity κs t group channel z)
  where
    pub bounded_validity_alike : BitAlike s.now t.now (group_meant group) (channel_meant channel) → y ≡ z
    bounded_validity_alike e = validity_one y z (p ∙ same_bounded_valid s.now t.now (group_meant group) (channel_meant channel) e long ∙ sym q)

    pub bounded_validity_in_area : AreaAlike s.now t.now (group_meant group) → y ≡ z
    bounded_validity_in_area e = validity_one y z (p ∙ same_in_area s.now t.now (group_meant group) (channel_meant channel) long e ∙ sym q)

module _ (κs : Lfts 1) (s t : Slice) (group : Mf4Group) (channel : Mf4Channel) (long : length s.now ≡ length t.now) (y z : Mf4ValidityReply)
    (p : ChecksValidityC κs s group channel y) (q : ChecksValidityC κs t group channel z)
  where
    pub mf4_check_validity_alike : BitAlike s.now t.now (group_given group) (channel_given channel) → y ≡ z
    mf4_check_validity_alike e = p ∙ ap validity_c (same_bounded_valid s.now t.now (group_given group) (channel_given channel) e long) ∙ sym q

    pub mf4_check_validity_in_area : AreaAlike s.now t.now (group_given group) → y ≡ z
    mf4_check_validity_in_area e = p ∙ ap validity_c (same_in_area s.now t.now (group_given group) (channel_given channel) long e) ∙ sym q
