-- Two records of one size, of whatever files, that hold a fixed field alike: fetched, they give the same value in it, whatever
-- their other bits; and the same reply, where the invalidation bit is alike too. About each call's own clause.
use mathlib.Core.Path.{◌≡◌, refl, sym, ap, ap₂, ◌∙◌}
use mathlib.Core.List.{List}
use Prim.Native.Nat.{ℕ}
use contract.Lifetimes.{Lfts}
use lib.ListN.{length}
use Rattle.std.specs.Prelude.{Result}
use Rattle.definitions.specs.Reply.{Reply, answer, refusal, and_then}
use Rattle.definitions.specs.Channel.{Channel, Group, Value, ValidValue, value_of, valid_of, area_of, bounded_valid_of, bounded_value_of}
use Rattle.definitions.specs.Chain.{value_fetched}
use Rattle.refusals.specs.declared.Refusal.{Refusal}
use Rattle.fields.proofs.Back.{valid_value_one}
use Rattle.fields.specs.Meaning.{channel_meant, group_meant, valid_value_reply}
use Rattle.fields.specs.declared.channel.Channel.{Channel as Description}
use Rattle.fields.specs.declared.group.Group.{Group as Grouped}
use Rattle.fields.specs.declared.value.DecodedChannelValue.{DecodedChannelValue}
use Rattle.places.specs.declared.place.FileAddress.{FileAddress}
use Rattle.block_replies.specs.Channels.{channel_given}
use Rattle.replies.specs.Values.{group_given, valid_value_c}
use Rattle.block_replies.specs.declared.channel.Mf4Channel.{Mf4Channel}
use Rattle.replies.specs.declared.group.Mf4Group.{Mf4Group}
use Rattle.replies.specs.declared.valid_values.Mf4ValidValueReply.{Mf4ValidValueReply}
use Rattle.replies.proofs.ToldToC.{valid_value_again}
use Rattle.mf4.specs.Clauses.{Slice, Room}
use Rattle.theorems.specs.Exactly.{Fetchable, record_bytes}
use Rattle.theorems.specs.Clauses.{ReadsRecordValue}
use Rattle.theorems.specs.ClausesToC.{ReadsRecordValueC}
use Rattle.theorems.proofs.Calls.Outcomes.{of_outcome, returned_result}
use Rattle.theorems.proofs.Calls.Answers.{value_of_record}
use Rattle.theorems.proofs.Calls.ToldToC.{mf4_record_value_told}
use Rattle.theorems.proofs.Fields.LocalityByCalls as fields
use Rattle.theorems.proofs.Fields.LocalityByCalls.{Alike, same_value, same_bounded_value}

-- the value of a reply, without its validity
abbrev pub value_only : Reply ValidValue → Reply Value
value_only r = and_then r (λ v. answer v.value)

-- the value, where the record is one of the group
abbrev value_in_area : ℕ → Group → Channel → Reply Value → Reply Value
value_in_area n g c r = and_then r (λ v. and_then (area_of n g c) (λ u. answer v))

only_value : (s : List ℕ) (g : Group) (c : Channel) → value_only (bounded_value_of s g c) ≡ value_in_area (length s) g c (value_of s g.id_size c)
unfolding bounded_value_of bounded_valid_of
only_value s g c = go (value_of s g.id_size c) (area_of (length s) g c)
  where
    go : (r : Reply Value) (a : Reply (Unit {0}))
        → value_only (and_then r (λ v. and_then (and_then a (λ u. answer (valid_of s g c))) (λ b. answer (record { value = v; valid = b }))))
        ≡ and_then r (λ v. and_then a (λ u. answer v))
    go (answer v) (answer u) = refl
    go (answer v) (refusal n t) = refl
    go (refusal n t) a = refl

-- record k of one file, and record l of another, or of the same one
module _ (f e : List ℕ) (a b k l size : ℕ) (out room : List ℕ) (h : Fetchable f a k size out) (i : Fetchable e b l size room) where
  abbrev pub FieldAlike : Group → Channel → Type 0
  FieldAlike g c = Alike (record_bytes f a k size out h) (record_bytes e b l size room i) g.id_size c

  abbrev pub BitAlike : Group → Channel → Type 0
  BitAlike g c = fields.BitAlike (record_bytes f a k size out h) (record_bytes e b l size room i) g c

  module _ (g : Group) (c : Channel) (alike : FieldAlike g c) where
    pub same_fetched_value : value_only (value_fetched f a k size g c out).reply ≡ value_only (value_fetched e b l size g c room).reply
    same_fetched_value =
        ap value_only (value_of_record f a k size out g c h) ∙ only_value (record_bytes f a k size out h) g c
        ∙ ap₂ (λ (n : ℕ) (r : Reply Value). value_in_area n g c r) alike.long (same_value (record_bytes f a k size out h) (record_bytes e b l size room i) g.id_size c alike)
        ∙ sym (ap value_only (value_of_record e b l size room g c i) ∙ only_value (record_bytes e b l size room i) g c)

    pub same_fetched : BitAlike g c → (value_fetched f a k size g c out).reply ≡ (value_fetched e b l size g c room).reply
    same_fetched bit =
        value_of_record f a k size out g c h
        ∙ same_bounded_value (record_bytes f a k size out h) (record_bytes e b l size room i) g c bit alike
        ∙ sym (value_of_record e b l size room g c i)

-- ---- read_value

module _ (κs : Lfts 2) (f e : Slice) (a b : FileAddress) (k l size : ℕ) (group : Grouped) (channel : Description) (out room : Room)
    (h : Fetchable f.now a.0 k size out.now) (i : Fetchable e.now b.0 l size room.now)
    (alike : FieldAlike f.now e.now a.0 b.0 k l size out.now room.now h i (group_meant group) (channel_meant channel))
    (y z : Result DecodedChannelValue Refusal) (after later : List ℕ)
    (p : ReadsRecordValue κs f a k size group channel out y after) (q : ReadsRecordValue κs e b l size group channel room z later)
  where
    pub record_value_alike : value_only (valid_value_reply y) ≡ value_only (valid_value_reply z)
    record_value_alike =
        ap value_only (of_outcome p)
        ∙ same_fetched_value f.now e.now a.0 b.0 k l size out.now room.now h i (group_meant group) (channel_meant channel) alike
        ∙ sym (ap value_only (of_outcome q))

    pub record_reply_alike : BitAlike f.now e.now a.0 b.0 k l size out.now room.now h i (group_meant group) (channel_meant channel) → y ≡ z
    record_reply_alike bit =
        valid_value_one y z
        (of_outcome p
        ∙ same_fetched f.now e.now a.0 b.0 k l size out.now room.now h i (group_meant group) (channel_meant channel) alike bit
        ∙ sym (of_outcome q))

-- ---- mf4_record_value: of the reply that the struct tells, and of the struct

module _ (κs : Lfts 2) (f e : Slice) (a b k l size : ℕ) (group : Mf4Group) (channel : Mf4Channel) (out room : Room)
    (h : Fetchable f.now a k size out.now) (i : Fetchable e.now b l size room.now)
    (alike : FieldAlike f.now e.now a b k l size out.now room.now h i (group_given group) (channel_given channel))
    (y z : Mf4ValidValueReply) (after later : List ℕ)
    (p : ReadsRecordValueC κs f a k size group channel out y after) (q : ReadsRecordValueC κs e b l size group channel room z later)
  where
    pub mf4_record_value_alike : value_only (valid_value_again y) ≡ value_only (valid_value_again z)
    mf4_record_value_alike =
        ap value_only (mf4_record_value_told κs f a k size group channel out y after p)
        ∙ same_fetched_value f.now e.now a b k l size out.now room.now h i (group_given group) (channel_given channel) alike
        ∙ sym (ap value_only (mf4_record_value_told κs e b l size group channel room z later q))

    pub mf4_record_reply_alike : BitAlike f.now e.now a b k l size out.now room.now h i (group_given group) (channel_given channel) → y ≡ z
    mf4_record_reply_alike bit =
        returned_result p
        ∙ ap valid_value_c (same_fetched f.now e.now a b k l size out.now room.now h i (group_given group) (channel_given channel) alike bit)
        ∙ sym (returned_result q)
