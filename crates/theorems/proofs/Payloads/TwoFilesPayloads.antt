-- Two files in each of which a chain of records joins to the bytes j, and a chain of payloads, wherever it is linked, to the
-- bytes s: the calls that fetch a payload, the library's and C's, reply the same for both and, lent buffers that hold the same
-- bytes, leave the same in both; and it is what the definitions give on j and s. Each theorem is about the call's own clause.
use Rattle.std.specs.Prelude.{if◌then◌else◌, Result}
use mathlib.Core.Path.{◌≡◌, refl, sym, ap, ap₂, ◌∙◌}
use mathlib.Core.Bool.{Bool, not, ◌&&◌}
use mathlib.Core.List.{List}
use Prim.Native.Nat.{ℕ, ◌<◌}
use native.Mathlib.Omega.{arith}
use contract.Lifetimes.{Lfts}
use lib.ListN.{take}
use lib.Dec.{eqb}
use borrow.Author.Tests.{ne_eqb}
use Rattle.definitions.specs.Reply.{Reply, Outcome, answer, refusal, and_then}
use Rattle.definitions.specs.Channel.{Channel, Group, variable_length, value_of, valid_of}
use Rattle.definitions.specs.Payload.{id_sd, holds_position, position_of, joined_of, payload_of, stored, PayloadValue, Outcomes, payload_value_of, payload_behind, payload_fetched}
use Rattle.refusals.specs.declared.Refusal.{Refusal}
use Rattle.decoder.proofs.LaidAnew.{laid_anew}
use Rattle.fields.specs.Meaning.{channel_meant, group_meant}
use Rattle.fields.specs.declared.channel.Channel as code
use Rattle.fields.specs.declared.group.Group as code_group
use Rattle.places.specs.declared.place.FileAddress.{FileAddress}
use Rattle.payloads.specs.Meaning.{payload_fetched_by}
use Rattle.payloads.specs.declared.value.DecodedPayload.{DecodedPayload}
use Rattle.payloads.proofs.Back.{payload_fetched_one}
use Rattle.mf4.specs.Clauses.{Slice, Room}
use Rattle.block_replies.specs.Channels.{channel_given}
use Rattle.replies.specs.Values.{group_given, payload_c}
use Rattle.block_replies.specs.Replies.{returned_both, returned_both_by}
use Rattle.block_replies.specs.declared.channel.Mf4Channel.{Mf4Channel}
use Rattle.replies.specs.declared.group.Mf4Group.{Mf4Group}
use Rattle.replies.specs.declared.payload.Mf4PayloadReply.{Mf4PayloadReply}
use Rattle.theorems.specs.Clauses.{ReadsPayload}
use Rattle.theorems.specs.ClausesToC.{ReadsPayloadC}
use Rattle.theorems.proofs.Chains.AcceptedChains.{accepts}
use Rattle.theorems.proofs.Calls.NoSecondReplyToC.{one_returned_both}
use Rattle.theorems.proofs.Records.TwoFiles.{Joins, JoinsBy, record_in, record_of_joined}

-- ---- on the joined bytes alone

abbrev pub payload_in : List ℕ → List ℕ → ℕ → ℕ → Group → Channel → List ℕ → List ℕ → Outcomes PayloadValue
payload_in j s k size g c out room =
    if not (holds_position c) then record { reply = refusal 35 0; record_buffer = out; payload_buffer = room }
    else payload_behind (answer s) size g c (record_in j k size out) room

-- a description with another link to its payloads
abbrev pub relinked : Channel → ℕ → Channel
relinked c link = record {
  data_type = c.data_type;
  channel_type = c.channel_type;
  bit_offset = c.bit_offset;
  byte_offset = c.byte_offset;
  bit_count = c.bit_count;
  flags = c.flags;
  invalidation_bit = c.invalidation_bit;
  data_link = link;
}

pub payload_of_joined : (f : List ℕ) (start : ℕ) (c : Channel) (j s : List ℕ) → Joins f start j → JoinsBy id_sd f c.data_link s
    → (k size : ℕ) (g : Group) (out room : List ℕ)
    → payload_fetched f start k size g c out room ≡ payload_in j s k size g c out room
unfolding payload_fetched joined_of
payload_of_joined f start c j s h i k size g out room =
    rw (accepts id_sd f c.data_link i.blocks i.accepted, i.same, record_of_joined f start j h k size out)

-- ---- where the payloads are linked plays no part, so long as they are

and_then_alike : {A B : Type 0} (r : Reply A) {g h : A → Reply B} → ((a : A) → g a ≡ h a) → and_then r g ≡ and_then r h
and_then_alike (answer a) same = same a
and_then_alike (refusal n t) same = refl

module _ (c : Channel) (link : ℕ) (from : 0 < c.data_link) (to : 0 < link) where
  variable_alike : variable_length (relinked c link) ≡ variable_length c
  variable_alike =
      let a : c.data_link ≡ 0 → ⊥ = λ e. omega (arith, from) in
      let b : link ≡ 0 → ⊥ = λ e. omega (arith, to) in
      rw (ne_eqb _ _ a, ne_eqb _ _ b)

  held_alike : holds_position (relinked c link) ≡ holds_position c
  held_alike = ap (λ (v : Bool). v && eqb c.bit_offset 0 && eqb c.bit_count 64) variable_alike

  value_relinked : (s : List ℕ) (id_size : ℕ) → value_of s id_size (relinked c link) ≡ value_of s id_size c
  value_relinked s id_size =
      sym (laid_anew s id_size (relinked c link) c.data_type refl {payload = variable_length c} (sym variable_alike) refl refl refl)
      ∙ laid_anew s id_size c c.data_type refl refl refl refl refl

  judged_relinked : (s : List ℕ) (g : Group) (payload : List ℕ)
      → payload_value_of s g (relinked c link) payload ≡ payload_value_of s g c payload
  unfolding payload_value_of valid_of
  judged_relinked s g payload = rw (value_relinked payload g.id_size)

  behind_relinked : (j : Reply (List ℕ)) (size : ℕ) (g : Group) (o : Outcome (Unit {0})) (room : List ℕ)
      → payload_behind j size g (relinked c link) o room ≡ payload_behind j size g c o room
  unfolding payload_of position_of
  behind_relinked j size g o room =
      let p = stored (and_then o.reply (λ u. payload_of j (take size o.buffer) g.id_size c)) room in
      ap (λ (r : Reply PayloadValue). record { reply = r; record_buffer = o.buffer; payload_buffer = p.buffer })
      (and_then_alike p.reply (judged_relinked (take size o.buffer) g))

  pub link_alike : (j s : List ℕ) (k size : ℕ) (g : Group) (out room : List ℕ)
      → payload_in j s k size g (relinked c link) out room ≡ payload_in j s k size g c out room
  link_alike j s k size g out room =
      ap₂ (λ (b : Bool) (o : Outcomes PayloadValue). if not b then record { reply = refusal 35 0; record_buffer = out; payload_buffer = room } else o)
      held_alike (behind_relinked (answer s) size g (record_in j k size out) room)

-- ---- the calls

-- Of a call that is given a file, a start, a description and two buffers, with all else fixed: `Says` is its clause, of a
-- result and of what the buffers hold afterwards; `meaning` is what those mean, and `shown` what an outcome of the definitions
-- means then
module _ {Start Description Result Meaning : Type 0} (address : Start → ℕ) (described : Description → Channel)
    (Says : Slice → Start → Description → Room → Room → Result → List ℕ → List ℕ → Type 0)
    (meaning : Result → List ℕ → List ℕ → Meaning) (shown : Outcomes PayloadValue → Meaning)
    (number size : ℕ) (group : Group) where
  abbrev AsDefined : Type 0
  AsDefined = (file : Slice) (start : Start) (c : Description) (out room : Room) (y : Result) (after later : List ℕ)
      → Says file start c out room y after later
      → meaning y after later ≡ shown (payload_fetched file.now (address start) number size group (described c) out.now room.now)

  abbrev One : Type 0
  One = (y z : Result) (a b v w : List ℕ) → meaning y a v ≡ meaning z b w → (y ≡ z) × (a ≡ b) × (v ≡ w)

  -- the file joins to j and, from the link of the description on, to s
  abbrev pub Both : List ℕ → List ℕ → Slice → Start → Description → Type 0
  Both j s file start c = Joins file.now (address start) j × JoinsBy id_sd file.now (described c).data_link s

  abbrev pub OfJoined : Type 0
  OfJoined = (j s : List ℕ) (file : Slice) (start : Start) (c : Description) (out room : Room) (y : Result) (after later : List ℕ)
      → Both j s file start c → Says file start c out room y after later
      → meaning y after later ≡ shown (payload_in j s number size group (described c) out.now room.now)

  -- the descriptions differ in the link at most
  abbrev pub Alike : Type 0
  Alike = (j s : List ℕ) (f g : Slice) (a b : Start) (c d : Description) (out other room another : Room) (y z : Result) (after left later kept : List ℕ)
      → Both j s f a c → Both j s g b d → described d ≡ relinked (described c) (described d).data_link
      → out.now ≡ other.now → room.now ≡ another.now
      → Says f a c out room y after later → Says g b d other another z left kept
      → (y ≡ z) × (after ≡ left) × (later ≡ kept)

  of_joined : AsDefined → OfJoined
  of_joined as_defined j s file start c out room y after later h p =
      as_defined file start c out room y after later p
      ∙ ap shown (payload_of_joined file.now (address start) (described c) j s h.0 h.1 number size group out.now room.now)

  alike : AsDefined → One → Alike
  alike as_defined one j s f g a b c d out other room another y z after left later kept h i same eo er p q =
      let to : Channel = described d in
      let linked = link_alike (described c) to.data_link h.1.accepted.some i.1.accepted.some j s number size group other.now another.now in
      one y z after left later kept
      (of_joined as_defined j s f a c out room y after later h p
      ∙ ap₂ (λ (x v : List ℕ). shown (payload_in j s number size group (described c) x v)) eo er
      ∙ ap shown (sym (ap (λ (x : Channel). payload_in j s number size group x other.now another.now) same ∙ linked))
      ∙ sym (of_joined as_defined j s g b d other another z left kept i q))

module _ (κs : Lfts 3) (number size : ℕ) (group : code_group.Group) where
  -- ---- read_payload

  abbrev pub PayloadSays : Slice → FileAddress → code.Channel → Room → Room → Result DecodedPayload Refusal → List ℕ → List ℕ → Type 0
  PayloadSays file start channel out room = ReadsPayload κs file start number size group channel out room

  pub read_payload_of_joined : OfJoined (λ (a : FileAddress). a.0) channel_meant PayloadSays payload_fetched_by (λ o. o) number size (group_meant group)
  read_payload_of_joined =
      of_joined (λ (a : FileAddress). a.0) channel_meant PayloadSays payload_fetched_by (λ o. o) number size (group_meant group)
      (λ file start c out room y after later p. p)

  pub read_payload_alike : Alike (λ (a : FileAddress). a.0) channel_meant PayloadSays payload_fetched_by (λ o. o) number size (group_meant group)
  read_payload_alike =
      alike (λ (a : FileAddress). a.0) channel_meant PayloadSays payload_fetched_by (λ o. o) number size (group_meant group)
      (λ file start c out room y after later p. p) payload_fetched_one

module _ (κs : Lfts 3) (number size : ℕ) (group : Mf4Group) where
  -- ---- mf4_record_payload

  abbrev pub PayloadSaysC : Slice → ℕ → Mf4Channel → Room → Room → Mf4PayloadReply → List ℕ → List ℕ → Type 0
  PayloadSaysC file start channel out room = ReadsPayloadC κs file start number size group channel out room

  pub mf4_record_payload_of_joined : OfJoined (λ a. a) channel_given PayloadSaysC returned_both (returned_both_by payload_c) number size (group_given group)
  mf4_record_payload_of_joined =
      of_joined (λ a. a) channel_given PayloadSaysC returned_both (returned_both_by payload_c) number size (group_given group)
      (λ file start c out room y after later p. p)

  pub mf4_record_payload_alike : Alike (λ a. a) channel_given PayloadSaysC returned_both (returned_both_by payload_c) number size (group_given group)
  mf4_record_payload_alike =
      alike (λ a. a) channel_given PayloadSaysC returned_both (returned_both_by payload_c) number size (group_given group)
      (λ file start c out room y after later p. p) (λ y z a b v w e. one_returned_both e)
