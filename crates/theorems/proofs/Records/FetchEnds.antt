-- A call that fetches a record and reads a field of it ends in one of the ways of the table, whatever it is given; so no byte
-- behind the record changes. About the definition, and about each call's own clause.
use mathlib.Core.Path.{◌≡◌, refl, sym, ap, ◌∙◌, subst}
use mathlib.Core.List.{List}
use Prim.Native.Nat.{ℕ, ◌*◌}
use contract.Lifetimes.{Lfts}
use lib.ListN.{length, drop}
use Rattle.std.specs.Prelude.{Result}
use Rattle.definitions.specs.Reply.{Reply, Outcome, answer, refusal}
use Rattle.definitions.specs.Channel.{Channel, Group, ValidValue, bounded_value_of}
use Rattle.definitions.specs.Chain.{joined, fetched, field_of, value_fetched}
use Rattle.refusals.specs.declared.Refusal.{Refusal}
use Rattle.words.proofs.Spans.{length_span}
use Rattle.fields.specs.Meaning.{channel_meant, group_meant}
use Rattle.fields.specs.declared.channel.Channel.{Channel as Description}
use Rattle.fields.specs.declared.group.Group.{Group as Grouped}
use Rattle.fields.specs.declared.value.DecodedChannelValue.{DecodedChannelValue}
use Rattle.places.specs.declared.place.FileAddress.{FileAddress}
use Rattle.records.specs.Meaning.{value_fetched_by}
use Rattle.block_replies.specs.Channels.{channel_given}
use Rattle.replies.specs.Values.{group_given}
use Rattle.block_replies.specs.declared.channel.Mf4Channel.{Mf4Channel}
use Rattle.replies.specs.declared.group.Mf4Group.{Mf4Group}
use Rattle.replies.specs.declared.valid_values.Mf4ValidValueReply.{Mf4ValidValueReply}
use Rattle.replies.proofs.ToldToC.{valid_value_again}
use Rattle.mf4.specs.Clauses.{Slice, Room}
use Rattle.theorems.specs.Exactly.{Fetchable, record_bytes}
use Rattle.theorems.specs.FetchEnds.{record_left, FetchEnds, no_record, no_value, a_value}
use Rattle.theorems.specs.Clauses.{ReadsRecordValue}
use Rattle.theorems.specs.ClausesToC.{ReadsRecordValueC}
use Rattle.theorems.proofs.Calls.Outcomes.{returned_buffer}
use Rattle.theorems.proofs.Blocks.Rewritten.{front_of}
use Rattle.theorems.proofs.Calls.Answers.{fetched_exactly, fetched_record}
use Rattle.theorems.proofs.Calls.LeftAlone.{SameBehind, untouched, front_laid, fetch_leaves}
use Rattle.theorems.proofs.Calls.ToldToC.{mf4_record_value_told}

pub outcome_is : {A : Type 0} (o : Outcome A) {r : Reply A} {b : List ℕ} → o.reply ≡ r → o.buffer ≡ b → o ≡ record { reply = r; buffer = b }
outcome_is o er eb = rw (sym er, sym eb)

module _ (f : List ℕ) (start k size : ℕ) (g : Group) (c : Channel) (out : List ℕ) where
  abbrev Ends : Outcome ValidValue → Type 0
  Ends = FetchEnds f start k size g c out

  long : (h : Fetchable f start k size out) → length (record_bytes f start k size out h) ≡ size
  long h = length_span (joined f h.blocks) (k * size) size h.inside

  abbrev left : Fetchable f start k size out → Reply ValidValue → Outcome ValidValue
  left h r = record { reply = r; buffer = record_left f start k size out h }

  by_record : (h : Fetchable f start k size out) → value_fetched f start k size g c out ≡ left h (bounded_value_of (record_bytes f start k size out h) g c)
  unfolding value_fetched
  by_record h = ap (field_of size g c) (fetched_record f start k size out h) ∙ rw (front_of (record_bytes f start k size out h) (drop size out) size (long h))

  by_field : (h : Fetchable f start k size out) (r : Reply ValidValue) → bounded_value_of (record_bytes f start k size out h) g c ≡ r
      → Ends (value_fetched f start k size g c out)
  by_field h (refusal n t) e = no_value h n t e (by_record h ∙ ap (left h) e)
  by_field h (answer v) e = a_value h v e (by_record h ∙ ap (left h) e)

  by_reply : (r : Reply (Unit {0})) → (fetched f start k size out).reply ≡ r → Ends (value_fetched f start k size g c out)
  unfolding value_fetched
  by_reply (refusal n t) e =
      no_record n t e (ap (field_of size g c) (outcome_is (fetched f start k size out) e ((fetch_leaves out f start k size).refused n t e)))
  by_reply (answer u) e =
      let h : Fetchable f start k size out = (fetched_exactly f start k size out).only u e in
      by_field h (bounded_value_of (record_bytes f start k size out h) g c) refl

  pub value_ends : Ends (value_fetched f start k size g c out)
  value_ends = by_reply (fetched f start k size out).reply refl

  abbrev leaves : Outcome ValidValue → List ℕ
  leaves o = o.buffer

  laid : (o : Outcome ValidValue) (h : Fetchable f start k size out) → o.buffer ≡ record_left f start k size out h → SameBehind size out o.buffer
  laid o h e = subst (SameBehind size out) (sym e) (front_laid (record_bytes f start k size out h) out size (long h) h.room)

  pub ends_behind : (o : Outcome ValidValue) → Ends o → SameBehind size out o.buffer
  ends_behind o (no_record n t e row) = untouched size out o.buffer (ap leaves row)
  ends_behind o (no_value h n t e row) = laid o h (ap leaves row)
  ends_behind o (a_value h v e row) = laid o h (ap leaves row)

-- ---- read_value

module _ (κs : Lfts 2) (file : Slice) (start : FileAddress) (number size : ℕ) (group : Grouped) (channel : Description) (out : Room)
    (y : Result DecodedChannelValue Refusal) (after : List ℕ) (p : ReadsRecordValue κs file start number size group channel out y after)
  where
    pub record_value_ends : FetchEnds file.now start.0 number size (group_meant group) (channel_meant channel) out.now (value_fetched_by y after)
    record_value_ends =
        subst (FetchEnds file.now start.0 number size (group_meant group) (channel_meant channel) out.now) (sym p)
        (value_ends file.now start.0 number size (group_meant group) (channel_meant channel) out.now)

    pub record_value_behind : SameBehind size out.now after
    record_value_behind = ends_behind file.now start.0 number size (group_meant group) (channel_meant channel) out.now _ record_value_ends

-- ---- mf4_record_value: of the reply that the struct tells

module _ (κs : Lfts 2) (file : Slice) (start number size : ℕ) (group : Mf4Group) (channel : Mf4Channel) (out : Room)
    (y : Mf4ValidValueReply) (after : List ℕ) (p : ReadsRecordValueC κs file start number size group channel out y after)
  where
    pub mf4_record_value_ends : FetchEnds file.now start number size (group_given group) (channel_given channel) out.now (record { reply = valid_value_again y; buffer = after })
    mf4_record_value_ends =
        let left : after ≡ (value_fetched file.now start number size (group_given group) (channel_given channel) out.now).buffer =
        returned_buffer p in
        rw (mf4_record_value_told κs file start number size group channel out y after p, left)
        (value_ends file.now start number size (group_given group) (channel_given channel) out.now)

    pub mf4_record_value_behind : SameBehind size out.now after
    mf4_record_value_behind = ends_behind file.now start number size (group_given group) (channel_given channel) out.now _ mf4_record_value_ends
