-- The same of the call for C, and that nothing of its reply is lost on the way there: about the call's own clause.
use mathlib.Core.Path.{◌≡◌, refl, sym, ap, subst, ◌∙◌}
use mathlib.Core.List.{List}
use mathlib.Core.Bool.{true≢false}
use Prim.Native.Nat.{ℕ}
use contract.Lifetimes.{Lfts}
use Rattle.definitions.specs.Reply.{Reply, answer, refusal}
use Rattle.definitions.specs.Channel.{Channel, Group}
use Rattle.definitions.specs.Payload.{PayloadValue, Outcomes, payload_fetched}
use Rattle.mf4.specs.Clauses.{Slice, Room}
use Rattle.block_replies.specs.Channels.{channel_given}
use Rattle.replies.specs.Values.{group_given}
use Rattle.block_replies.specs.Replies.{ReturnedBoth}
use Rattle.block_replies.specs.declared.channel.Mf4Channel.{Mf4Channel}
use Rattle.replies.specs.declared.group.Mf4Group.{Mf4Group}
use Rattle.replies.specs.declared.payload.Mf4PayloadReply.{Mf4PayloadReply}
use Rattle.block_replies.proofs.ToldToC.{Tellable}
use Rattle.replies.proofs.ToldToC.{Reversible, of_kind_told, payload_again, payload_told_law}
use Rattle.theorems.specs.ClausesToC.{ReadsPayloadC}
use Rattle.theorems.specs.Exactly.{ExactlyZero, PayloadFetchable}
use Rattle.theorems.specs.PayloadEnds.{PayloadEnds}
use Rattle.theorems.proofs.Calls.RefusalNumbers.{Numbered, OfPayloads, not_zero}
use Rattle.theorems.proofs.Calls.ToldToC.{value_tellable}
use Rattle.theorems.proofs.Calls.AnswersToC.{zero_exactly}
use Rattle.theorems.proofs.Payloads.PayloadEnds.{payload_ends, fetched_payload_numbered, payload_answered}
use Rattle.theorems.proofs.Payloads.PayloadAnswers.{payload_exactly}

-- ---- the reply can be told

abbrev pub Told : PayloadValue → Type 0
Told v = Reversible v.value

module _ (f : List ℕ) (start k size : ℕ) (g : Group) (c : Channel) (out room : List ℕ) where
  by_reply : (r : Reply PayloadValue) → Numbered OfPayloads r → ((v : PayloadValue) → r ≡ answer v → Told v) → Tellable Told r
  by_reply (answer v) h g = g v refl
  by_reply (refusal n t) h g = not_zero OfPayloads (λ t h. true≢false (sym h)) n t (h n t refl)

  told_value : (v : PayloadValue) → (payload_fetched f start k size g c out room).reply ≡ answer v → Told v
  told_value v e =
      let r = payload_answered f start k size g c out room v e in
      subst (Tellable Reversible) r.value_is (value_tellable r.payload g.id_size c)

  pub payload_tellable : Tellable Told (payload_fetched f start k size g c out room).reply
  payload_tellable = by_reply _ (fetched_payload_numbered f start k size g c out room) told_value

-- ---- the call

module _ (κs : Lfts 3) (file : Slice) (start number size : ℕ) (group : Mf4Group) (channel : Mf4Channel) (out room : Room)
    (y : Mf4PayloadReply) (after later : List ℕ) (p : ReadsPayloadC κs file start number size group channel out room y after later) where
  abbrev given : Outcomes PayloadValue
  given = payload_fetched file.now start number size (group_given group) (channel_given channel) out.now room.now

  pub mf4_record_payload_told : payload_again y ≡ given.reply
  mf4_record_payload_told =
      ap (λ (x : ReturnedBoth Mf4PayloadReply). payload_again x.result) p
      ∙ payload_told_law _ (payload_tellable file.now start number size (group_given group) (channel_given channel) out.now room.now)

  pub mf4_record_payload_ends : PayloadEnds file.now start number size (group_given group) (channel_given channel) out.now room.now
      (record { reply = payload_again y; record_buffer = after; payload_buffer = later })
  mf4_record_payload_ends =
      let left : after ≡ given.record_buffer = ap (λ (x : ReturnedBoth Mf4PayloadReply). x.record_buffer) p in
      let kept : later ≡ given.payload_buffer = ap (λ (x : ReturnedBoth Mf4PayloadReply). x.payload_buffer) p in
      rw (mf4_record_payload_told, left, kept)
      (payload_ends file.now start number size (group_given group) (channel_given channel) out.now room.now)

  pub record_payload_zero : ExactlyZero (PayloadFetchable file.now start number size (group_given group).id_size (channel_given channel) out.now room.now) y.reply
  record_payload_zero =
      let told = of_kind_told Told y.reply y.told y.kind _ _
      (payload_tellable file.now start number size (group_given group) (channel_given channel) out.now room.now) mf4_record_payload_told in
      zero_exactly y.reply y.told _ _ told
      (payload_exactly file.now start number size (group_given group) (channel_given channel) out.now room.now)
