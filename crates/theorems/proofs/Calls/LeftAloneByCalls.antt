-- What each call that is lent a buffer leaves there: where it refuses, every byte; where it answers, every byte behind those that
-- it reports. Each theorem is about the call's own clause. Of a fetched record's field `FetchEnds` has it, of payloads
-- `PayloadsByCalls`, of a report `ReportsByCalls`, of a number that is written `WrittenValuesByCalls`.
use mathlib.Core.Path.{◌≡◌, sym, ◌∙◌, subst}
use mathlib.Core.List.{List}
use Prim.Native.Nat.{ℕ}
use contract.Lifetimes.{Lfts}
use Rattle.definitions.specs.Reply.{Reply, Outcome, answer, refusal}
use Rattle.definitions.specs.DataList.{equal, variable}
use Rattle.mf4.specs.Clauses.{Slice, Room}
use Rattle.theorems.specs.Clauses.{WritesHeader, WritesChannel, WritesEqual, WritesVariable, WritesText, ReadsRecord}
use Rattle.theorems.proofs.Calls.Outcomes.{of_buffer, of_outcome}
use Rattle.theorems.proofs.Calls.LeftAlone.{SameBehind, untouched, Leaves, itself, count_of, header_leaves, channel_leaves, list_leaves, text_leaves, fetch_leaves}
use Rattle.blocks.specs.Meaning.{header_meant, written_reply}
use Rattle.channels.specs.Meaning.{channel_block_meant}
use Rattle.blocks.specs.declared.header.BlockHeader.{BlockHeader}
use Rattle.channels.specs.declared.channel_block.ChannelBlock.{ChannelBlock}
use Rattle.encodings.specs.Meaning.{encoding_of}
use Rattle.text.specs.Meaning.{text_reply}
use Rattle.encodings.specs.declared.encoding.Encoding.{Encoding}
use Rattle.records.specs.Meaning.{record_reply}
use Rattle.places.specs.declared.place.FileAddress.{FileAddress}

-- a refused call leaves every byte, and one that answers all behind the n bytes that it reports
pub record Spares (Refuses : Type 0) (n : ℕ) (before after : List ℕ) : Type 0 where
  pub refused : Refuses → after ≡ before
  pub behind : SameBehind n before after

-- of a clause `Says`, of a result and of what the buffer holds afterwards
abbrev pub Sparing : {Result : Type 0} → (Result → List ℕ → Type 0) → (Result → Type 0) → (Result → ℕ) → List ℕ → Type 0
Sparing {Result} Says Refuses count before = (y : Result) (after : List ℕ) → Says y after → Spares (Refuses y) (count y) before after

abbrev pub Refused : {A : Type 0} → Reply A → Type 0
Refused r = (n : ℕ) × (t : ℕ) × (r ≡ refusal n t)

-- what a reply reports, and a refusal reports nothing
abbrev pub reported : {A : Type 0} → (A → ℕ) → Reply A → ℕ
reported count (answer a) = count a
reported count (refusal n t) = 0

-- from what the definition leaves
module _ {Result A : Type 0} (reply : Result → Reply A) (count : A → ℕ) (o : Outcome A) (before : List ℕ) (h : Leaves count before o) where
  by_reply : (r : Reply A) → o.reply ≡ r → SameBehind (reported count r) before o.buffer
  by_reply (answer a) e = h.answers a e
  by_reply (refusal n t) e = untouched 0 before o.buffer (h.refused n t e)

  pub sparing : Sparing (λ y after. record { reply = reply y; buffer = after } ≡ o) (λ y. Refused (reply y)) (λ y. reported count (reply y)) before
  sparing y after p =
      let same : after ≡ o.buffer = of_buffer p in
      let replied : o.reply ≡ reply y = sym (of_outcome p) in
      record {
        refused = λ q. same ∙ h.refused q.0 q.1 (replied ∙ q.2);
        behind = subst (SameBehind (reported count (reply y)) before) (sym same) (by_reply (reply y) replied);
      }

module _ (κs : Lfts 1) (header : BlockHeader) (out : Room) where
  pub header_write_spares : Sparing (WritesHeader κs header out) (λ y. Refused (written_reply y)) (λ y. reported itself (written_reply y)) out.now
  header_write_spares = sparing written_reply itself _ out.now (header_leaves out.now (header_meant header))

module _ (κs : Lfts 1) (block : ChannelBlock) (out : Room) where
  pub channel_write_spares : Sparing (WritesChannel κs block out) (λ y. Refused (written_reply y)) (λ y. reported itself (written_reply y)) out.now
  channel_write_spares = sparing written_reply itself _ out.now (channel_leaves out.now (channel_block_meant block))

module _ (κs : Lfts 2) (next : ℕ) (links : Slice) (length : ℕ) (out : Room) where
  pub list_equal_spares : Sparing (WritesEqual κs next links length out) (λ y. Refused (written_reply y)) (λ y. reported itself (written_reply y)) out.now
  list_equal_spares = sparing written_reply itself _ out.now (list_leaves out.now next links.now (equal length))

module _ (κs : Lfts 3) (next : ℕ) (links offsets : Slice) (out : Room) where
  pub list_variable_spares : Sparing (WritesVariable κs next links offsets out) (λ y. Refused (written_reply y)) (λ y. reported itself (written_reply y)) out.now
  list_variable_spares = sparing written_reply itself _ out.now (list_leaves out.now next links.now (variable offsets.now))

module _ (κs : Lfts 2) (encoding : Encoding) (bytes : Slice) (out : Room) where
  pub text_write_spares : Sparing (WritesText κs encoding bytes out) (λ y. Refused (text_reply y)) (λ y. reported count_of (text_reply y)) out.now
  text_write_spares = sparing text_reply count_of _ out.now (text_leaves out.now (encoding_of encoding) bytes.now)

module _ (κs : Lfts 2) (file : Slice) (start : FileAddress) (number size : ℕ) (out : Room) where
  pub record_read_spares : Sparing (ReadsRecord κs file start number size out) (λ y. Refused (record_reply y)) (λ y. reported (λ u. size) (record_reply y)) out.now
  record_read_spares = sparing record_reply (λ u. size) _ out.now (fetch_leaves out.now file.now start.0 number size)
