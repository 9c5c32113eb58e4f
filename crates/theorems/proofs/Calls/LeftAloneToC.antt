-- What each call for C leaves in the buffer that it is lent: where its reply is not 0, every byte; where it is 0, every byte
-- behind those that it reports. Each theorem is about the call's own clause. Of a fetched record's field `FetchEnds` has it, of
-- payloads `PayloadsToC`, of a report `ReportsToC`, of a number that is written `WrittenValuesToC`.
use mathlib.Core.Path.{◌≡◌, refl, sym, subst}
use mathlib.Core.List.{List}
use Prim.Native.Nat.{ℕ}
use contract.Lifetimes.{Lfts}
use Rattle.definitions.specs.Reply.{Reply, Outcome, answer, refusal}
use Rattle.definitions.specs.Unicode.{Encoding}
use Rattle.definitions.specs.DataList.{equal, variable}
use Rattle.block_replies.specs.Replies.{Returned, returned, returned_by, header_given, written_c}
use Rattle.replies.specs.Replies.{text_c, done_c}
use Rattle.block_replies.specs.Channels.{block_given}
use Rattle.block_replies.specs.declared.header.Mf4Header.{Mf4Header}
use Rattle.block_replies.specs.declared.channel_block.Mf4ChannelBlock.{Mf4ChannelBlock}
use Rattle.block_replies.specs.declared.written.Mf4WrittenReply.{Mf4WrittenReply}
use Rattle.replies.specs.declared.texts.Mf4TextReply.{Mf4TextReply}
use Rattle.replies.specs.declared.done.Mf4DoneReply.{Mf4DoneReply}
use Rattle.mf4.specs.Clauses.{Slice, Room}
use Rattle.theorems.specs.ClausesToC.{WritesHeaderC, WritesChannelC, WritesEqualC, WritesVariableC, WritesTextC, ReadsRecordC}
use Rattle.theorems.proofs.Texts.TextClausesToC.{text_clause}
use Rattle.theorems.proofs.Calls.LeftAlone.{SameBehind, untouched, Leaves, itself, count_of, header_leaves, channel_leaves, list_leaves, text_leaves, fetch_leaves}
use Rattle.theorems.proofs.Calls.LeftAloneByCalls.{Spares, Sparing}

-- from what the definition leaves: `number` is the reply in the struct, and `counted` what it reports
module _ {A R : Type 0} (to_c : Reply A → R) (number counted : R → ℕ) (count : A → ℕ)
    (zero : (a : A) → number (to_c (answer a)) ≡ 0) (same : (a : A) → counted (to_c (answer a)) ≡ count a) where
  by_reply : (before buffer : List ℕ) (r : Reply A) → ((n t : ℕ) → r ≡ refusal n t → buffer ≡ before) → ((a : A) → r ≡ answer a → SameBehind (count a) before buffer)
      → Spares (number (to_c r) ≡ 0 → ⊥) (counted (to_c r)) before buffer
  by_reply before buffer (answer a) refused answers = record {
    refused = λ some. absurd (some (zero a));
    behind = subst (λ (n : ℕ). SameBehind n before buffer) (sym (same a)) (answers a refl);
  }
  by_reply before buffer (refusal n t) refused answers = record {
    refused = λ some. refused n t refl;
    behind = untouched _ before buffer (refused n t refl);
  }

  pub sparing : (o : Outcome A) (before : List ℕ) → Leaves count before o
      → Sparing (λ y after. returned y after ≡ returned_by to_c o) (λ y. number y ≡ 0 → ⊥) counted before
  sparing o before h y after p =
      subst (λ (x : Returned R). Spares (number x.result ≡ 0 → ⊥) (counted x.result) before x.buffer) (sym p)
      (by_reply before o.buffer o.reply h.refused h.answers)

written_sparing : (o : Outcome ℕ) (before : List ℕ) → Leaves itself before o
    → Sparing (λ y after. returned y after ≡ returned_by written_c o) (λ (y : Mf4WrittenReply). y.reply ≡ 0 → ⊥) (λ y. y.count) before
written_sparing = sparing written_c (λ (y : Mf4WrittenReply). y.reply) (λ (y : Mf4WrittenReply). y.count) itself (λ n. refl) (λ n. refl)

pub header_write_spares : (κs : Lfts 1) (header : Mf4Header) (out : Room)
    → Sparing (WritesHeaderC κs header out) (λ y. y.reply ≡ 0 → ⊥) (λ y. y.count) out.now
header_write_spares κs header out = written_sparing _ out.now (header_leaves out.now (header_given header))

pub channel_write_spares : (κs : Lfts 1) (block : Mf4ChannelBlock) (out : Room)
    → Sparing (WritesChannelC κs block out) (λ y. y.reply ≡ 0 → ⊥) (λ y. y.count) out.now
channel_write_spares κs block out = written_sparing _ out.now (channel_leaves out.now (block_given block))

pub list_equal_spares : (κs : Lfts 2) (next : ℕ) (links : Slice) (length : ℕ) (out : Room)
    → Sparing (WritesEqualC κs next links length out) (λ y. y.reply ≡ 0 → ⊥) (λ y. y.count) out.now
list_equal_spares κs next links length out = written_sparing _ out.now (list_leaves out.now next links.now (equal length))

pub list_variable_spares : (κs : Lfts 3) (next : ℕ) (links offsets : Slice) (out : Room)
    → Sparing (WritesVariableC κs next links offsets out) (λ y. y.reply ≡ 0 → ⊥) (λ y. y.count) out.now
list_variable_spares κs next links offsets out = written_sparing _ out.now (list_leaves out.now next links.now (variable offsets.now))

pub text_write_spares : (e : Encoding) (κs : Lfts 2) (bytes : Slice) (out : Room)
    → Sparing (WritesTextC e κs bytes out) (λ y. y.reply ≡ 0 → ⊥) (λ y. y.count) out.now
text_write_spares e κs bytes out y after p =
    sparing text_c (λ (y : Mf4TextReply). y.reply) (λ (y : Mf4TextReply). y.count) count_of (λ t. refl) (λ t. refl)
    _ out.now (text_leaves out.now e bytes.now) y after (text_clause e κs bytes out y after p)

pub record_read_spares : (κs : Lfts 2) (file : Slice) (start number size : ℕ) (out : Room)
    → Sparing (ReadsRecordC κs file start number size out) (λ y. y.reply ≡ 0 → ⊥) (λ y. size) out.now
record_read_spares κs file start number size out =
    sparing done_c (λ (y : Mf4DoneReply). y.reply) (λ y. size) (λ u. size) (λ u. refl) (λ u. refl)
    _ out.now (fetch_leaves out.now file.now start number size)
