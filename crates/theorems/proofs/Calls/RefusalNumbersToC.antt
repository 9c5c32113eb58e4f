-- Which numbers the replies of each call for C have that are not 0: about its own clause.
use mathlib.Core.Path.{◌≡◌, refl, sym, ap, subst}
use mathlib.Core.List.{List, map}
use Prim.Native.Nat.{ℕ}
use contract.Lifetimes.{Lfts}
use denote.Ref.{Bor}
use Rattle.definitions.specs.Reply.{Reply, Outcome, answer, refusal}
use Rattle.definitions.specs.Unicode.{Encoding}
use Rattle.definitions.specs.DataList.{equal, variable}
use Rattle.definitions.specs.Channel.{Channel, ValidValue}
use Rattle.definitions.specs.Overlap.{Overlap, pair, none}
use Rattle.block_replies.specs.Replies.{returned, returned_by, header_given, header_c, list_c, written_c, ReturnedBoth}
use Rattle.replies.specs.Replies.{text_c, done_c}
use Rattle.block_replies.specs.Channels.{block_given, channel_c, channel_given}
use Rattle.replies.specs.Overlaps.{overlap_c}
use Rattle.replies.specs.Values.{group_given, value_c, valid_value_c, validity_c, length_c, payload_c}
use Rattle.replies.specs.Stored.{number_given}
use Rattle.block_replies.specs.declared.header.Mf4Header.{Mf4Header}
use Rattle.block_replies.specs.declared.header.Mf4HeaderReply.{Mf4HeaderReply}
use Rattle.block_replies.specs.declared.list.Mf4ListReply.{Mf4ListReply}
use Rattle.block_replies.specs.declared.channel_block.Mf4ChannelBlock.{Mf4ChannelBlock}
use Rattle.block_replies.specs.declared.channel_block.Mf4ChannelReply.{Mf4ChannelReply}
use Rattle.block_replies.specs.declared.written.Mf4WrittenReply.{Mf4WrittenReply}
use Rattle.replies.specs.declared.texts.Mf4TextReply.{Mf4TextReply}
use Rattle.block_replies.specs.declared.channel.Mf4Channel.{Mf4Channel}
use Rattle.replies.specs.declared.group.Mf4Group.{Mf4Group}
use Rattle.replies.specs.declared.values.Mf4ValueReply.{Mf4ValueReply}
use Rattle.replies.specs.declared.valid_values.Mf4ValidValueReply.{Mf4ValidValueReply}
use Rattle.replies.specs.declared.validity.Mf4ValidityReply.{Mf4ValidityReply}
use Rattle.replies.specs.declared.fetches.Mf4LengthReply.{Mf4LengthReply}
use Rattle.replies.specs.declared.done.Mf4DoneReply.{Mf4DoneReply}
use Rattle.replies.specs.declared.stored.Mf4Number.{Mf4Number}
use Rattle.replies.specs.declared.payload.Mf4PayloadReply.{Mf4PayloadReply}
use Rattle.replies.specs.declared.overlap.Mf4OverlapReply.{Mf4OverlapReply}
use Rattle.mf4.specs.Clauses.{Slice, Room}
use Rattle.theorems.specs.ClausesToC.{ReadsHeaderC, WritesHeaderC, ReadsListC, WritesEqualC, WritesVariableC, ReadsChannelC, WritesChannelC, WritesTextC, ReadsValueC, ReadsValidValueC, ReadsUnboundedC, ChecksValidityC, WritesValueC, ReadsLengthC, ReadsRecordC, ReadsRecordValueC, ReadsPayloadC}
use Rattle.theorems.proofs.Calls.Outcomes.{returned_result}
use Rattle.theorems.proofs.Calls.RefusalNumbers.{Numbered, OfBlocks, OfFields, OfArea, OfBounded, OfFetches, OfPayloads, header_numbered, list_numbered, channel_numbered, header_written_numbered, channel_written_numbered, list_written_numbered, text_written_numbered, length_numbered, fetched_numbered, value_numbered, valid_value_numbered, bounded_valid_numbered, bounded_value_numbered, value_fetched_numbered}
use Rattle.theorems.proofs.Texts.TextClausesToC.{text_clause}
use Rattle.theorems.proofs.Payloads.PayloadEnds.{fetched_payload_numbered}
use Rattle.theorems.proofs.Writing.WrittenEnds.{OfWriting, value_written_numbered}
use Rattle.theorems.proofs.Overlaps.Overlaps.{OfOverlaps, overlap_numbered}
use Rattle.theorems.proofs.Overlaps.OverlapsToC.{FindsOverlapC}

-- a struct with this reply, which tells this, holds no refusal but of these
abbrev pub NumberedC : (ℕ → ℕ → Type 0) → ℕ → ℕ → Type 0
NumberedC P n t = (n ≡ 0 → ⊥) → P n t

-- of a struct that is made of a reply: its first two fields hold a refusal's number and what it tells, and the first is else 0
module _ {A R : Type 0} (to_c : Reply A → R) (number told : R → ℕ) (zero : (a : A) → number (to_c (answer a)) ≡ 0)
    (same : (n t : ℕ) → (number (to_c (refusal n t)) ≡ n) × (told (to_c (refusal n t)) ≡ t))
  where
    by_reply : {P : ℕ → ℕ → Type 0} (r : Reply A) → Numbered P r → NumberedC P (number (to_c r)) (told (to_c r))
    by_reply (answer a) h some = absurd (some (zero a))
    by_reply (refusal n t) h some = rw ((same n t).0, (same n t).1) (h n t refl)

    numbered : {P : ℕ → ℕ → Type 0} {y : R} (r : Reply A) → y ≡ to_c r → Numbered P r → NumberedC P (number y) (told y)
    numbered {P} r p h = subst (λ (x : R). NumberedC P (number x) (told x)) (sym p) (by_reply r h)

    -- beside a buffer
    pub numbered_beside : {P : ℕ → ℕ → Type 0} {y : R} {after : List ℕ} (o : Outcome A) → returned y after ≡ returned_by to_c o → Numbered P o.reply
        → NumberedC P (number y) (told y)
    numbered_beside o p h = numbered o.reply (returned_result p) h

-- of the structs that several calls return
module _ {P : ℕ → ℕ → Type 0} where
  written : {y : Mf4WrittenReply} {after : List ℕ} (o : Outcome ℕ) → returned y after ≡ returned_by written_c o → Numbered P o.reply → NumberedC P y.reply y.told
  written = numbered_beside written_c (λ (y : Mf4WrittenReply). y.reply) (λ (y : Mf4WrittenReply). y.told) (λ n. refl) (λ n t. (refl, refl))

  pub done : {y : Mf4DoneReply} {after : List ℕ} (o : Outcome (Unit {0})) → returned y after ≡ returned_by done_c o → Numbered P o.reply → NumberedC P y.reply y.told
  done = numbered_beside done_c (λ (y : Mf4DoneReply). y.reply) (λ (y : Mf4DoneReply). y.told) (λ u. refl) (λ n t. (refl, refl))

  pub valid_value : {y : Mf4ValidValueReply} (r : Reply ValidValue) → y ≡ valid_value_c r → Numbered P r → NumberedC P y.reply y.told
  valid_value = numbered valid_value_c (λ (y : Mf4ValidValueReply). y.reply) (λ (y : Mf4ValidValueReply). y.told) (λ v. refl) (λ n t. (refl, refl))

-- ---- blocks

pub header_read_numbered : (κs : Lfts 1) (bytes : Slice) (y : Mf4HeaderReply) → ReadsHeaderC κs bytes y → NumberedC OfBlocks y.reply y.told
header_read_numbered κs bytes y p = numbered header_c (λ (x : Mf4HeaderReply). x.reply) (λ (x : Mf4HeaderReply). x.told) (λ h. refl) (λ n t. (refl, refl)) _ p (header_numbered bytes.now)

pub header_write_numbered : (κs : Lfts 1) (header : Mf4Header) (out : Room) (y : Mf4WrittenReply) (after : List ℕ)
    → WritesHeaderC κs header out y after → NumberedC OfBlocks y.reply y.told
header_write_numbered κs header out y after p =
    written _ p (header_written_numbered out.now (header_given header))

pub list_read_numbered : (κs : Lfts 1) (bytes : Slice) (y : Mf4ListReply) → ReadsListC κs bytes y → NumberedC OfBlocks y.reply y.told
list_read_numbered κs bytes y p = numbered list_c (λ (x : Mf4ListReply). x.reply) (λ (x : Mf4ListReply). x.told) (λ d. refl) (λ n t. (refl, refl)) _ p (list_numbered bytes.now)

pub list_equal_numbered : (κs : Lfts 2) (next : ℕ) (links : Slice) (length : ℕ) (out : Room) (y : Mf4WrittenReply) (after : List ℕ)
    → WritesEqualC κs next links length out y after → NumberedC OfBlocks y.reply y.told
list_equal_numbered κs next links length out y after p =
    written _ p (list_written_numbered out.now next links.now (equal length))

pub list_variable_numbered : (κs : Lfts 3) (next : ℕ) (links offsets : Slice) (out : Room) (y : Mf4WrittenReply) (after : List ℕ)
    → WritesVariableC κs next links offsets out y after → NumberedC OfBlocks y.reply y.told
list_variable_numbered κs next links offsets out y after p =
    written _ p (list_written_numbered out.now next links.now (variable offsets.now))

pub channel_read_numbered : (κs : Lfts 1) (bytes : Slice) (y : Mf4ChannelReply) → ReadsChannelC κs bytes y → NumberedC OfBlocks y.reply y.told
channel_read_numbered κs bytes y p = numbered channel_c (λ (x : Mf4ChannelReply). x.reply) (λ (x : Mf4ChannelReply). x.told) (λ b. refl) (λ n t. (refl, refl)) _ p (channel_numbered bytes.now)

pub channel_write_numbered : (κs : Lfts 1) (block : Mf4ChannelBlock) (out : Room) (y : Mf4WrittenReply) (after : List ℕ)
    → WritesChannelC κs block out y after → NumberedC OfBlocks y.reply y.told
channel_write_numbered κs block out y after p =
    written _ p (channel_written_numbered out.now (block_given block))

-- ---- a text

pub text_write_numbered : (e : Encoding) (κs : Lfts 2) (bytes : Slice) (out : Room) (y : Mf4TextReply) (after : List ℕ)
    → WritesTextC e κs bytes out y after → NumberedC OfBlocks y.reply y.told
text_write_numbered e κs bytes out y after p = numbered_beside text_c (λ (x : Mf4TextReply). x.reply) (λ (x : Mf4TextReply). x.told) (λ a. refl) (λ n t. (refl, refl)) _ (text_clause e κs bytes out y after p) (text_written_numbered out.now e bytes.now)

-- ---- a field, read and written

pub value_read_numbered : (κs : Lfts 1) (bytes : Slice) (id_size : ℕ) (channel : Mf4Channel) (y : Mf4ValueReply)
    → ReadsValueC κs bytes id_size channel y → NumberedC OfFields y.reply y.told
value_read_numbered κs bytes id_size channel y p =
    numbered value_c (λ (x : Mf4ValueReply). x.reply) (λ (x : Mf4ValueReply). x.told) (λ v. refl) (λ n t. (refl, refl)) _ p (value_numbered bytes.now id_size (channel_given channel))

pub valid_value_read_numbered : (κs : Lfts 1) (bytes : Slice) (group : Mf4Group) (channel : Mf4Channel) (y : Mf4ValidValueReply)
    → ReadsValidValueC κs bytes group channel y → NumberedC OfBounded y.reply y.told
valid_value_read_numbered κs bytes group channel y p =
    valid_value _ p (bounded_value_numbered bytes.now (group_given group) (channel_given channel))

pub unbounded_read_numbered : (κs : Lfts 1) (bytes : Slice) (group : Mf4Group) (channel : Mf4Channel) (y : Mf4ValidValueReply)
    → ReadsUnboundedC κs bytes group channel y → NumberedC OfFields y.reply y.told
unbounded_read_numbered κs bytes group channel y p =
    valid_value _ p (valid_value_numbered bytes.now (group_given group) (channel_given channel))

pub check_validity_numbered : (κs : Lfts 1) (bytes : Slice) (group : Mf4Group) (channel : Mf4Channel) (y : Mf4ValidityReply)
    → ChecksValidityC κs bytes group channel y → NumberedC OfArea y.reply y.told
check_validity_numbered κs bytes group channel y p =
    numbered validity_c (λ (x : Mf4ValidityReply). x.reply) (λ (x : Mf4ValidityReply). x.told) (λ b. refl) (λ n t. (refl, refl)) _ p
    (bounded_valid_numbered bytes.now (group_given group) (channel_given channel))

pub value_write_numbered : (κs : Lfts 1) (id_size : ℕ) (channel : Mf4Channel) (value : Mf4Number) (bytes : Room) (y : Mf4DoneReply) (after : List ℕ)
    → WritesValueC κs id_size channel value bytes y after → NumberedC OfWriting y.reply y.told
value_write_numbered κs id_size channel value bytes y after p =
    done _ p (value_written_numbered bytes.now id_size (channel_given channel) (number_given value))

-- ---- the joined data, a record of it, a value in that, and a payload

pub length_read_numbered : (κs : Lfts 1) (file : Slice) (start : ℕ) (y : Mf4LengthReply) → ReadsLengthC κs file start y → NumberedC OfBlocks y.reply y.told
length_read_numbered κs file start y p = numbered length_c (λ (x : Mf4LengthReply). x.reply) (λ (x : Mf4LengthReply). x.told) (λ a. refl) (λ n t. (refl, refl)) _ p (length_numbered file.now start)

pub record_read_numbered : (κs : Lfts 2) (file : Slice) (start number size : ℕ) (out : Room) (y : Mf4DoneReply) (after : List ℕ)
    → ReadsRecordC κs file start number size out y after → NumberedC OfBlocks y.reply y.told
record_read_numbered κs file start number size out y after p =
    done _ p (fetched_numbered file.now start number size out.now)

pub record_value_numbered : (κs : Lfts 2) (file : Slice) (start number size : ℕ) (group : Mf4Group) (channel : Mf4Channel) (out : Room) (y : Mf4ValidValueReply) (after : List ℕ)
    → ReadsRecordValueC κs file start number size group channel out y after → NumberedC OfFetches y.reply y.told
record_value_numbered κs file start number size group channel out y after p =
    valid_value _ (returned_result p)
    (value_fetched_numbered file.now start number size out.now (group_given group) (channel_given channel))

pub record_payload_numbered : (κs : Lfts 3) (file : Slice) (start number size : ℕ) (group : Mf4Group) (channel : Mf4Channel) (out room : Room) (y : Mf4PayloadReply) (after later : List ℕ)
    → ReadsPayloadC κs file start number size group channel out room y after later → NumberedC OfPayloads y.reply y.told
record_payload_numbered κs file start number size group channel out room y after later p =
    numbered payload_c (λ (x : Mf4PayloadReply). x.reply) (λ (x : Mf4PayloadReply). x.told) (λ v. refl) (λ n t. (refl, refl)) _
    (ap (λ (x : ReturnedBoth Mf4PayloadReply). x.result) p)
    (fetched_payload_numbered file.now start number size (group_given group) (channel_given channel) out.now room.now)

-- ---- overlaps; `other` stands past the end of the list, and is never asked

overlap_zero : (o : Overlap) → (overlap_c (answer o)).reply ≡ 0
overlap_zero (pair i j) = refl
overlap_zero none = refl

pub first_overlap_numbered : (other : Channel) (list : Bor (List Mf4Channel)) (y : Mf4OverlapReply) → FindsOverlapC list y → NumberedC OfOverlaps y.reply y.told
first_overlap_numbered other list y p = numbered overlap_c (λ (x : Mf4OverlapReply). x.reply) (λ (x : Mf4OverlapReply). x.told) overlap_zero (λ n t. (refl, refl)) _ p (overlap_numbered other (map channel_given list.now))
