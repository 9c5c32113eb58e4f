-- Two files whose accepted chains join to the same bytes j: the calls that read a chain, the library's and C's, reply the same
-- for both and, lent buffers that hold the same bytes, leave the same; and it is what the definitions give on j. Each theorem
-- is about the call's own clause, `Learnt`.
use mathlib.Core.Path.{◌≡◌, sym, ap, ◌∙◌}
use mathlib.Core.List.{List}
use Prim.Native.Nat.{ℕ}
use contract.Lifetimes.{Lfts}
use lib.ListN.{length}
use Rattle.std.specs.Prelude.{Result}
use Rattle.definitions.specs.Reply.{Outcome, answer}
use Rattle.definitions.specs.Channel.{ValidValue, record_length}
use Rattle.refusals.specs.declared.Refusal.{Refusal}
use Rattle.chain.specs.Meaning.{chain_reply}
use Rattle.records.specs.Meaning.{fetched_by, value_fetched_by}
use Rattle.places.specs.declared.place.FileAddress.{FileAddress}
use Rattle.places.specs.declared.place.DataPosition.{DataPosition}
use Rattle.records.proofs.Back.{record_one}
use Rattle.fields.specs.Meaning.{channel_meant, group_meant, valid_value_reply}
use Rattle.fields.specs.declared.channel.Channel.{Channel}
use Rattle.fields.specs.declared.group.Group.{Group}
use Rattle.fields.specs.declared.value.DecodedChannelValue.{DecodedChannelValue}
use Rattle.fields.proofs.Back.{valid_value_one}
use Rattle.block_replies.specs.Replies.{Returned, returned, returned_by}
use Rattle.replies.specs.Replies.{done_c}
use Rattle.block_replies.specs.Channels.{channel_given}
use Rattle.replies.specs.Values.{group_given, valid_value_c, length_c}
use Rattle.replies.specs.declared.fetches.Mf4LengthReply.{Mf4LengthReply}
use Rattle.replies.specs.declared.done.Mf4DoneReply.{Mf4DoneReply}
use Rattle.block_replies.specs.declared.channel.Mf4Channel.{Mf4Channel}
use Rattle.replies.specs.declared.group.Mf4Group.{Mf4Group}
use Rattle.replies.specs.declared.valid_values.Mf4ValidValueReply.{Mf4ValidValueReply}
use Rattle.mf4.specs.Clauses.{Slice, Room}
use Rattle.theorems.specs.Clauses.{ReadsLength, ReadsRecord, ReadsRecordValue}
use Rattle.theorems.specs.ClausesToC.{ReadsLengthC, ReadsRecordC, ReadsRecordValueC}
use Rattle.theorems.proofs.Calls.Outcomes.{of_buffer, of_outcome, returned_buffer, returned_result}
use Rattle.theorems.proofs.Calls.AnswersToC.{record_value_zero}
use Rattle.theorems.proofs.Records.TwoFiles.{Joins, record_in, value_in, length_of_joined, record_of_joined, value_of_joined, value_sized}

-- Of a call that is given a file, a start and a buffer, with all else fixed: `Says` is its clause, of a result and of what
-- the buffer holds afterwards; `meaning` is what those two mean, and `given` what the definitions give on the joined bytes
-- for what the buffer held before
module _ {Start Result Meaning : Type 0} (address : Start → ℕ) (j : List ℕ)
    (Says : Slice → Start → Room → Result → List ℕ → Type 0) (meaning : Result → List ℕ → Meaning) (given : List ℕ → Meaning) where
  abbrev pub OfJoined : Type 0
  OfJoined = (file : Slice) (start : Start) (buffer : Room) (y : Result) (after : List ℕ)
      → Joins file.now (address start) j → Says file start buffer y after
      → meaning y after ≡ given buffer.now

  abbrev pub Alike : Type 0
  Alike = (f g : Slice) (s t : Start) (b c : Room) (y z : Result) (after later : List ℕ)
      → Joins f.now (address s) j → Joins g.now (address t) j → b.now ≡ c.now
      → Says f s b y after → Says g t c z later
      → (y ≡ z) × (after ≡ later)

  abbrev One : Type 0
  One = (y z : Result) (after later : List ℕ) → meaning y after ≡ meaning z later → (y ≡ z) × (after ≡ later)

  pub alike : One → OfJoined → Alike
  alike one of_joined f g s t b c y z after later h i e p q =
      one y z after later (of_joined f s b y after h p ∙ ap given e ∙ sym (of_joined g t c z later i q))

-- ---- data_length, mf4_data_length

pub data_length_of_joined : (κs : Lfts 1) (j : List ℕ) (file : Slice) (start : FileAddress) (y : Result DataPosition Refusal)
    → Joins file.now start.0 j → ReadsLength κs file start y → chain_reply y ≡ answer (length j)
data_length_of_joined κs j file start y h p = p ∙ length_of_joined file.now start.0 j h

pub mf4_data_length_of_joined : (κs : Lfts 1) (j : List ℕ) (file : Slice) (start : ℕ) (y : Mf4LengthReply)
    → Joins file.now start j → ReadsLengthC κs file start y → y ≡ length_c (answer (length j))
mf4_data_length_of_joined κs j file start y h p = p ∙ ap length_c (length_of_joined file.now start j h)

module _ (κs : Lfts 2) (j : List ℕ) (number size : ℕ) where
  -- ---- read_record

  abbrev pub RecordSays : Slice → FileAddress → Room → Result (Unit {0}) Refusal → List ℕ → Type 0
  RecordSays file start buffer = ReadsRecord κs file start number size buffer

  pub read_record_of_joined : OfJoined (λ (s : FileAddress). s.0) j RecordSays fetched_by (record_in j number size)
  read_record_of_joined file start buffer y after h p = p ∙ record_of_joined file.now start.0 j h number size buffer.now

  pub read_record_alike : Alike (λ (s : FileAddress). s.0) j RecordSays fetched_by (record_in j number size)
  read_record_alike =
      alike (λ (s : FileAddress). s.0) j RecordSays fetched_by (record_in j number size)
      (λ y z after later e. (record_one y z (of_outcome e), of_buffer e))
      read_record_of_joined

  -- ---- mf4_read_record

  abbrev pub RecordSaysC : Slice → ℕ → Room → Mf4DoneReply → List ℕ → Type 0
  RecordSaysC file start buffer = ReadsRecordC κs file start number size buffer

  pub mf4_read_record_of_joined : OfJoined (λ s. s) j RecordSaysC returned (λ out. returned_by done_c (record_in j number size out))
  mf4_read_record_of_joined file start buffer y after h p =
      p ∙ ap (returned_by done_c) (record_of_joined file.now start j h number size buffer.now)

  pub mf4_read_record_alike : Alike (λ s. s) j RecordSaysC returned (λ out. returned_by done_c (record_in j number size out))
  mf4_read_record_alike =
      alike (λ s. s) j RecordSaysC returned (λ out. returned_by done_c (record_in j number size out))
      (λ y z after later e. (returned_result e, returned_buffer e))
      mf4_read_record_of_joined

module _ (κs : Lfts 2) (j : List ℕ) (number size : ℕ) where
  -- ---- read_value

  module _ (group : Group) (channel : Channel) where
    abbrev pub ValueSays : Slice → FileAddress → Room → Result DecodedChannelValue Refusal → List ℕ → Type 0
    ValueSays file start buffer = ReadsRecordValue κs file start number size group channel buffer

    abbrev value_given : List ℕ → Outcome ValidValue
    value_given = value_in j number size (group_meant group) (channel_meant channel)

    pub read_value_of_joined : OfJoined (λ (s : FileAddress). s.0) j ValueSays value_fetched_by value_given
    read_value_of_joined file start buffer y after h p =
        p ∙ value_of_joined file.now start.0 j h number size (group_meant group) (channel_meant channel) buffer.now

    pub read_value_alike : Alike (λ (s : FileAddress). s.0) j ValueSays value_fetched_by value_given
    read_value_alike =
        alike (λ (s : FileAddress). s.0) j ValueSays value_fetched_by value_given
        (λ y z after later e. (valid_value_one y z (of_outcome e), of_buffer e))
        read_value_of_joined

    -- a value is answered only where the record size is the group's sum
    pub read_value_sized : (file : Slice) (start : FileAddress) (buffer : Room) (y : Result DecodedChannelValue Refusal) (after : List ℕ) (v : ValidValue)
        → ValueSays file start buffer y after → valid_value_reply y ≡ answer v → size ≡ record_length (group_meant group)
    read_value_sized file start buffer y after v p e =
        value_sized file.now start.0 number size (group_meant group) (channel_meant channel) buffer.now v
        (sym (of_outcome p) ∙ e)

  -- ---- mf4_record_value

  module _ (group : Mf4Group) (channel : Mf4Channel) where
    abbrev pub ValueSaysC : Slice → ℕ → Room → Mf4ValidValueReply → List ℕ → Type 0
    ValueSaysC file start buffer = ReadsRecordValueC κs file start number size group channel buffer

    abbrev value_given_c : List ℕ → Returned Mf4ValidValueReply
    value_given_c out = returned_by valid_value_c (value_in j number size (group_given group) (channel_given channel) out)

    pub mf4_record_value_of_joined : OfJoined (λ s. s) j ValueSaysC returned value_given_c
    mf4_record_value_of_joined file start buffer y after h p =
        p ∙ ap (returned_by valid_value_c) (value_of_joined file.now start j h number size (group_given group) (channel_given channel) buffer.now)

    pub mf4_record_value_alike : Alike (λ s. s) j ValueSaysC returned value_given_c
    mf4_record_value_alike =
        alike (λ s. s) j ValueSaysC returned value_given_c
        (λ y z after later e. (returned_result e, returned_buffer e))
        mf4_record_value_of_joined

    pub mf4_record_value_sized : (file : Slice) (start : ℕ) (buffer : Room) (y : Mf4ValidValueReply) (after : List ℕ)
        → ValueSaysC file start buffer y after → y.reply ≡ 0 → size ≡ record_length (group_given group)
    mf4_record_value_sized file start buffer y after p e =
        ((record_value_zero κs file start number size group channel buffer y after p).only e).area.long
