-- The same about the clauses of the calls: a fetch by a table that calls made, held beside the fetch through the chain.
use mathlib.Core.Path.{◌≡◌, sym, ap, ◌∙◌}
use mathlib.Core.List.{List}
use Prim.Native.Nat.{ℕ, ◌≤◌}
use contract.Lifetimes.{Lfts}
use lib.ListN.{length}
use Rattle.std.specs.Prelude.{Result}
use Rattle.definitions.specs.Reply.{answer}
use Rattle.definitions.specs.Chain.{file_limit, joined}
use Rattle.refusals.specs.declared.Refusal.{Refusal}
use Rattle.fields.specs.Meaning.{channel_meant, group_meant}
use Rattle.fields.specs.declared.channel.Channel.{Channel}
use Rattle.fields.specs.declared.group.Group.{Group}
use Rattle.fields.specs.declared.value.DecodedChannelValue.{DecodedChannelValue}
use Rattle.fields.proofs.Back.{valid_value_one}
use Rattle.records.specs.Meaning.{fetched_by, value_fetched_by}
use Rattle.records.proofs.Back.{fetched_one}
use Rattle.block_replies.specs.Replies.{returned, returned_by}
use Rattle.block_replies.specs.Channels.{channel_given}
use Rattle.replies.specs.Replies.{done_c}
use Rattle.replies.specs.Values.{group_given, valid_value_c}
use Rattle.block_replies.specs.declared.channel.Mf4Channel.{Mf4Channel}
use Rattle.replies.specs.declared.group.Mf4Group.{Mf4Group}
use Rattle.replies.specs.declared.valid_values.Mf4ValidValueReply.{Mf4ValidValueReply}
use Rattle.replies.specs.declared.done.Mf4DoneReply.{Mf4DoneReply}
use Rattle.mf4.specs.Clauses.{Slice, Room}
use Rattle.theorems.specs.Clauses.{ReadsRecord, ReadsRecordValue, FetchesRecord, FetchesValue}
use Rattle.theorems.specs.ClausesToC.{ReadsRecordC, ReadsRecordValueC, FetchesRecordC, FetchesValueC}
use Rattle.theorems.specs.Histories.{blocks_there, Afresh, opens}
use Rattle.theorems.proofs.Calls.Outcomes.{of_buffer, of_outcome}
use Rattle.theorems.proofs.Calls.NoSecondReplyToC.{one_returned}
use Rattle.theorems.proofs.Records.TwoFiles.{Joins, record_in, value_in}
use Rattle.theorems.proofs.Tables.HistoriesByCalls.{ByCalls, ToC, calls_faithful, c_faithful}
use Rattle.theorems.proofs.Tables.Histories.{OpenedFrom, opened_from}
use Rattle.theorems.proofs.Tables.TableFetches.{fetch_afresh, value_afresh, fetch_opened, value_opened, fetch_on_joined, value_on_joined}

-- a table just opened by a call, from whatever stood in it
pub opened_by_call : (f : List ℕ) (start : ℕ) (w v : List ℕ) → ByCalls f (opens start) w (answer tt) v → OpenedFrom f start v
opened_by_call f start w v c = opened_from f start w v (calls_faithful f (opens start) w v (answer tt) c)

pub opened_to_c : (f : List ℕ) (start : ℕ) (w v : List ℕ) → ToC f (opens start) w (answer tt) v → OpenedFrom f start v
opened_to_c f start w v c = opened_from f start w v (c_faithful f (opens start) w v (answer tt) c)

one_value : (a b : Result DecodedChannelValue Refusal) (x y : List ℕ) → value_fetched_by a x ≡ value_fetched_by b y → (a ≡ b) × (x ≡ y)
one_value a b x y e = (valid_value_one a b (of_outcome e), of_buffer e)

module _ (κs : Lfts 3) (file table : Slice) (number size : ℕ) (out : Room) where
  -- ---- what a history left

  module _ (xs : List ℕ) (h : Afresh file.now xs table.now) (short : length file.now ≤ file_limit) where
    pub table_record_afresh : (y : Result (Unit {0}) Refusal) (after : List ℕ) → FetchesRecord κs file table number size out y after
        → fetched_by y after ≡ record_in (joined file.now (blocks_there file.now xs)) number size out.now
    table_record_afresh y after p = p ∙ fetch_afresh file.now xs table.now h short number size out.now

    pub table_value_afresh : (group : Group) (channel : Channel) (y : Result DecodedChannelValue Refusal) (after : List ℕ) → FetchesValue κs file table number size group channel out y after
        → value_fetched_by y after ≡ value_in (joined file.now (blocks_there file.now xs)) number size (group_meant group) (channel_meant channel) out.now
    table_value_afresh group channel y after p =
        p ∙ value_afresh file.now xs table.now h short number size (group_meant group) (channel_meant channel) out.now

    pub mf4_table_record_afresh : (y : Mf4DoneReply) (after : List ℕ) → FetchesRecordC κs file table number size out y after
        → returned y after ≡ returned_by done_c (record_in (joined file.now (blocks_there file.now xs)) number size out.now)
    mf4_table_record_afresh y after p = p ∙ ap (returned_by done_c) (fetch_afresh file.now xs table.now h short number size out.now)

    pub mf4_table_value_afresh : (group : Mf4Group) (channel : Mf4Channel) (y : Mf4ValidValueReply) (after : List ℕ)
        → FetchesValueC κs file table number size group channel out y after
        → returned y after ≡ returned_by valid_value_c (value_in (joined file.now (blocks_there file.now xs)) number size (group_given group) (channel_given channel) out.now)
    mf4_table_value_afresh group channel y after p =
        p ∙ ap (returned_by valid_value_c) (value_afresh file.now xs table.now h short number size (group_given group) (channel_given channel) out.now)

  -- ---- just after opening: the reply and the buffer of the fetch through the chain

  module _ (start : ℕ) (h : OpenedFrom file.now start table.now) (λs : Lfts 2) where
    pub table_record_as_plain : (y z : Result (Unit {0}) Refusal) (after later : List ℕ) → FetchesRecord κs file table number size out y after
        → ReadsRecord λs file (record { 0 = start }) number size out z later → (y ≡ z) × (after ≡ later)
    table_record_as_plain y z after later p q =
        fetched_one y z after later (p ∙ fetch_opened file.now start table.now h number size out.now ∙ sym q)

    pub table_value_as_plain : (group : Group) (channel : Channel) (y z : Result DecodedChannelValue Refusal) (after later : List ℕ)
        → FetchesValue κs file table number size group channel out y after
        → ReadsRecordValue λs file (record { 0 = start }) number size group channel out z later → (y ≡ z) × (after ≡ later)
    table_value_as_plain group channel y z after later p q =
        one_value y z after later
        (p ∙ value_opened file.now start table.now h number size (group_meant group) (channel_meant channel) out.now ∙ sym q)

    pub mf4_table_record_as_plain : (y z : Mf4DoneReply) (after later : List ℕ) → FetchesRecordC κs file table number size out y after
        → ReadsRecordC λs file start number size out z later → (y ≡ z) × (after ≡ later)
    mf4_table_record_as_plain y z after later p q =
        one_returned (λ left. left) (p ∙ ap (returned_by done_c) (fetch_opened file.now start table.now h number size out.now) ∙ sym q)

    pub mf4_table_value_as_plain : (group : Mf4Group) (channel : Mf4Channel) (y z : Mf4ValidValueReply) (after later : List ℕ)
        → FetchesValueC κs file table number size group channel out y after
        → ReadsRecordValueC λs file start number size group channel out z later → (y ≡ z) × (after ≡ later)
    mf4_table_value_as_plain group channel y z after later p q =
        one_returned (λ left. left)
        (p ∙ ap (returned_by valid_value_c) (value_opened file.now start table.now h number size (group_given group) (channel_given channel) out.now) ∙ sym q)

-- ---- two files whose chains join to the same bytes j, each with a table opened from its chain

module _ (κs : Lfts 3) (j : List ℕ) (f g s t : Slice) (a b : ℕ) (h : OpenedFrom f.now a s.now) (i : OpenedFrom g.now b t.now)
    (hj : Joins f.now a j) (ij : Joins g.now b j) (number size : ℕ) (out room : Room) (same : out.now ≡ room.now) where
  pub table_record_alike : (y z : Result (Unit {0}) Refusal) (after later : List ℕ) → FetchesRecord κs f s number size out y after → FetchesRecord κs g t number size room z later
      → (y ≡ z) × (after ≡ later)
  table_record_alike y z after later p q =
      fetched_one y z after later
      (p ∙ fetch_on_joined f.now a s.now h number size j out.now hj ∙ ap (record_in j number size) same
      ∙ sym (q ∙ fetch_on_joined g.now b t.now i number size j room.now ij))

  pub table_value_alike : (group : Group) (channel : Channel) (y z : Result DecodedChannelValue Refusal) (after later : List ℕ)
      → FetchesValue κs f s number size group channel out y after → FetchesValue κs g t number size group channel room z later
      → (y ≡ z) × (after ≡ later)
  table_value_alike group channel y z after later p q =
      let gm = group_meant group in
      let cm = channel_meant channel in
      one_value y z after later
      (p ∙ value_on_joined f.now a s.now h number size gm cm j out.now hj ∙ ap (value_in j number size gm cm) same
      ∙ sym (q ∙ value_on_joined g.now b t.now i number size gm cm j room.now ij))

  pub mf4_table_record_alike : (y z : Mf4DoneReply) (after later : List ℕ) → FetchesRecordC κs f s number size out y after → FetchesRecordC κs g t number size room z later
      → (y ≡ z) × (after ≡ later)
  mf4_table_record_alike y z after later p q =
      one_returned (λ left. left)
      (p ∙ ap (returned_by done_c) (fetch_on_joined f.now a s.now h number size j out.now hj ∙ ap (record_in j number size) same
      ∙ sym (fetch_on_joined g.now b t.now i number size j room.now ij)) ∙ sym q)

  pub mf4_table_value_alike : (group : Mf4Group) (channel : Mf4Channel) (y z : Mf4ValidValueReply) (after later : List ℕ)
      → FetchesValueC κs f s number size group channel out y after → FetchesValueC κs g t number size group channel room z later
      → (y ≡ z) × (after ≡ later)
  mf4_table_value_alike group channel y z after later p q =
      let gm = group_given group in
      let cm = channel_given channel in
      one_returned (λ left. left)
      (p ∙ ap (returned_by valid_value_c) (value_on_joined f.now a s.now h number size gm cm j out.now hj ∙ ap (value_in j number size gm cm) same
      ∙ sym (value_on_joined g.now b t.now i number size gm cm j room.now ij)) ∙ sym q)
