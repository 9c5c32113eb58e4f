-- Which numbers the refusals of a table have: 30 to 32 and those of blocks, chains and records, and of a value through it also the
-- field's; so a reply of 0 is an answer. About the definitions, and about the clauses of the calls; and what C is told.
use mathlib.Core.Path.{◌≡◌, refl, sym}
use mathlib.Core.Logic.{◌⊎◌, inl, inr, ⊎_elim}
use mathlib.Core.Bool.{true, not, ◌&&◌, true≢false}
use mathlib.Core.List.{List}
use Prim.Native.Nat.{ℕ, ◌+◌, ◌*◌}
use contract.Lifetimes.{Lfts}
use lib.ListN.{length, take}
use lib.Dec.{ltb, leb, eqb}
use Rattle.std.specs.Prelude.{Result}
use Rattle.definitions.specs.Reply.{Reply}
use Rattle.definitions.specs.Channel.{Channel, Group}
use Rattle.definitions.specs.Chain.{id_dt, file_limit, joined, block_at, chain_of, bad_size, record_of}
use Rattle.definitions.specs.Table.{table_limit, count_of, blocks_in, ordered, sound, opened, extended, shortened, table_fetched, table_value_fetched}
use Rattle.refusals.specs.declared.Refusal.{Refusal}
use Rattle.fields.specs.Meaning.{group_meant, channel_meant, valid_value_reply}
use Rattle.fields.specs.declared.channel.Channel.{Channel as Description}
use Rattle.fields.specs.declared.group.Group.{Group as Grouped}
use Rattle.fields.specs.declared.value.DecodedChannelValue.{DecodedChannelValue}
use Rattle.places.specs.declared.place.FileAddress.{FileAddress}
use Rattle.records.specs.Meaning.{record_reply}
use Rattle.table.specs.Meaning.{change_reply}
use Rattle.block_replies.specs.Channels.{channel_given}
use Rattle.replies.specs.Replies.{done_c}
use Rattle.replies.specs.Values.{group_given, valid_value_c}
use Rattle.block_replies.specs.declared.channel.Mf4Channel.{Mf4Channel}
use Rattle.replies.specs.declared.group.Mf4Group.{Mf4Group}
use Rattle.replies.specs.declared.valid_values.Mf4ValidValueReply.{Mf4ValidValueReply}
use Rattle.replies.specs.declared.done.Mf4DoneReply.{Mf4DoneReply}
use Rattle.block_replies.proofs.ToldToC.{Tellable, Any}
use Rattle.replies.proofs.ToldToC.{done_again, done_told, valid_value_again, valid_value_told}
use Rattle.mf4.specs.Clauses.{Slice, Room}
use Rattle.theorems.specs.Clauses.{OpensTable, ExtendsTable, ShortensTable, FetchesRecord, FetchesValue}
use Rattle.theorems.specs.ClausesToC.{OpensTableC, ExtendsTableC, ShortensTableC, FetchesRecordC, FetchesValueC}
use Rattle.theorems.proofs.Calls.Outcomes.{of_outcome, returned_result}
use Rattle.theorems.proofs.Calls.RefusalNumbers as numbers
use Rattle.theorems.proofs.Calls.RefusalNumbers.{Numbered, OfBlocks, OfBounded, weaker, of_following, of_lending, chain_numbered, block_numbered, of_answer, bounded_value_numbered}
use Rattle.theorems.proofs.Calls.RefusalNumbersByCalls.{numbered}
use Rattle.theorems.proofs.Calls.RefusalNumbersToC.{NumberedC, done, valid_value}
use Rattle.theorems.proofs.Calls.ToldToC.{Judged, by_number, following, bounded_value_tellable, by_result}

-- of a table, or of blocks, chains and records
abbrev pub OfTables : ℕ → ℕ → Type 0
OfTables n t = OfBlocks n t ⊎ (leb 30 n && leb n 32 ≡ true)

-- of a table, or of a field and its validity
abbrev pub OfTableValues : ℕ → ℕ → Type 0
OfTableValues n t = OfTables n t ⊎ OfBounded n t

-- ---- the definitions

pub opened_numbered : (f : List ℕ) (start : ℕ) (w : List ℕ) → Numbered OfTables (opened f start w).reply
unfolding opened
opened_numbered f start w =
    numbers.of_outcome OfTables (ltb file_limit (length f)) 7 0 w _ (inl refl)
    (of_lending OfTables (chain_of id_dt f start) _ w (weaker _ (λ n t p. inl p) (chain_numbered id_dt f start))
    (λ bs. numbers.of_outcome OfTables (ltb table_limit (length bs)) 30 0 w _ (inr refl) (of_answer OfTables tt)))

pub extended_numbered : (f : List ℕ) (a : ℕ) (w : List ℕ) → Numbered OfTables (extended f a w).reply
unfolding extended
extended_numbered f a w =
    numbers.of_outcome OfTables (ltb file_limit (length f)) 7 0 w _ (inl refl)
    (numbers.of_outcome OfTables (not (sound f w)) 32 0 w _ (inr refl)
    (of_lending OfTables (block_at id_dt f a) _ w (weaker _ (λ n t p. inl p) (block_numbered id_dt f a))
    (λ b. numbers.of_outcome OfTables (leb table_limit (count_of w)) 30 0 w _ (inr refl) (of_answer OfTables tt))))

pub shortened_numbered : (w : List ℕ) → Numbered OfTables (shortened w).reply
unfolding shortened
shortened_numbered w =
    numbers.of_outcome OfTables (not (ordered w)) 32 0 w _ (inr refl)
    (numbers.of_outcome OfTables (eqb (count_of w) 0) 31 0 w _ (inr refl) (of_answer OfTables tt))

module _ (f w : List ℕ) (k size : ℕ) (out : List ℕ) where
  pub table_fetched_numbered : Numbered OfTables (table_fetched f w k size out).reply
  unfolding table_fetched record_of
  table_fetched_numbered =
      numbers.of_outcome OfTables (bad_size size (length out)) 15 0 out _ (inl refl)
      (numbers.of_outcome OfTables (ltb file_limit (length f)) 7 0 out _ (inl refl)
      (numbers.of_outcome OfTables (not (sound f w)) 32 0 out _ (inr refl)
      (numbers.of_outcome OfTables (ltb (length (joined f (blocks_in w))) (k * size + size)) 16 0 out _ (inl refl) (of_answer OfTables tt))))

  pub table_value_numbered : (g : Group) (c : Channel) → Numbered OfTableValues (table_value_fetched f w k size g c out).reply
  unfolding table_value_fetched
  table_value_numbered g c =
      of_following OfTableValues (table_fetched f w k size out).reply _ (weaker _ (λ n t p. inl p) table_fetched_numbered)
      (λ u. weaker _ (λ n t p. inr p) (bounded_value_numbered (take size (table_fetched f w k size out).buffer) g c))

-- ---- the calls

module _ (κs : Lfts 2) (file : Slice) (at : FileAddress) (table : Room) (y : Result (Unit {0}) Refusal) (after : List ℕ) where
  pub table_open_numbered : OpensTable κs file at table y after → Numbered OfTables (change_reply y)
  table_open_numbered p = numbered (of_outcome p) (opened_numbered file.now at.0 table.now)

  pub table_extend_numbered : ExtendsTable κs file at table y after → Numbered OfTables (change_reply y)
  table_extend_numbered p = numbered (of_outcome p) (extended_numbered file.now at.0 table.now)

pub table_shorten_numbered : (κs : Lfts 1) (table : Room) (y : Result (Unit {0}) Refusal) (after : List ℕ) → ShortensTable κs table y after → Numbered OfTables (change_reply y)
table_shorten_numbered κs table y after p = numbered (of_outcome p) (shortened_numbered table.now)

module _ (κs : Lfts 3) (file table : Slice) (number size : ℕ) where
  pub table_record_numbered : (out : Room) (y : Result (Unit {0}) Refusal) (after : List ℕ) → FetchesRecord κs file table number size out y after → Numbered OfTables (record_reply y)
  table_record_numbered out y after p = numbered (of_outcome p) (table_fetched_numbered file.now table.now number size out.now)

  pub table_value_read_numbered : (group : Grouped) (channel : Description) (out : Room) (y : Result DecodedChannelValue Refusal) (after : List ℕ)
      → FetchesValue κs file table number size group channel out y after → Numbered OfTableValues (valid_value_reply y)
  table_value_read_numbered group channel out y after p =
      numbered (of_outcome p) (table_value_numbered file.now table.now number size out.now (group_meant group) (channel_meant channel))

-- ---- for C: the numbers, and the definition's reply, which comes back from the struct

of_tables : {A : Type 0} (r : Reply A) → Numbered OfTables r → Tellable Any r
of_tables = by_number OfTables (λ t. ⊎_elim (λ h. true≢false (sym h)) (λ h. true≢false (sym h)))

module _ (κs : Lfts 2) (file : Slice) (at : ℕ) (table : Room) (y : Mf4DoneReply) (after : List ℕ) where
  pub mf4_open_table_numbered : OpensTableC κs file at table y after → NumberedC OfTables y.reply y.told
  mf4_open_table_numbered p = done _ p (opened_numbered file.now at table.now)

  pub mf4_open_table_told : OpensTableC κs file at table y after → done_again y ≡ (opened file.now at table.now).reply
  mf4_open_table_told p = by_result done_c done_again p (done_told _ (of_tables _ (opened_numbered file.now at table.now)))

  pub mf4_extend_table_numbered : ExtendsTableC κs file at table y after → NumberedC OfTables y.reply y.told
  mf4_extend_table_numbered p = done _ p (extended_numbered file.now at table.now)

  pub mf4_extend_table_told : ExtendsTableC κs file at table y after → done_again y ≡ (extended file.now at table.now).reply
  mf4_extend_table_told p = by_result done_c done_again p (done_told _ (of_tables _ (extended_numbered file.now at table.now)))

module _ (κs : Lfts 1) (table : Room) (y : Mf4DoneReply) (after : List ℕ) (p : ShortensTableC κs table y after) where
  pub mf4_shorten_table_numbered : NumberedC OfTables y.reply y.told
  mf4_shorten_table_numbered = done _ p (shortened_numbered table.now)

  pub mf4_shorten_table_told : done_again y ≡ (shortened table.now).reply
  mf4_shorten_table_told = by_result done_c done_again p (done_told _ (of_tables _ (shortened_numbered table.now)))

module _ (κs : Lfts 3) (file table : Slice) (number size : ℕ) (out : Room) where
  module _ (y : Mf4DoneReply) (after : List ℕ) (p : FetchesRecordC κs file table number size out y after) where
    pub mf4_table_record_numbered : NumberedC OfTables y.reply y.told
    mf4_table_record_numbered = done _ p (table_fetched_numbered file.now table.now number size out.now)

    pub mf4_table_record_told : done_again y ≡ (table_fetched file.now table.now number size out.now).reply
    mf4_table_record_told = by_result done_c done_again p (done_told _ (of_tables _ (table_fetched_numbered file.now table.now number size out.now)))

  pub table_value_tellable : (g : Group) (c : Channel) → Tellable Judged (table_value_fetched file.now table.now number size g c out.now).reply
  unfolding table_value_fetched
  table_value_tellable g c =
      following Any Judged (table_fetched file.now table.now number size out.now).reply _ (of_tables _ (table_fetched_numbered file.now table.now number size out.now))
      (λ u any. bounded_value_tellable (take size (table_fetched file.now table.now number size out.now).buffer) g c)

  module _ (group : Mf4Group) (channel : Mf4Channel) (y : Mf4ValidValueReply) (after : List ℕ) (p : FetchesValueC κs file table number size group channel out y after) where
    pub mf4_table_value_numbered : NumberedC OfTableValues y.reply y.told
    mf4_table_value_numbered =
        valid_value _ (returned_result p)
        (table_value_numbered file.now table.now number size out.now (group_given group) (channel_given channel))

    pub mf4_table_value_told : valid_value_again y ≡ (table_value_fetched file.now table.now number size (group_given group) (channel_given channel) out.now).reply
    mf4_table_value_told = by_result valid_value_c valid_value_again p (valid_value_told _ (table_value_tellable (group_given group) (channel_given channel)))
