-- When an operation on a table is refused, and a record or a value through one, exactly: about each call's own clause.
use mathlib.Core.List.{List}
use Prim.Native.Nat.{ℕ}
use contract.Lifetimes.{Lfts}
use Rattle.std.specs.Prelude.{Result}
use Rattle.refusals.specs.declared.Refusal.{Refusal}
use Rattle.fields.specs.Meaning.{group_meant, channel_meant, valid_value_reply}
use Rattle.fields.specs.declared.channel.Channel.{Channel}
use Rattle.fields.specs.declared.group.Group.{Group}
use Rattle.fields.specs.declared.value.DecodedChannelValue.{DecodedChannelValue}
use Rattle.places.specs.declared.place.FileAddress.{FileAddress}
use Rattle.records.specs.Meaning.{record_reply}
use Rattle.table.specs.Meaning.{change_reply}
use Rattle.block_replies.specs.Channels.{channel_given}
use Rattle.replies.specs.Values.{group_given}
use Rattle.block_replies.specs.declared.channel.Mf4Channel.{Mf4Channel}
use Rattle.replies.specs.declared.group.Mf4Group.{Mf4Group}
use Rattle.replies.specs.declared.valid_values.Mf4ValidValueReply.{Mf4ValidValueReply}
use Rattle.replies.specs.declared.done.Mf4DoneReply.{Mf4DoneReply}
use Rattle.replies.proofs.ToldToC.{of_kind_told}
use Rattle.mf4.specs.Clauses.{Slice, Room}
use Rattle.theorems.specs.Refused.{RefusedExactly, ToldExactly}
use Rattle.theorems.specs.TableCauses.{open_refused, extend_refused, shorten_refused, table_record_refused, table_value_refused}
use Rattle.theorems.specs.Clauses.{OpensTable, ExtendsTable, ShortensTable, FetchesRecord, FetchesValue}
use Rattle.theorems.specs.ClausesToC.{OpensTableC, ExtendsTableC, ShortensTableC, FetchesRecordC, FetchesValueC}
use Rattle.theorems.proofs.Calls.Outcomes.{of_outcome}
use Rattle.theorems.proofs.Calls.ToldToC.{Judged}
use Rattle.theorems.proofs.Calls.TestsInTurn.{as_is, told_exactly}
use Rattle.theorems.proofs.Tables.TableCauses.{open_refused_law, extend_refused_law, shorten_refused_law, table_record_refused_law, table_value_refused_law}
use Rattle.theorems.proofs.Tables.TableNumbers.{mf4_open_table_told, mf4_extend_table_told, mf4_shorten_table_told, mf4_table_record_told, table_value_tellable, mf4_table_value_told}

module _ (κs : Lfts 2) (file : Slice) (at : FileAddress) (table : Room) (y : Result (Unit {0}) Refusal) (after : List ℕ) where
  pub table_open_refused : OpensTable κs file at table y after → RefusedExactly (open_refused file.now at.0) (change_reply y)
  table_open_refused p = as_is (of_outcome p) (open_refused_law file.now at.0 table.now)

  pub table_extend_refused : ExtendsTable κs file at table y after → RefusedExactly (extend_refused file.now at.0 table.now) (change_reply y)
  table_extend_refused p = as_is (of_outcome p) (extend_refused_law file.now at.0 table.now)

pub table_shorten_refused : (κs : Lfts 1) (table : Room) (y : Result (Unit {0}) Refusal) (after : List ℕ)
    → ShortensTable κs table y after → RefusedExactly (shorten_refused table.now) (change_reply y)
table_shorten_refused κs table y after p = as_is (of_outcome p) (shorten_refused_law table.now)

module _ (κs : Lfts 3) (file table : Slice) (number size : ℕ) where
  pub table_record_read_refused : (out : Room) (y : Result (Unit {0}) Refusal) (after : List ℕ) → FetchesRecord κs file table number size out y after
      → RefusedExactly (table_record_refused file.now table.now number size out.now) (record_reply y)
  table_record_read_refused out y after p = as_is (of_outcome p) (table_record_refused_law file.now table.now number size out.now)

  pub table_value_read_refused : (group : Group) (channel : Channel) (out : Room) (y : Result DecodedChannelValue Refusal) (after : List ℕ)
      → FetchesValue κs file table number size group channel out y after
      → RefusedExactly (table_value_refused file.now table.now number size out.now (group_meant group) (channel_meant channel)) (valid_value_reply y)
  table_value_read_refused group channel out y after p =
      as_is (of_outcome p) (table_value_refused_law file.now table.now number size out.now (group_meant group) (channel_meant channel))

-- ---- for C

module _ (κs : Lfts 2) (file : Slice) (at : ℕ) (table : Room) (y : Mf4DoneReply) (after : List ℕ) where
  pub mf4_open_table_refused : OpensTableC κs file at table y after → ToldExactly (open_refused file.now at) y.reply y.told
  mf4_open_table_refused p = told_exactly _ _ _ _ (mf4_open_table_told κs file at table y after p) (open_refused_law file.now at table.now)

  pub mf4_extend_table_refused : ExtendsTableC κs file at table y after → ToldExactly (extend_refused file.now at table.now) y.reply y.told
  mf4_extend_table_refused p = told_exactly _ _ _ _ (mf4_extend_table_told κs file at table y after p) (extend_refused_law file.now at table.now)

pub mf4_shorten_table_refused : (κs : Lfts 1) (table : Room) (y : Mf4DoneReply) (after : List ℕ)
    → ShortensTableC κs table y after → ToldExactly (shorten_refused table.now) y.reply y.told
mf4_shorten_table_refused κs table y after p = told_exactly _ _ _ _ (mf4_shorten_table_told κs table y after p) (shorten_refused_law table.now)

module _ (κs : Lfts 3) (file table : Slice) (number size : ℕ) (out : Room) where
  pub mf4_table_record_refused : (y : Mf4DoneReply) (after : List ℕ) → FetchesRecordC κs file table number size out y after
      → ToldExactly (table_record_refused file.now table.now number size out.now) y.reply y.told
  mf4_table_record_refused y after p =
      told_exactly _ _ _ _ (mf4_table_record_told κs file table number size out y after p) (table_record_refused_law file.now table.now number size out.now)

  pub mf4_table_value_refused : (group : Mf4Group) (channel : Mf4Channel) (y : Mf4ValidValueReply) (after : List ℕ)
      → FetchesValueC κs file table number size group channel out y after
      → ToldExactly (table_value_refused file.now table.now number size out.now (group_given group) (channel_given channel)) y.reply y.told
  mf4_table_value_refused group channel y after p =
      let told = of_kind_told Judged y.reply y.told y.kind _ _
      (table_value_tellable κs file table number size out (group_given group) (channel_given channel))
      (mf4_table_value_told κs file table number size out group channel y after p) in
      told_exactly _ _ _ _ told (table_value_refused_law file.now table.now number size out.now (group_given group) (channel_given channel))
