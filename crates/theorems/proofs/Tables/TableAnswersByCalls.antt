-- When each call on a table answers, exactly: about the calls' own clauses.
use mathlib.Core.List.{List}
use Prim.Native.Nat.{ℕ}
use contract.Lifetimes.{Lfts}
use Rattle.std.specs.Prelude.{Result}
use Rattle.refusals.specs.declared.Refusal.{Refusal}
use Rattle.fields.specs.Meaning.{group_meant, channel_meant, valid_value_reply}
use Rattle.fields.specs.declared.channel.Channel.{Channel}
use Rattle.fields.specs.declared.group.Group.{Group}
use Rattle.fields.specs.declared.value.DecodedChannelValue.{DecodedChannelValue}
use Rattle.places.specs.declared.place.FileAddress.{FileAddress}
use Rattle.records.specs.Meaning.{record_reply}
use Rattle.table.specs.Meaning.{change_reply}
use Rattle.block_replies.specs.Channels.{channel_given}
use Rattle.replies.specs.Values.{group_given}
use Rattle.block_replies.specs.declared.channel.Mf4Channel.{Mf4Channel}
use Rattle.replies.specs.declared.group.Mf4Group.{Mf4Group}
use Rattle.replies.specs.declared.valid_values.Mf4ValidValueReply.{Mf4ValidValueReply}
use Rattle.replies.specs.declared.done.Mf4DoneReply.{Mf4DoneReply}
use Rattle.replies.proofs.ToldToC.{of_kind_told}
use Rattle.mf4.specs.Clauses.{Slice, Room}
use Rattle.theorems.specs.Exactly.{Exactly, ExactlyZero}
use Rattle.theorems.specs.TableCauses.{Openable, Extendable, Shortenable, TableFetchable, TableValueFetchable}
use Rattle.theorems.specs.Clauses.{OpensTable, ExtendsTable, ShortensTable, FetchesRecord, FetchesValue}
use Rattle.theorems.specs.ClausesToC.{OpensTableC, ExtendsTableC, ShortensTableC, FetchesRecordC, FetchesValueC}
use Rattle.theorems.proofs.Calls.Outcomes.{of_outcome}
use Rattle.theorems.proofs.Calls.AnswersByCalls.{exactly}
use Rattle.theorems.proofs.Calls.AnswersToC.{zero_exactly}
use Rattle.theorems.proofs.Calls.ToldToC.{Judged}
use Rattle.theorems.proofs.Tables.TableAnswers.{open_exactly, extend_exactly, shorten_exactly, table_record_exactly, table_value_exactly}
use Rattle.theorems.proofs.Tables.TableNumbers.{mf4_open_table_told, mf4_extend_table_told, mf4_shorten_table_told, mf4_table_record_told, table_value_tellable, mf4_table_value_told}

module _ (κs : Lfts 2) (file : Slice) (at : FileAddress) (table : Room) (y : Result (Unit {0}) Refusal) (after : List ℕ) where
  pub table_open_exactly : OpensTable κs file at table y after → Exactly (Openable file.now at.0) (change_reply y)
  table_open_exactly p = exactly (of_outcome p) (open_exactly file.now at.0 table.now)

  pub table_extend_exactly : ExtendsTable κs file at table y after → Exactly (Extendable file.now at.0 table.now) (change_reply y)
  table_extend_exactly p = exactly (of_outcome p) (extend_exactly file.now at.0 table.now)

pub table_shorten_exactly : (κs : Lfts 1) (table : Room) (y : Result (Unit {0}) Refusal) (after : List ℕ)
    → ShortensTable κs table y after → Exactly (Shortenable table.now) (change_reply y)
table_shorten_exactly κs table y after p = exactly (of_outcome p) (shorten_exactly table.now)

module _ (κs : Lfts 3) (file table : Slice) (number size : ℕ) where
  pub table_record_read_exactly : (out : Room) (y : Result (Unit {0}) Refusal) (after : List ℕ) → FetchesRecord κs file table number size out y after
      → Exactly (TableFetchable file.now table.now number size out.now) (record_reply y)
  table_record_read_exactly out y after p = exactly (of_outcome p) (table_record_exactly file.now table.now number size out.now)

  pub table_value_read_exactly : (group : Group) (channel : Channel) (out : Room) (y : Result DecodedChannelValue Refusal) (after : List ℕ)
      → FetchesValue κs file table number size group channel out y after
      → Exactly (TableValueFetchable file.now table.now number size (group_meant group) (channel_meant channel) out.now) (valid_value_reply y)
  table_value_read_exactly group channel out y after p =
      exactly (of_outcome p) (table_value_exactly file.now table.now number size out.now (group_meant group) (channel_meant channel))

-- ---- for C

module _ (κs : Lfts 2) (file : Slice) (at : ℕ) (table : Room) (y : Mf4DoneReply) (after : List ℕ) where
  pub mf4_open_table_zero : OpensTableC κs file at table y after → ExactlyZero (Openable file.now at) y.reply
  mf4_open_table_zero p = zero_exactly y.reply y.told _ _ (mf4_open_table_told κs file at table y after p) (open_exactly file.now at table.now)

  pub mf4_extend_table_zero : ExtendsTableC κs file at table y after → ExactlyZero (Extendable file.now at table.now) y.reply
  mf4_extend_table_zero p = zero_exactly y.reply y.told _ _ (mf4_extend_table_told κs file at table y after p) (extend_exactly file.now at table.now)

pub mf4_shorten_table_zero : (κs : Lfts 1) (table : Room) (y : Mf4DoneReply) (after : List ℕ)
    → ShortensTableC κs table y after → ExactlyZero (Shortenable table.now) y.reply
mf4_shorten_table_zero κs table y after p = zero_exactly y.reply y.told _ _ (mf4_shorten_table_told κs table y after p) (shorten_exactly table.now)

module _ (κs : Lfts 3) (file table : Slice) (number size : ℕ) (out : Room) where
  pub mf4_table_record_zero : (y : Mf4DoneReply) (after : List ℕ) → FetchesRecordC κs file table number size out y after
      → ExactlyZero (TableFetchable file.now table.now number size out.now) y.reply
  mf4_table_record_zero y after p =
      zero_exactly y.reply y.told _ _ (mf4_table_record_told κs file table number size out y after p) (table_record_exactly file.now table.now number size out.now)

  pub mf4_table_value_zero : (group : Mf4Group) (channel : Mf4Channel) (y : Mf4ValidValueReply) (after : List ℕ)
      → FetchesValueC κs file table number size group channel out y after
      → ExactlyZero (TableValueFetchable file.now table.now number size (group_given group) (channel_given channel) out.now) y.reply
  mf4_table_value_zero group channel y after p =
      let told = of_kind_told Judged y.reply y.told y.kind _ _
      (table_value_tellable κs file table number size out (group_given group) (channel_given channel))
      (mf4_table_value_told κs file table number size out group channel y after p) in
      zero_exactly y.reply y.told _ _ told (table_value_exactly file.now table.now number size out.now (group_given group) (channel_given channel))
