-- A report by the call for C: from what the struct tells the definition's reply comes back; when its reply is 0 and what it then
-- tells, why it is not 0, what is left in the buffer, and that two files which join to the same bytes are not told apart. Each
-- theorem is about the call's own clause.
use mathlib.Core.Path.{◌≡◌, refl, sym, ap, ◌∙◌}
use mathlib.Core.Bool.{true≢false}
use mathlib.Core.List.{List}
use Prim.Native.Nat.{ℕ, ◌+◌}
use contract.Lifetimes.{Lfts}
use Rattle.definitions.specs.Reply.{Reply, answer}
use Rattle.definitions.specs.Chain.{joined}
use Rattle.definitions.specs.Report.{Report, reported}
use Rattle.block_replies.specs.Replies.{Returned, returned, returned_by}
use Rattle.block_replies.specs.Channels.{channel_given}
use Rattle.block_replies.specs.declared.channel.Mf4Channel.{Mf4Channel}
use Rattle.replies.specs.Values.{group_given}
use Rattle.replies.specs.Reports.{report_c}
use Rattle.replies.specs.declared.group.Mf4Group.{Mf4Group}
use Rattle.replies.specs.declared.reports.Mf4ReportReply.{Mf4ReportReply}
use Rattle.block_replies.proofs.ToldToC.{again}
use Rattle.replies.proofs.ToldToC.{report_again, report_told}
use Rattle.mf4.specs.Clauses.{Slice, Room}
use Rattle.theorems.specs.ClausesToC.{ReportsChannelC}
use Rattle.theorems.specs.Exactly.{ExactlyZero}
use Rattle.theorems.specs.Refused.{ToldExactly}
use Rattle.theorems.specs.ReportEnds.{Reportable, Tells, report_refused, Due, ReportEnds}
use Rattle.theorems.proofs.Calls.Outcomes.{returned_buffer, returned_result}
use Rattle.theorems.proofs.Calls.AnswersToC.{zero_exactly}
use Rattle.theorems.proofs.Calls.LeftAloneByCalls.{Sparing}
use Rattle.theorems.proofs.Calls.LeftAloneToC as left
use Rattle.theorems.proofs.Calls.RefusalNumbersToC as numbers
use Rattle.theorems.proofs.Calls.RefusalNumbersToC.{NumberedC}
use Rattle.theorems.proofs.Calls.TestsInTurn.{told_exactly}
use Rattle.theorems.proofs.Calls.ToldToC.{by_number, by_result}
use Rattle.theorems.proofs.Records.TwoFilesRead.{OfJoined, Alike, alike}
use Rattle.theorems.proofs.Reports.LinesTell.{reported_tells}
use Rattle.theorems.proofs.Reports.ReportCauses.{reported_in_turn}
use Rattle.theorems.proofs.Reports.ReportEnds.{reported_ends, reported_exactly, reported_refused}
use Rattle.theorems.proofs.Reports.ReportNumbers.{OfReports, reported_numbered}
use Rattle.theorems.proofs.Reports.ReportsLeft.{reported_leaves}
use Rattle.theorems.proofs.Reports.TwoFilesReports.{report_in, report_of_joined}

-- a reply of 0 tells the line that the other fields hold
again_zero : {A : Type 0} (n t : ℕ) (r : Reply A) → n ≡ 0 → again n t r ≡ r
again_zero n t r z = rw z

module _ (κs : Lfts 2) (file : Slice) (start size : ℕ) (group : Mf4Group) (channel : Mf4Channel) (out : Room) where
  module _ (y : Mf4ReportReply) (after : List ℕ) (p : ReportsChannelC κs file start size group channel out y after) where
    pub mf4_report_told : report_again y ≡ (reported file.now start size (group_given group) (channel_given channel) out.now).reply
    mf4_report_told =
        by_result report_c report_again p
        (report_told _ (by_number OfReports (λ t h. true≢false (sym h)) _ (reported_numbered file.now start size (group_given group) (channel_given channel) out.now)))

    -- ---- when there is one, and what it tells

    pub mf4_report_zero : ExactlyZero (Reportable file.now start size (group_given group) (channel_given channel) out.now) y.reply
    mf4_report_zero =
        zero_exactly y.reply y.told _ _ mf4_report_told (reported_exactly file.now start size (group_given group) (channel_given channel) out.now)

    pub mf4_report_ends : ReportEnds file.now start size (group_given group) (channel_given channel) out.now (record { reply = report_again y; buffer = after })
    mf4_report_ends =
        let buffer : after ≡ (reported file.now start size (group_given group) (channel_given channel) out.now).buffer =
        returned_buffer p in
        rw (mf4_report_told, buffer) (reported_ends file.now start size (group_given group) (channel_given channel) out.now)

    pub mf4_report_tells : (r : Report) → report_again y ≡ answer r
        → (h : Reportable file.now start size (group_given group) (channel_given channel) out.now)
        × Tells (joined file.now h.blocks) size (group_given group) (channel_given channel) r
    mf4_report_tells r e =
        reported_tells file.now start size (group_given group) (channel_given channel) out.now r (sym mf4_report_told ∙ e)

    -- every record is counted once
    pub mf4_report_counted : y.reply ≡ 0 → y.records ≡ y.valid + y.invalid + y.without_value
    mf4_report_counted z = (mf4_report_tells _ (again_zero y.reply y.told _ z)).1.counted

    -- ---- why there is none: each refusal with all that it takes, in the order of the tests, and its number

    pub mf4_report_refused : ToldExactly (Due file.now start size (group_given group) (channel_given channel) out.now) y.reply y.told
    mf4_report_refused =
        told_exactly y.reply y.told _ _ mf4_report_told (reported_refused file.now start size (group_given group) (channel_given channel) out.now)

    pub mf4_report_in_turn : ToldExactly (report_refused file.now start size out.now (group_given group) (channel_given channel)) y.reply y.told
    mf4_report_in_turn =
        told_exactly y.reply y.told _ _ mf4_report_told (reported_in_turn file.now start size (group_given group) (channel_given channel) out.now)

    pub mf4_report_numbered : NumberedC OfReports y.reply y.told
    mf4_report_numbered =
        numbers.numbered_beside report_c (λ (x : Mf4ReportReply). x.reply) (λ (x : Mf4ReportReply). x.told) (λ r. refl) (λ n t. (refl, refl)) _ p
        (reported_numbered file.now start size (group_given group) (channel_given channel) out.now)

  pub mf4_report_spares : Sparing (ReportsChannelC κs file start size group channel out) (λ y. y.reply ≡ 0 → ⊥) (λ y. size) out.now
  mf4_report_spares =
      left.sparing report_c (λ (y : Mf4ReportReply). y.reply) (λ y. size) (λ r. size) (λ r. refl) (λ r. refl)
      _ out.now (reported_leaves file.now start size (group_given group) (channel_given channel) out.now)

-- ---- two files

module _ (κs : Lfts 2) (j : List ℕ) (size : ℕ) (group : Mf4Group) (channel : Mf4Channel) where
  abbrev pub ReportSaysC : Slice → ℕ → Room → Mf4ReportReply → List ℕ → Type 0
  ReportSaysC file start buffer = ReportsChannelC κs file start size group channel buffer

  abbrev report_given_c : List ℕ → Returned Mf4ReportReply
  report_given_c out = returned_by report_c (report_in j size (group_given group) (channel_given channel) out)

  pub mf4_report_of_joined : OfJoined (λ s. s) j ReportSaysC returned report_given_c
  mf4_report_of_joined file start buffer y after h p =
      p ∙ ap (returned_by report_c) (report_of_joined file.now start j h size (group_given group) (channel_given channel) buffer.now)

  pub mf4_report_alike : Alike (λ s. s) j ReportSaysC returned report_given_c
  mf4_report_alike =
      alike (λ s. s) j ReportSaysC returned report_given_c
      (λ y z after later e. (returned_result e, returned_buffer e))
      mf4_report_of_joined
