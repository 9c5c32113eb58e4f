-- A report by the library's call: when there is one and what it tells, why there is none, what is left in the buffer, and that two
-- files which join to the same bytes are not told apart. Each theorem is about the call's own clause.
use mathlib.Core.Path.{◌≡◌, sym, ap, ◌∙◌, subst}
use mathlib.Core.List.{List}
use Prim.Native.Nat.{ℕ}
use contract.Lifetimes.{Lfts}
use Rattle.std.specs.Prelude.{Result}
use Rattle.definitions.specs.Reply.{Outcome, answer}
use Rattle.definitions.specs.Chain.{joined}
use Rattle.definitions.specs.Report.{Report}
use Rattle.refusals.specs.declared.Refusal.{Refusal}
use Rattle.fields.specs.Meaning.{channel_meant, group_meant}
use Rattle.fields.specs.declared.channel.Channel.{Channel}
use Rattle.fields.specs.declared.group.Group.{Group}
use Rattle.places.specs.declared.place.FileAddress.{FileAddress}
use Rattle.report.specs.Meaning.{report_reply, reported_by}
use Rattle.tally.specs.declared.report.Report.{Report as Line}
use Rattle.mf4.specs.Clauses.{Slice, Room}
use Rattle.theorems.specs.Clauses.{ReportsChannel}
use Rattle.theorems.specs.Exactly.{Exactly}
use Rattle.theorems.specs.Refused.{RefusedExactly}
use Rattle.theorems.specs.ReportEnds.{Reportable, Tells, report_refused, Due, ReportEnds}
use Rattle.theorems.proofs.Calls.Outcomes.{of_buffer, of_outcome}
use Rattle.theorems.proofs.Calls.AnswersByCalls.{exactly}
use Rattle.theorems.proofs.Calls.LeftAloneByCalls as left
use Rattle.theorems.proofs.Calls.LeftAloneByCalls.{Sparing, Refused}
use Rattle.theorems.proofs.Calls.RefusalNumbers.{Numbered}
use Rattle.theorems.proofs.Calls.RefusalNumbersByCalls.{numbered}
use Rattle.theorems.proofs.Calls.TestsInTurn.{as_is}
use Rattle.theorems.proofs.Records.TwoFilesRead.{OfJoined, Alike}
use Rattle.theorems.proofs.Reports.LinesTell.{reported_tells}
use Rattle.theorems.proofs.Reports.ReportCauses.{reported_in_turn}
use Rattle.theorems.proofs.Reports.ReportEnds.{reported_ends, reported_exactly, reported_refused}
use Rattle.theorems.proofs.Reports.ReportNumbers.{OfReports, reported_numbered}
use Rattle.theorems.proofs.Reports.ReportsLeft.{reported_leaves}
use Rattle.theorems.proofs.Reports.ReportsOne.{report_one}
use Rattle.theorems.proofs.Reports.TwoFilesReports.{report_in, report_of_joined}

module _ (κs : Lfts 2) (file : Slice) (start : FileAddress) (size : ℕ) (group : Group) (channel : Channel) (out : Room) where
  module _ (y : Result Line Refusal) (after : List ℕ) (p : ReportsChannel κs file start size group channel out y after) where
    pub channel_report_exactly : Exactly (Reportable file.now start.0 size (group_meant group) (channel_meant channel) out.now) (report_reply y)
    channel_report_exactly = exactly (of_outcome p.0) (reported_exactly file.now start.0 size (group_meant group) (channel_meant channel) out.now)

    pub channel_report_ends : ReportEnds file.now start.0 size (group_meant group) (channel_meant channel) out.now (reported_by y after)
    channel_report_ends =
        subst (ReportEnds file.now start.0 size (group_meant group) (channel_meant channel) out.now) (sym p.0)
        (reported_ends file.now start.0 size (group_meant group) (channel_meant channel) out.now)

    pub channel_report_tells : (r : Report) → report_reply y ≡ answer r
        → (h : Reportable file.now start.0 size (group_meant group) (channel_meant channel) out.now)
        × Tells (joined file.now h.blocks) size (group_meant group) (channel_meant channel) r
    channel_report_tells r e =
        reported_tells file.now start.0 size (group_meant group) (channel_meant channel) out.now r (sym (of_outcome p.0) ∙ e)

    -- ---- why there is none: each refusal with all that it takes, in the order of the tests, and its number

    pub channel_report_refused : RefusedExactly (Due file.now start.0 size (group_meant group) (channel_meant channel) out.now) (report_reply y)
    channel_report_refused = as_is (of_outcome p.0) (reported_refused file.now start.0 size (group_meant group) (channel_meant channel) out.now)

    pub channel_report_in_turn : RefusedExactly (report_refused file.now start.0 size out.now (group_meant group) (channel_meant channel)) (report_reply y)
    channel_report_in_turn = as_is (of_outcome p.0) (reported_in_turn file.now start.0 size (group_meant group) (channel_meant channel) out.now)

    pub channel_report_numbered : Numbered OfReports (report_reply y)
    channel_report_numbered = numbered (of_outcome p.0) (reported_numbered file.now start.0 size (group_meant group) (channel_meant channel) out.now)

  pub channel_report_spares : Sparing (ReportsChannel κs file start size group channel out) (λ y. Refused (report_reply y)) (λ y. left.reported (λ r. size) (report_reply y)) out.now
  channel_report_spares y after p =
      left.sparing report_reply (λ r. size) _ out.now
      (reported_leaves file.now start.0 size (group_meant group) (channel_meant channel) out.now) y after p.0

-- ---- two files

module _ (κs : Lfts 2) (j : List ℕ) (size : ℕ) (group : Group) (channel : Channel) where
  abbrev pub ReportSays : Slice → FileAddress → Room → Result Line Refusal → List ℕ → Type 0
  ReportSays file start buffer = ReportsChannel κs file start size group channel buffer

  abbrev report_given : List ℕ → Outcome Report
  report_given = report_in j size (group_meant group) (channel_meant channel)

  pub channel_report_of_joined : OfJoined (λ (s : FileAddress). s.0) j ReportSays reported_by report_given
  channel_report_of_joined file start buffer y after h p =
      p.0 ∙ report_of_joined file.now start.0 j h size (group_meant group) (channel_meant channel) buffer.now

  pub channel_report_alike : Alike (λ (s : FileAddress). s.0) j ReportSays reported_by report_given
  channel_report_alike f g s t b c y z after later h i e p q =
      let same = channel_report_of_joined f s b y after h p ∙ ap report_given e ∙ sym (channel_report_of_joined g t c z later i q) in
      (report_one y z p.1 q.1 (of_outcome same), of_buffer same)
