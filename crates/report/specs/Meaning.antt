-- What a call's answer and the buffer that it leaves mean in the definitions.
use Rattle.std.specs.Prelude.{ℕ, ◌^◌, ◌<◌, List, Result, Ok, Err}
use Rattle.definitions.specs.Reply.{Reply, Outcome}
use Rattle.definitions.specs.Report as defined
use Rattle.refusals.specs.Meaning.{replied}
use Rattle.refusals.specs.declared.Refusal.{Refusal}
use Rattle.tally.specs.Meaning.{report_meant}
use Rattle.tally.specs.declared.report.Report.{Report}

abbrev pub report_reply : Result Report Refusal → Reply defined.Report
report_reply = replied report_meant

abbrev pub reported_by : Result Report Refusal → List ℕ → Outcome defined.Report
reported_by r out = record { reply = report_reply r; buffer = out }

-- Of the two words of a sum the low one is below 2^64, so that no two answers mean the same
abbrev pub InWords : Result Report Refusal → Type 0
InWords (Ok r) = r.sum.low < 2 ^ 64
InWords (Err r) = Unit {0}
