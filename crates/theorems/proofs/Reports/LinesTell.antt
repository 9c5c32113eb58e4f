-- What every report that is made tells: the records that there are, each counted once, and so on.
use mathlib.Core.Path.{◌≡◌, sym, ◌∙◌, subst}
use mathlib.Core.List.{List}
use Prim.Native.Nat.{ℕ, ◌^◌, ◌<◌}
use native.Mathlib.Nat.{div-le_self}
use native.Mathlib.Omega.{arith}
use lib.ListN.{length}
use Rattle.definitions.specs.Reply.{answer}
use Rattle.definitions.specs.Channel.{Channel, Group, area_of}
use Rattle.definitions.specs.Chain.{id_dt, joined}
use Rattle.definitions.specs.Report.{Report, first_records, record_count, readings, reported}
use Rattle.places.proofs.Answers.{answered}
use Rattle.theorems.specs.ReportEnds.{Reportable, line_of, Tells}
use Rattle.theorems.proofs.Calls.Outcomes.{of_outcome}
use Rattle.theorems.proofs.Calls.Answers.{area_exactly}
use Rattle.theorems.proofs.Chains.WithinLimits.{accepted_below}
use Rattle.theorems.proofs.Reports.Counts.{report_counted}
use Rattle.theorems.proofs.Reports.RecordsRead.{records_length, report_records}
use Rattle.theorems.proofs.Reports.Extremes.{report_any, report_ends}
use Rattle.theorems.proofs.Reports.Sums.{report_sum_fits}
use Rattle.theorems.proofs.Reports.AllOrNone.{report_all_or_none}
use Rattle.theorems.proofs.Reports.ReportEnds.{reported_line, reported_exactly}

-- fewer records than bytes, which are below 2^52
few : (j : List ℕ) (size : ℕ) → length j < 2 ^ 52 → length (first_records (record_count size j) size j) < 2 ^ 63
few j size h = omega (arith, records_length (record_count size j) size j, div-le_self (length j) size)

module _ (f : List ℕ) (start size : ℕ) (g : Group) (c : Channel) (out : List ℕ) where
  pub line_tells : (h : Reportable f start size g c out) → let j = joined f h.blocks in Tells j size g c (line_of j size g c)
  line_tells h =
      let j = joined f h.blocks in
      let area : area_of size g c ≡ answer tt = ((area_exactly size g c).answers h.area).1 in
      let rs = first_records (record_count size j) size j in record {
        records = report_records g c size j;
        counted = report_counted (readings g c rs);
        all_or_none = report_all_or_none size g c area j;
        any = report_any (readings g c rs);
        ends = report_ends (readings g c rs);
        fits = report_sum_fits g c rs (few j size (accepted_below id_dt f start h.blocks h.short h.accepted));
      }

  pub reported_tells : (r : Report) → (reported f start size g c out).reply ≡ answer r → (h : Reportable f start size g c out) × Tells (joined f h.blocks) size g c r
  reported_tells r e =
      let h = (reported_exactly f start size g c out).only r e in
      let same : line_of (joined f h.blocks) size g c ≡ r =
      answered (sym (of_outcome (reported_line f start size g c out h)) ∙ e) in
      (h, subst (Tells (joined f h.blocks) size g c) same (line_tells h))
