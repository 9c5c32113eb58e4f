-- Each test in turn, and then the line.
use Rattle.std.proofs.lemmas.Result.{err_from_is_err_and}
use mathlib.Core.Path.{◌≡◌, refl, sym, ap, ap₂, subst, ◌∙◌}
use Prim.Native.Nat.{ℕ, ◌/◌}
use native.Mathlib.Omega.{arith}
use lib.ListN.{length, take}
use lib.Seq.{length-take-le}
use Rattle.definitions.specs.Reply.{answer}
use Rattle.definitions.specs.Channel.{area_of}
use Rattle.definitions.specs.Chain.{id_dt, data_length, joined}
use Rattle.definitions.specs.Report.{first_records, readings, report_of, last_record_in}
use Rattle.fields.specs.Meaning.{channel_meant, group_meant}
use Rattle.chain.specs.Walk.{Walked}
use Rattle.records.proofs.Records.{size_good, data_whole}
use Rattle.report.proofs.Reporting.{report_bad, report_refused_law, report_other, report_outside, report_line, lined_back}
use Rattle.report.proofs.report.report_channel.Goals as goal

pub returns-then-bad_size : goal.returns-then-bad_size
returns-then-bad_size c =
    let a = c.args in
    (report_bad a.file.now a.start.0 a.record_size (group_meant a.group) (channel_meant a.channel) a.buffer.now (sym c.bad_size.ensures ∙ c.if-bad_size.true), tt)

-- a refused chain is handed on
pub returns-in_err-located : goal.returns-in_err-located
unfolding data_length
returns-in_err-located c =
    let p = err_from_is_err_and c.from_residual.result c.from_residual.ensures.1 in
    let a = c.args in rw (p.1, p.2) (
      report_refused_law a.file.now a.start.0 a.record_size (group_meant a.group) (channel_meant a.channel) a.buffer.now (sym c.bad_size.ensures ∙ c.if-bad_size.false) _ _
          (sym c.in_err-located.ensures.replied),
      tt,
    )

pub returns-then-not-is_fixed_number : goal.returns-then-not-is_fixed_number
unfolding data_length
returns-then-not-is_fixed_number c =
    let a = c.args in
    let total : data_length c.args.file.now c.args.start.0 ≡ answer c.in_ok-located.located.total.0 = sym c.in_ok-located.ensures.replied in (
      report_other a.file.now a.start.0 a.record_size (group_meant a.group) (channel_meant a.channel) a.buffer.now (sym c.bad_size.ensures ∙ c.if-bad_size.false) _ total
          (sym c.is_fixed_number.ensures ∙ c.if-not-is_fixed_number.true),
      tt,
    )

pub returns-in_err-check_area : goal.returns-in_err-check_area
unfolding data_length
returns-in_err-check_area c =
    let p = err_from_is_err_and c.from_residual-in_err-check_area.result c.from_residual-in_err-check_area.ensures.1 in
    let a = c.args in
    let total : data_length c.args.file.now c.args.start.0 ≡ answer c.in_ok-located.located.total.0 = sym c.in_ok-located.ensures.replied in
    rw (p.1, p.2) (
      report_outside a.file.now a.start.0 a.record_size (group_meant a.group) (channel_meant a.channel) a.buffer.now (sym c.bad_size.ensures ∙ c.if-bad_size.false) _ total
          (sym c.is_fixed_number.ensures ∙ c.if-not-is_fixed_number.false) _ _ (sym c.in_err-check_area.ensures),
      tt,
    )

-- the front of the buffer is as long as a record
-- the walk begins where the data does, with so many whole records; 28 and 29 are passed
pub line_and_last-report-requires : goal.line_and_last-report-requires
unfolding data_length
line_and_last-report-requires c =
    let a = c.args in
    let front = length-take-le _ _ (size_good a.record_size (length a.buffer.now) (sym c.bad_size.ensures ∙ c.if-bad_size.false)).1 in
    let total : data_length c.args.file.now c.args.start.0 ≡ answer c.in_ok-located.located.total.0 = sym c.in_ok-located.ensures.replied in
    let kept = c.in_ok-located.ensures.place _ refl in
    let whole = data_whole a.file.now a.start.0 _ total in
    let walked : Walked id_dt a.file.now c.in_ok-located.located.place = record { start = a.start.0; before = kept.0; blocks = whole.1; at = kept.1; whole = whole.2 } in
    let records : c.in_ok-located.located.total.0 / a.record_size ≡ length (joined a.file.now whole.1) / length (take a.record_size a.buffer.now) =
    ap₂ (λ (n size : ℕ). n / size) (sym whole.3) (sym front) in (
      (walked, records),
      omega (arith, kept.2),
      sym c.is_fixed_number.ensures ∙ c.if-not-is_fixed_number.false,
      subst (λ (n : ℕ). area_of n (group_meant a.group) (channel_meant a.channel) ≡ answer tt) (sym front) (sym c.in_ok-check_area.ensures),
    )

pub returns : goal.returns
unfolding data_length
returns c =
    let a = c.args in
    let g = group_meant a.group in
    let ch = channel_meant a.channel in
    let front = length-take-le _ _ (size_good a.record_size (length a.buffer.now) (sym c.bad_size.ensures ∙ c.if-bad_size.false)).1 in
    let total : data_length c.args.file.now c.args.start.0 ≡ answer c.in_ok-located.located.total.0 = sym c.in_ok-located.ensures.replied in
    let kept = c.in_ok-located.ensures.place _ refl in
    let whole = data_whole a.file.now a.start.0 _ total in
    let walked : Walked id_dt a.file.now c.in_ok-located.located.place = record { start = a.start.0; before = kept.0; blocks = whole.1; at = kept.1; whole = whole.2 } in
    let records : c.in_ok-located.located.total.0 / a.record_size ≡ length (joined a.file.now whole.1) / length (take a.record_size a.buffer.now) =
    ap₂ (λ (n size : ℕ). n / size) (sym whole.3) (sym front) in
    let j = joined a.file.now whole.1 in
    let k = c.in_ok-located.located.total.0 / a.record_size in
    let line = c.line_and_last-report.ensures walked records in
    lined_back c.lined.result c.line_and_last-report.result c.lined.ensures
    (report_line a.file.now a.start.0 a.record_size g ch a.buffer.now (sym c.bad_size.ensures ∙ c.if-bad_size.false) _ total (sym c.is_fixed_number.ensures ∙ c.if-not-is_fixed_number.false)
    (sym c.in_ok-check_area.ensures) k (ap (λ (n : ℕ). n / a.record_size) (sym whole.3)) _ _
    (line.0 ∙ ap (λ (size : ℕ). report_of (readings g ch (first_records k size j))) front)
    (line.1 ∙ ap (λ (size : ℕ). last_record_in k size j (take a.record_size a.buffer.now)) front))
