-- What a report's answer means is one-to-one where the low word of its sum is one word, as the call says.
use mathlib.Core.Path.{◌≡◌, refl, sym, ap, ap₂, ◌∙◌}
use Prim.Native.Nat.{ℕ}
use native.Mathlib.Omega.{arith}
use lib.IntN.{ℤ}
use Rattle.std.specs.Prelude.{Result, Ok, Err, Option, Some, None, if◌then◌else◌}
use Rattle.definitions.specs.Report as defined
use Rattle.refusals.specs.declared.Refusal.{Refusal}
use Rattle.refusals.proofs.Back.{result_of, back}
use Rattle.tally.specs.Meaning.{outermost_meant, sum_meant, report_meant}
use Rattle.tally.specs.declared.report.Point.{Point}
use Rattle.tally.specs.declared.report.Outermost.{Outermost}
use Rattle.tally.specs.declared.report.Report.{Report}
use Rattle.report.specs.Meaning.{report_reply, InWords}
use Rattle.replies.specs.Reports.{high_of, low_of}
use Rattle.replies.proofs.Lines.{high_back, low_back}

abbrev point_back : defined.Point → Point
point_back p = record { number = p.number; value = p.value }

abbrev outermost_back : defined.Outermost → Option Outermost
outermost_back o =
    if o.any then
    Some (record {
      first = point_back o.first;
      last = point_back o.last;
      smallest = point_back o.smallest;
      largest = point_back o.largest;
    })
    else None

outermost_back_law : (o : Option Outermost) → outermost_back (outermost_meant o) ≡ o
outermost_back_law None = refl
outermost_back_law (Some o) = refl

-- with these doubles, and the sum in these two words
abbrev line_with : defined.Report → Option Outermost → ℤ → ℕ → Report
line_with r doubles high low = record {
  records = r.records;
  valid = r.valid;
  invalid = r.invalid;
  without_value = r.without_value;
  nan = r.nan;
  doubles = doubles;
  sum = record { high = high; low = low };
}

abbrev line_back : defined.Report → Report
line_back r = line_with r (outermost_back r.doubles) (high_of r.sum) (low_of r.sum)

report_back : (y : Result Report Refusal) → InWords y → result_of line_back (report_reply y) ≡ y
report_back (Ok r) h =
    ap (λ (o : Option Outermost). Ok (line_with (report_meant r) o (high_of (sum_meant r.sum)) (low_of (sum_meant r.sum)))) (outermost_back_law r.doubles)
    ∙ ap₂ (λ (high : ℤ) (low : ℕ). Ok (line_with (report_meant r) r.doubles high low))
    (high_back r.sum.high r.sum.low (omega (arith, h))) (low_back r.sum.high r.sum.low (omega (arith, h)))
report_back (Err why) h = ap Err (back why)

pub report_one : (y z : Result Report Refusal) → InWords y → InWords z → report_reply y ≡ report_reply z → y ≡ z
report_one y z h i e = sym (report_back y h) ∙ ap (result_of line_back) e ∙ report_back z i
