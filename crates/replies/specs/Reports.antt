-- A report as C sees it.
use Rattle.std.specs.Prelude.{ℕ, ◌-◌, ◌/◌, ◌%◌, ℤ, pos, negsuc}
use Rattle.definitions.specs.Reply.{Reply, answer, refusal}
use Rattle.definitions.specs.Report.{Point, Report, no_point}
use Rattle.replies.specs.Replies.{flag_c}
use Rattle.replies.specs.declared.reports.Mf4Point.{Mf4Point}
use Rattle.replies.specs.declared.reports.Mf4ReportReply.{Mf4ReportReply}

-- an integer in two words, as in two's complement: high_of z * 2^64 + low_of z
abbrev pub high_of : ℤ → ℤ
high_of (pos n) = pos (n / 18446744073709551616)
high_of (negsuc k) = negsuc (k / 18446744073709551616)

abbrev pub low_of : ℤ → ℕ
low_of (pos n) = n % 18446744073709551616
low_of (negsuc k) = 18446744073709551615 - k % 18446744073709551616

abbrev pub point_c : Point → Mf4Point
point_c p = record { number = p.number; value = p.value }

abbrev pub no_point_c : Mf4Point
no_point_c = point_c no_point

abbrev pub report_c : Reply Report → Mf4ReportReply
report_c (answer a) = record {
  reply = 0;
  told = 0;
  records = a.records;
  valid = a.valid;
  invalid = a.invalid;
  without_value = a.without_value;
  nan = a.nan;
  has_doubles = flag_c a.doubles.any;
  first = point_c a.doubles.first;
  last = point_c a.doubles.last;
  smallest = point_c a.doubles.smallest;
  largest = point_c a.doubles.largest;
  sum_high = high_of a.sum;
  sum_low = low_of a.sum;
}
report_c (refusal n t) = record {
  reply = n;
  told = t;
  records = 0;
  valid = 0;
  invalid = 0;
  without_value = 0;
  nan = 0;
  has_doubles = 0;
  first = no_point_c;
  last = no_point_c;
  smallest = no_point_c;
  largest = no_point_c;
  sum_high = pos 0;
  sum_low = 0;
}
