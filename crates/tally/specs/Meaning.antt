-- What the code's report means in the definitions.
use Rattle.std.specs.Prelude.{ℤ, pos, ◌+ℤ◌, ◌*ℤ◌, true, Option, Some, None}
use Rattle.definitions.specs.Report as defined
use Rattle.tally.specs.Tallies.{no_outermost}
use Rattle.tally.specs.declared.report.Point.{Point}
use Rattle.tally.specs.declared.report.Outermost.{Outermost}
use Rattle.tally.specs.declared.report.Report.{Report}
use Rattle.tally.specs.declared.sum.Sum.{Sum}

abbrev pub point_meant : Point → defined.Point
point_meant p = record { number = p.number; value = p.value }

-- with none, all is 0
abbrev pub outermost_meant : Option Outermost → defined.Outermost
outermost_meant None = no_outermost
outermost_meant (Some o) = record {
  any = true;
  first = point_meant o.first;
  last = point_meant o.last;
  smallest = point_meant o.smallest;
  largest = point_meant o.largest;
}

-- two's complement of 128 bits
abbrev pub sum_meant : Sum → ℤ
sum_meant s = s.high *ℤ pos 18446744073709551616 +ℤ pos s.low

abbrev pub report_meant : Report → defined.Report
report_meant r = record {
  records = r.records;
  valid = r.valid;
  invalid = r.invalid;
  without_value = r.without_value;
  nan = r.nan;
  doubles = outermost_meant r.doubles;
  sum = sum_meant r.sum;
}
