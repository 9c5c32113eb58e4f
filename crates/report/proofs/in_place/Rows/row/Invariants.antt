-- After each record the tally is what the records so far make of the first one.
use Rattle.tally.specs.Tallies.{HasMarks}
use Rattle.report.specs.Rows.{RowSo}
use Rattle.report.proofs.in_place.Rows.row.Given as goal

abbrev pub invariant-loop-i : goal.invariant-loop-i
invariant-loop-i g l = RowSo l.self.layout.size l.self.layout.slot l.initial.tally l.self.records.now l.first l.i l.tally × HasMarks l.tally
