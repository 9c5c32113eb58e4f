-- After each record the tally is what the records so far make of the first one.
use mathlib.Core.Path.{sym, ◌∙◌}
use native.Mathlib.Omega.{arith}
use Rattle.report.proofs.Rows.{row_valid, row_invalid}
use Rattle.report.proofs.in_place.Rows.row.Goals as goal
use Rattle.report.proofs.in_place.Rows.row.Goals.{then-is_valid_by+in-Some, else-is_valid_by}

-- whichever way, the tally has one record more
pub loop-i-preserved : goal.loop-i-preserved
loop-i-preserved g c =
    let a = c.args in
    let rows = a.self.now in
    let l = c.loop-i in
    elim c.if-is_valid_by.branch [
      | then-is_valid_by+in-Some w ↦ row_valid rows.layout.size rows.layout.slot a.before rows.records.now a.first l.i l.tally l.invariant.0 l.invariant.1 c.if-is_valid_by.tally _ c.record-record.ensures.0 _ c.requires.2
          (sym c.is_valid_by.ensures ∙ w.if-is_valid_by.true) w.word_at-word.ensures (omega arith) (w.tally-is ∙ w.in-Some.ensures)
      | else-is_valid_by w ↦ row_invalid rows.layout.size rows.layout.slot a.before rows.records.now a.first l.i l.tally l.invariant.0 l.invariant.1 c.if-is_valid_by.tally _ c.record-record.ensures.0
          (sym c.is_valid_by.ensures ∙ w.if-is_valid_by.false) (w.tally-is ∙ w.skipped-tally.ensures)
    ]
