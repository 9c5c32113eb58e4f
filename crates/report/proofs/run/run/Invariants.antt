-- After i records the tally is what these make of the first one: those of a row at once, and the one that ends it by itself.
use mathlib.Core.Path.{◌≡◌}
use Prim.Native.Nat.{◌-◌, ◌≤◌}
use Rattle.tally.specs.Tallies.{Sane}
use Rattle.report.specs.Visits.{seen, visited}
use Rattle.report.proofs.run.run.Given as goal

abbrev pub invariant-loop-i : goal.invariant-loop-i
invariant-loop-i l = (l.i ≤ l.n) × (l.tally ≡ seen (visited l.rows.layout.slot) l.rows.layout.size l.initial.tally l.rows.records.now l.i) × Sane l.tally

abbrev pub decreases-loop-i : goal.decreases-loop-i
decreases-loop-i l = l.n - l.i
