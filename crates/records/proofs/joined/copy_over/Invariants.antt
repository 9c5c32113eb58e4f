-- The loop has copied the first i bytes.
use mathlib.Core.Path.{◌≡◌}
use lib.Seq.{paste}
use Rattle.records.proofs.joined.copy_over.Given as goal

abbrev pub invariant-loop-i : goal.invariant-loop-i
invariant-loop-i l = l.out ≡ paste l.initial.out l.at l.bytes l.i
