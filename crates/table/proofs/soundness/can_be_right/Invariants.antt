-- What is left of the test after the fragments from `place` on.
use mathlib.Core.Path.{◌≡◌}
use Prim.Native.Nat.{◌≤◌}
use Rattle.definitions.specs.Table.{table_limit, count_of, begin_of}
use Rattle.table.specs.Passed.{passes}
use Rattle.table.proofs.Ordered.{passes_up_to}
use Rattle.table.proofs.soundness.can_be_right.Given as goal

abbrev pub invariant-loop-place : goal.invariant-loop-place
invariant-loop-place l =
    (l.place ≤ count_of l.table) × (count_of l.table ≤ table_limit) × (l.end.0 ≡ begin_of l.table l.place) × (passes l.file_end l.table ≡ passes_up_to l.file_end l.table l.place)
