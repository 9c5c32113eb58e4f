-- The data of the fragments before this one is laid into the window.
use mathlib.Core.Path.{◌≡◌}
use lib.ListN.{length}
use Rattle.definitions.specs.Chain.{joined}
use Rattle.definitions.specs.Table.{fragments_in}
use Rattle.records.specs.Window.{laid}
use Rattle.table.proofs.fetch.window.Given as goal

abbrev pub invariant-loop-place : goal.invariant-loop-place
invariant-loop-place l =
    (length l.out ≡ length l.initial.out) × (l.out ≡ laid l.initial.out l.from.0 0 (joined l.file (fragments_in l.table l.place)))
