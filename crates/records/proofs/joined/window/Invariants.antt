-- On whichever accepted chain the walk began, the loop is on its way there, and has laid the data of the blocks so far into
-- the window, which it has not passed.
use mathlib.Core.Path.{◌≡◌}
use Prim.Native.Nat.{◌+◌, ◌≤◌}
use lib.ListN.{length}
use Rattle.definitions.specs.Chain.{joined}
use Rattle.chain.specs.Walk.{Walked, turns_left}
use Rattle.records.specs.Window.{laid}
use Rattle.records.proofs.joined.window.Given as goal

abbrev pub invariant-loop-step : goal.invariant-loop-step
invariant-loop-step l =
    (l.place.position.0 ≤ l.from.0 + length l.initial.out)
    × ((w : Walked l.id l.file l.fn.begin) → (v : Walked l.id l.file l.place) × (v.blocks ≡ w.blocks) × (l.out ≡ laid l.initial.out l.from.0 0 (joined l.file v.before)))

abbrev pub decreases-loop-step : goal.decreases-loop-step
decreases-loop-step l = turns_left l.place
