-- The loop keeps where it stands in the chain, and beside it a place on the way there that is not behind the wanted position.
use mathlib.Core.List.{List}
use Prim.Native.Nat.{◌≤◌}
use Rattle.definitions.specs.Chain.{Block}
use Rattle.chain.specs.Walk.{At, turns_left}
use Rattle.chain.proofs.acceptance.locate.Given as goal

abbrev pub invariant-loop-step : goal.invariant-loop-step
invariant-loop-step l =
    (before : List Block) × At l.id l.file l.fn.start.0 l.place before
    × (first : List Block) × At l.id l.file l.fn.start.0 l.kept first × (l.kept.position.0 ≤ l.wanted.0)

abbrev pub decreases-loop-step : goal.decreases-loop-step
decreases-loop-step l = turns_left l.place
