-- On whichever chain the walk stands, it has met no block more, and has no more turns to make.
use mathlib.Core.List.{List}
use Prim.Native.Nat.{ℕ, ◌≤◌}
use Rattle.definitions.specs.Chain.{Block}
use Rattle.chain.specs.Walk.{At, turns_left}
use Rattle.chain.proofs.walk.next_fragment.Given as goal

abbrev pub invariant-loop-step : goal.invariant-loop-step
invariant-loop-step l =
    (start : ℕ) (before : List Block) → At l.id l.file start l.initial.place before
    → At l.id l.file start l.place before × (turns_left l.place ≤ turns_left l.initial.place)

abbrev pub decreases-loop-step : goal.decreases-loop-step
decreases-loop-step l = turns_left l.place
