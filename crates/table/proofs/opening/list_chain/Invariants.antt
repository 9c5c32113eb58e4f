-- The loop keeps where it stands in the chain, and the table that lists the first fragments.
use mathlib.Core.List.{List}
use Rattle.definitions.specs.Chain.{Block, id_dt}
use Rattle.chain.specs.Walk.{At, turns_left}
use Rattle.table.specs.Listed.{Filled}
use Rattle.table.proofs.opening.list_chain.Given as goal

abbrev pub invariant-loop-step : goal.invariant-loop-step
invariant-loop-step l =
    (before : List Block) × At id_dt l.file l.fn.start.0 l.place before × Filled l.most before l.initial.table l.table

abbrev pub decreases-loop-step : goal.decreases-loop-step
decreases-loop-step l = turns_left l.place
