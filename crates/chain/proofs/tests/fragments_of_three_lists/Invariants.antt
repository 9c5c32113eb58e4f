-- The walk stands on the way along the chain.
use mathlib.Core.List.{List}
use Prim.Native.Nat.{ℕ}
use Rattle.definitions.specs.Chain.{Block, id_dt}
use Rattle.chain.specs.Walk.{At, turns_left}
use Rattle.chain.proofs.tests.fragments_of_three_lists.Given as goal

abbrev pub invariant-loop-wanted : goal.invariant-loop-wanted
invariant-loop-wanted g l = (start : ℕ) × (before : List Block) × At id_dt l.file start l.place before

abbrev pub decreases-loop-wanted : goal.decreases-loop-wanted
decreases-loop-wanted g l = turns_left l.place
