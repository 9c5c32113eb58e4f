-- The walk begins before the first list, and each fragment leads on along it.
use mathlib.Core.List.{[]}
use native.Mathlib.Omega.{arith}
use Rattle.chain.proofs.Walks.{at_start}
use Rattle.chain.proofs.tests.fragments_of_three_lists.Goals as goal

pub loop-wanted-init : goal.loop-wanted-init
loop-wanted-init g c = (_, [], at_start _ _ _ _ c.start-place.ensures (omega (arith, c.as_flattened-file.ensures.len)))

pub loop-wanted-smaller : goal.loop-wanted-smaller
loop-wanted-smaller g c = (rw c.in-Some.is at c.in_ok-fragment.ensures _ _ c.loop-wanted.invariant.2).nearer

pub loop-wanted-preserved : goal.loop-wanted-preserved
loop-wanted-preserved g c = (_, _, (rw c.in-Some.is at c.in_ok-fragment.ensures _ _ c.loop-wanted.invariant.2).there)
