-- The loop keeps where it stands in the chain, and the table that lists the first fragments.
use Rattle.std.proofs.lemmas.Result.{err_from_is_err_and}
use Rattle.std.specs.Prelude.{Some}
use mathlib.Core.Path.{ap, ◌∙◌}
use mathlib.Core.List.{[]}
use native.Mathlib.Omega.{arith}
use Rattle.places.specs.Meaning.{block_meant}
use Rattle.chain.proofs.Chains.{total_more, data_bound}
use Rattle.chain.proofs.Walks.{at_start}
use Rattle.table.proofs.Openings.{filled_none, filled_room, filled_more}
use Rattle.table.proofs.opening.list_chain.Goals as goal

pub loop-step-init : goal.loop-step-init
loop-step-init c =
    ([], at_start _ _ _ _ c.start-place.ensures c.requires.0, filled_none _ _ c.requires.2)

-- a refused fragment or list is handed on
pub returns-in_err-step : goal.returns-in_err-step
returns-in_err-step c =
    let p = err_from_is_err_and c.from_residual.result c.from_residual.ensures.1 in
    rw (p.1, p.2) (c.in_err-step.ensures _ _ c.loop-step.invariant.1, c.loop-step.invariant.2.none)

-- there is room for it
pub add_within-requires : goal.add_within-requires
add_within-requires c =
    let met = rw (c.in-Some.is ∙ ap Some c.in-OverFragment.is) at c.in_ok-step.ensures _ _ c.loop-step.invariant.1 in
    filled_room _ _ _ _ c.loop-step.invariant.2 c.requires.1 _ met.here.count (block_meant c.in-OverFragment.fragment.block)
    (omega (arith, total_more (block_meant c.in-OverFragment.fragment.block) c.loop-step.invariant.0, data_bound _ _ met.there.short met.there.stand))

pub loop-step-smaller-in-OverFragment : goal.loop-step-smaller-in-OverFragment
loop-step-smaller-in-OverFragment c = (rw (c.in-Some.is ∙ ap Some c.in-OverFragment.is) at c.in_ok-step.ensures _ _ c.loop-step.invariant.1).nearer

pub loop-step-preserved-in-OverFragment : goal.loop-step-preserved-in-OverFragment
loop-step-preserved-in-OverFragment c =
    let met = rw (c.in-Some.is ∙ ap Some c.in-OverFragment.is) at c.in_ok-step.ensures _ _ c.loop-step.invariant.1 in
    (_, met.there, filled_more _ _ _ _ c.loop-step.invariant.2 c.requires.1 _ met.here.count (block_meant c.in-OverFragment.fragment.block) _ c.add_within.ensures)

-- in the next list
pub loop-step-smaller : goal.loop-step-smaller
loop-step-smaller c = (rw (c.in-Some.is ∙ ap Some c.in_default-step.is) at c.in_ok-step.ensures _ _ c.loop-step.invariant.1).nearer

pub loop-step-preserved : goal.loop-step-preserved
loop-step-preserved c =
    let entered = rw (c.in-Some.is ∙ ap Some c.in_default-step.is) at c.in_ok-step.ensures _ _ c.loop-step.invariant.1 in
    (_, entered.there, c.loop-step.invariant.2)

pub overflow_add-before : goal.overflow_add-before
overflow_add-before c =
    let known = (rw (c.in-Some.is ∙ ap Some c.in-OverFragment.is) at c.in_ok-step.ensures _ _ c.loop-step.invariant.1).here.known in
    omega (arith, known.few, known.inside)

pub overflow_add-result : goal.overflow_add-result
overflow_add-result c =
    let known = (rw c.in_default.is at c.in_ok-step.ensures _ _ c.loop-step.invariant.1).1.known in
    omega (arith, known.few, known.inside)

pub returns : goal.returns
returns c =
    let met = rw c.in_default.is at c.in_ok-step.ensures _ _ c.loop-step.invariant.1 in
    (c.loop-step.invariant.0, met.0, met.1.count, c.loop-step.invariant.2)
