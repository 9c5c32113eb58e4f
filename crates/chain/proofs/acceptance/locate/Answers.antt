-- The loop keeps where it stands in the chain, and beside it a place on the way there that is not behind the wanted position.
use Rattle.std.proofs.lemmas.Result.{err_from_is_err_and}
use Rattle.std.specs.Prelude.{Some}
use mathlib.Core.Path.{sym, ap, ◌∙◌}
use mathlib.Core.List.{[]}
use native.Mathlib.Omega.{arith}
use lib.Dec.{leb, ltb}
use borrow.Author.Tests.{leb-true}
use Rattle.definitions.proofs.Replies.{both}
use Rattle.places.specs.declared.place.Place.{Place}
use Rattle.chain.proofs.Walks.{at_start, total_refused, total_whole, located_refused, located_whole}
use Rattle.chain.proofs.acceptance.locate.Goals as goal

pub loop-step-init : goal.loop-step-init
loop-step-init c =
    let begun = c.start-place.ensures in
    let at = at_start _ _ _ _ begun c.requires in
    ([], at, [], at, omega (arith, ap (λ (x : Place). x.position.0) begun))

-- a refused fragment or list is handed on
pub returns-in_err-step : goal.returns-in_err-step
returns-in_err-step c =
    let p = err_from_is_err_and c.from_residual.result c.from_residual.ensures.1 in
    rw (p.1, p.2)
    (located_refused _ _ _ _ _ _ (total_refused _ _ _ c.requires _ _ (c.in_err-step.ensures _ _ c.loop-step.invariant.1)))

pub loop-step-smaller-then-stands_in : goal.loop-step-smaller-then-stands_in
loop-step-smaller-then-stands_in c = (rw (c.in-Some.is ∙ ap Some c.in-OverFragment.is) at c.in_ok-step.ensures _ _ c.loop-step.invariant.1).nearer

-- the fragment holds the wanted position
pub loop-step-preserved-then-stands_in : goal.loop-step-preserved-then-stands_in
loop-step-preserved-then-stands_in c =
    let wanted = c.args.wanted in
    let met = rw (c.in-Some.is ∙ ap Some c.in-OverFragment.is) at c.in_ok-step.ensures _ _ c.loop-step.invariant.1 in
    let here = c.in-OverFragment.fragment.before.position in
    let holds = both (leb here.0 wanted.0) (ltb wanted.0 c.next_step.new.place.position.0) (sym c.stands_in.ensures ∙ c.if-stands_in.true) in
    (_, met.there, _, met.here, leb-true here.0 wanted.0 holds.0)

pub loop-step-smaller-else-stands_in : goal.loop-step-smaller-else-stands_in
loop-step-smaller-else-stands_in c = (rw (c.in-Some.is ∙ ap Some c.in-OverFragment.is) at c.in_ok-step.ensures _ _ c.loop-step.invariant.1).nearer

pub loop-step-preserved-else-stands_in : goal.loop-step-preserved-else-stands_in
loop-step-preserved-else-stands_in c =
    let met = rw (c.in-Some.is ∙ ap Some c.in-OverFragment.is) at c.in_ok-step.ensures _ _ c.loop-step.invariant.1 in
    (_, met.there, _, c.loop-step.invariant.3, c.loop-step.invariant.4)

-- in the next list
pub loop-step-smaller : goal.loop-step-smaller
loop-step-smaller c = (rw (c.in-Some.is ∙ ap Some c.in_default-step.is) at c.in_ok-step.ensures _ _ c.loop-step.invariant.1).nearer

pub loop-step-preserved : goal.loop-step-preserved
loop-step-preserved c =
    let entered = rw (c.in-Some.is ∙ ap Some c.in_default-step.is) at c.in_ok-step.ensures _ _ c.loop-step.invariant.1 in
    (_, entered.there, _, c.loop-step.invariant.3, c.loop-step.invariant.4)

pub returns : goal.returns
returns c =
    let met = rw c.in_default.is at c.in_ok-step.ensures _ _ c.loop-step.invariant.1 in
    located_whole _ _ _ _ _ _ _
    (total_whole _ _ _ c.requires _ _ (met.0, met.1.size)) c.loop-step.invariant.3 c.loop-step.invariant.4
