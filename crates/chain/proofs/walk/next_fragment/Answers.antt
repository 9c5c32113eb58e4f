-- Into a list no block is met, and the step that is over a fragment is the last one here.
use Rattle.std.proofs.lemmas.Result.{err_from_is_err_and}
use Rattle.std.specs.Prelude.{Some}
use mathlib.Core.Path.{ap, ◌∙◌}
use native.Mathlib.Omega.{arith}
use Rattle.chain.proofs.walk.next_fragment.Goals as goal

pub returns-in_err-step : goal.returns-in_err-step
returns-in_err-step c =
    let p = err_from_is_err_and c.from_residual.result c.from_residual.ensures.1 in
    rw (p.1, p.2) (λ start before at. c.in_err-step.ensures _ _ (c.loop-step.invariant start before at).0)

pub returns-in-OverFragment : goal.returns-in-OverFragment
returns-in-OverFragment c = λ start before at.
    let now = c.loop-step.invariant start before at in
    let met = rw (c.in-Some.is ∙ ap Some c.in-OverFragment.is) at c.in_ok-step.ensures _ _ now.0 in
    record { here = met.here; inside = met.inside; there = met.there; behind = met.behind; nearer = omega (arith, met.nearer, now.1) }

pub loop-step-smaller : goal.loop-step-smaller
loop-step-smaller c =
    (rw (c.in-Some.is ∙ ap Some c.in_default-step.is) at c.in_ok-step.ensures _ _ (c.loop-step.invariant _ _ c.requires.2).0).nearer

pub loop-step-preserved : goal.loop-step-preserved
loop-step-preserved c = λ start before at.
    let now = c.loop-step.invariant start before at in
    let entered = rw (c.in-Some.is ∙ ap Some c.in_default-step.is) at c.in_ok-step.ensures _ _ now.0 in
    (entered.there, omega (arith, entered.nearer, now.1))

pub returns : goal.returns
returns c = λ start before at. rw c.in_default.is at c.in_ok-step.ensures _ _ (c.loop-step.invariant start before at).0
