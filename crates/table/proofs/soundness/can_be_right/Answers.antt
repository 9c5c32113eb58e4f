-- What is left of the test after the fragments from `place` on.
use mathlib.Core.Path.{sym, ap, ◌∙◌}
use Prim.Native.Nat.{◌≤◌}
use native.Mathlib.Omega.{arith}
use Rattle.definitions.specs.Table.{table_limit, count_of}
use Rattle.table.proofs.Ordered.{begin_at, begin_past, passes_up_to, too_many, passes_whole, passes_none, falls, outside, inside}
use Rattle.table.proofs.soundness.can_be_right.Goals as goal

pub returns-then-fragments-gt-TABLE_LIMIT : goal.returns-then-fragments-gt-TABLE_LIMIT
returns-then-fragments-gt-TABLE_LIMIT c = too_many c.args.file_end _ (omega (arith, c.if-fragments-gt-TABLE_LIMIT.true, c.count-fragments.ensures))

pub loop-place-init : goal.loop-place-init
loop-place-init c =
    let a = c.args in
    let w = a.table.now in
    let few : count_of w ≤ table_limit = omega (arith, c.if-fragments-gt-TABLE_LIMIT.false, c.count-fragments.ensures) in (
      omega (arith, c.count-fragments.ensures),
      few,
      c.total-end.ensures ∙ sym (begin_past w _ (omega (arith, c.count-fragments.ensures))),
      passes_whole a.file_end w few ∙ ap (passes_up_to a.file_end w) (sym c.count-fragments.ensures),
    )

pub returns-then-end-begin : goal.returns-then-end-begin
returns-then-end-begin c =
    falls c.args.file_end _ _ _ _ _ (omega (arith, c.loop-place-test.true)) c.loop-place.invariant.0 c.loop-place.invariant.2 c.position_at-begin.ensures c.if-end-begin.true
    ∙ sym c.loop-place.invariant.3

pub returns-then-not-ends_inside : goal.returns-then-not-ends_inside
returns-then-not-ends_inside c =
    outside c.args.file_end _ _ _ _ _ (omega (arith, c.loop-place-test.true)) c.loop-place.invariant.0 c.loop-place.invariant.2 c.position_at-begin.ensures _
    c.address_at-address.ensures c.if-end-begin.false _ c.ends_inside.ensures c.if-not-ends_inside.true
    ∙ sym c.loop-place.invariant.3

pub loop-place-preserved : goal.loop-place-preserved
loop-place-preserved c =
    let some = c.loop-place-test.true in (
      omega (arith, c.loop-place.invariant.0),
      c.loop-place.invariant.1,
      c.position_at-begin.ensures ∙ sym (begin_at _ _ (omega (arith, some, c.loop-place.invariant.0))),
      c.loop-place.invariant.3
          ∙ inside c.args.file_end _ _ _ _ _ (omega (arith, some)) c.loop-place.invariant.0 c.loop-place.invariant.2 c.position_at-begin.ensures _ c.address_at-address.ensures
          c.if-end-begin.false _ c.ends_inside.ensures c.if-not-ends_inside.false,
    )

pub returns : goal.returns
returns c =
    passes_none c.args.file_end _ _ _ c.loop-place-test.false c.loop-place.invariant.2 ∙ sym c.loop-place.invariant.3
