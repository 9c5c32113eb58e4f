-- No bit tells, or the one at its position does.
use native.Mathlib.Omega.{arith}
use Rattle.slots.proofs.Flags.{always, by_place, place_fits}
use Rattle.slots.proofs.slot.find_flag.Goals as goal

pub returns-then-cut-eq0 : goal.returns-then-cut-eq0
returns-then-cut-eq0 c = always _ _ c.requires c.cut.ensures c.if-cut-eq0.true

pub overflow_add-result : goal.overflow_add-result
overflow_add-result c =
    omega (arith, place_fits _ _ c.requires c.cut.ensures c.if-cut-eq0.false)

pub returns : goal.returns
returns c =
    by_place _ _ c.requires c.cut.ensures c.if-cut-eq0.false
