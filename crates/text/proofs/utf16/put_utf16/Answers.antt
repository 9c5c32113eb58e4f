use native.Mathlib.Omega.{arith}
use Rattle.text.proofs.Walk.{wrote_room, wrote_turn, wrote_damage}
use Rattle.text.proofs.Units.{unit_turn, low_turn, low_wrote, unit_damage, units_end}
use Rattle.text.proofs.utf16.put_utf16.Goals as goal

-- a unit below the surrogates
pub put_utf8-end-requires : goal.put_utf8-end-requires
put_utf8-end-requires c =
    let t = low_turn _ c.args.text.now _ _ (λ i. omega (arith, c.type_inv.text i)) c.loop-at-test.true c.unit_at-unit.ensures c.if-unit-lt55296.true in
    (t.below, wrote_room _ _ _ _ _ _ _ _ c.loop-at.invariant t c.requires)

pub loop-at-preserved-then-unit-lt55296 : goal.loop-at-preserved-then-unit-lt55296
loop-at-preserved-then-unit-lt55296 c =
    let t = low_turn _ c.args.text.now _ _ (λ i. omega (arith, c.type_inv.text i)) c.loop-at-test.true c.unit_at-unit.ensures c.if-unit-lt55296.true in
    low_wrote _ _ _ _ _ _ _ _ _ c.loop-at.invariant t c.put_utf8-end.ensures.0 c.put_utf8-end.ensures.1

-- any other
pub put_utf8-end-requires-in-Some : goal.put_utf8-end-requires-in-Some
put_utf8-end-requires-in-Some c =
    let t = unit_turn _ _ _ _ _ _ c.loop-at-test.true c.in-Some.is c.char_at.ensures in
    (t.below, wrote_room _ _ _ _ _ _ _ _ c.loop-at.invariant t c.requires)

pub overflow_add-at-in-Some-2 : goal.overflow_add-at-in-Some-2
overflow_add-at-in-Some-2 c =
    let t = unit_turn _ _ _ _ _ _ c.loop-at-test.true c.in-Some.is c.char_at.ensures in
    omega arith

pub loop-at-preserved-in-Some : goal.loop-at-preserved-in-Some
loop-at-preserved-in-Some c =
    let p = c.put_utf8-end-in-Some.ensures in
    wrote_turn _ _ _ _ _ _ _ _ _ _ c.loop-at.invariant (unit_turn _ _ _ _ _ _ c.loop-at-test.true c.in-Some.is c.char_at.ensures) p.0 p.1

pub loop-at-preserved : goal.loop-at-preserved
loop-at-preserved c =
    wrote_damage _ _ _ _ _ _ c.loop-at.invariant (omega arith) (unit_damage _ _ _ _ c.loop-at-test.true c.in-None.is c.char_at.ensures)

pub returns : goal.returns
returns c = units_end _ _ _ _ _ _ c.loop-at.invariant c.loop-at-test.false
