use mathlib.Core.Path.{refl}
use native.Mathlib.Omega.{arith}
use Rattle.encodings.specs.Meaning.{order_meant}
use Rattle.text.proofs.Walk.{measured_turn, measured_sound, measured_damage}
use Rattle.text.proofs.Units.{unit_turn, low_turn, low_measured, unit_damage, half_left}
use Rattle.text.proofs.utf16.measure.Goals as goal

-- a unit below the surrogates
pub overflow_add-size : goal.overflow_add-size
overflow_add-size c =
    let a = c.args in
    let t = low_turn (order_meant a.big_endian) a.text.now _ _ (λ i. omega (arith, c.type_inv.text i)) c.loop-at-test.true c.unit_at-unit.ensures c.if-unit-lt55296.true in
    omega (arith, c.utf8_width-size.ensures)

pub loop-at-preserved-then-unit-lt55296 : goal.loop-at-preserved-then-unit-lt55296
loop-at-preserved-then-unit-lt55296 c =
    let a = c.args in
    let t = low_turn (order_meant a.big_endian) a.text.now _ _ (λ i. omega (arith, c.type_inv.text i)) c.loop-at-test.true c.unit_at-unit.ensures c.if-unit-lt55296.true in
    low_measured _ _ _ _ _ _ c.loop-at.invariant t c.utf8_width-size.ensures

-- any other
pub returns-in_err-scalar : goal.returns-in_err-scalar
returns-in_err-scalar c =
    rw c.from_residual.ensures (measured_damage _ _ _ _ c.loop-at.invariant (unit_damage _ _ _ _ c.loop-at-test.true refl c.in_err-scalar.ensures))

pub overflow_add-size-else-unit-lt55296 : goal.overflow_add-size-else-unit-lt55296
overflow_add-size-else-unit-lt55296 c =
    let t = unit_turn _ _ _ _ _ _ c.loop-at-test.true refl c.in_ok-scalar.ensures in
    omega (arith, c.utf8_width-size-else-unit-lt55296.ensures)

pub overflow_add-at-else-unit-lt55296-2 : goal.overflow_add-at-else-unit-lt55296-2
overflow_add-at-else-unit-lt55296-2 c =
    let t = unit_turn _ _ _ _ _ _ c.loop-at-test.true refl c.in_ok-scalar.ensures in
    omega arith

pub loop-at-preserved : goal.loop-at-preserved
loop-at-preserved c =
    measured_turn _ _ _ _ _ _ _ c.loop-at.invariant (unit_turn _ _ _ _ _ _ c.loop-at-test.true refl c.in_ok-scalar.ensures) c.utf8_width-size-else-unit-lt55296.ensures

pub returns-then-at-text : goal.returns-then-at-text
returns-then-at-text c = measured_damage _ _ _ _ c.loop-at.invariant (half_left _ _ _ c.loop-at-test.false c.if-at-text.true)

pub returns : goal.returns
returns c = measured_sound _ _ _ _ c.loop-at.invariant c.if-at-text.false
