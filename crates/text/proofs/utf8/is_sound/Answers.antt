use native.Mathlib.Omega.{arith}
use Rattle.text.proofs.Walk.{turn, damage_here, checked_turn, checked_sound, checked_damage}
use Rattle.text.proofs.Bytewise.{ascii_checked}
use Rattle.text.proofs.utf8.is_sound.Goals as goal

pub loop-at-preserved-then-text-at-lt128 : goal.loop-at-preserved-then-text-at-lt128
loop-at-preserved-then-text-at-lt128 c =
    ascii_checked _ _ c.loop-at.invariant c.loop-at-test.true c.if-text-at-lt128.true

pub returns-in_default : goal.returns-in_default
returns-in_default c =
    checked_damage _ _ _ c.loop-at.invariant (damage_here _ _ _ _ c.loop-at-test.true c.in_default.is c.char_at.ensures)

pub overflow_add-at-else-text-at-lt128-2 : goal.overflow_add-at-else-text-at-lt128-2
overflow_add-at-else-text-at-lt128-2 c =
    let t = turn _ _ _ _ _ _ c.loop-at-test.true c.in-Some.is c.char_at.ensures in
    omega arith

pub loop-at-preserved : goal.loop-at-preserved
loop-at-preserved c =
    checked_turn _ _ _ _ _ c.loop-at.invariant (turn _ _ _ _ _ _ c.loop-at-test.true c.in-Some.is c.char_at.ensures)

pub returns : goal.returns
returns c = checked_sound _ _ _ c.loop-at.invariant c.loop-at-test.false
