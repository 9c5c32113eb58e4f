use native.Mathlib.Omega.{arith}
use Rattle.text.proofs.Widths.{utf8_1, width_1, width_2, width_3, width_4}
use Rattle.text.proofs.encode.put_utf8.Goals as goal

pub bounds-out-at : goal.bounds-out-at
bounds-out-at c = omega (arith, width_1 _ c.if-value-lt128.true)

pub put_two-requires : goal.put_two-requires
put_two-requires c = omega (arith, width_2 _ c.if-value-lt128.false c.if-value-lt2048.true)

pub put_three-requires : goal.put_three-requires
put_three-requires c = omega (arith, width_3 _ c.if-value-lt2048.false c.if-value-lt65536.true)

pub put_four-requires : goal.put_four-requires
put_four-requires c = omega (arith, width_4 _ c.if-value-lt65536.false)

pub returns-then-value-lt128 : goal.returns-then-value-lt128
returns-then-value-lt128 c = (omega (arith, width_1 _ c.if-value-lt128.true), rw (utf8_1 _ c.if-value-lt128.true))

pub returns-then-value-lt2048 : goal.returns-then-value-lt2048
returns-then-value-lt2048 c =
    (omega (arith, width_2 _ c.if-value-lt128.false c.if-value-lt2048.true), c.put_two.ensures)

pub returns-then-value-lt65536 : goal.returns-then-value-lt65536
returns-then-value-lt65536 c =
    (omega (arith, width_3 _ c.if-value-lt2048.false c.if-value-lt65536.true), c.put_three.ensures)

pub returns-else-value-lt65536 : goal.returns-else-value-lt65536
returns-else-value-lt65536 c =
    (omega (arith, width_4 _ c.if-value-lt65536.false), c.put_four.ensures)
