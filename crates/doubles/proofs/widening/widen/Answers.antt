-- `widening::widen` meets its contract: the sign and the pattern without it, or a NaN's pattern.
use mathlib.Core.Path.{sym, ap, ◌∙◌}
use native.Mathlib.Omega.{arith}
use lib.Bits.{bit_and}
use Rattle.definitions.specs.Ieee754.{widened}
use Rattle.doubles.proofs.Widened.{masked_nan, widened_clear, masked_with_sign}
use Rattle.doubles.proofs.WidenedCases.{infinity_widened}
use Rattle.doubles.proofs.widening.widen.Goals as goal

pub with_sign-requires : goal.with_sign-requires
with_sign-requires c =
    let m = bit_and c.args.bits 0x7fff_ffff in
    omega (arith, c.widen_number.ensures, widened_clear m (omega (arith, c.if-magnitude-lt-INFINITY_32.true)))

pub returns-then-magnitude-lt-INFINITY_32 : goal.returns-then-magnitude-lt-INFINITY_32
returns-then-magnitude-lt-INFINITY_32 c =
    masked_with_sign c.args.bits _ _ (omega (arith, c.if-magnitude-lt-INFINITY_32.true)) c.widen_number.ensures c.with_sign.ensures.0

pub returns-then-magnitude-eq-INFINITY_32 : goal.returns-then-magnitude-eq-INFINITY_32
returns-then-magnitude-eq-INFINITY_32 c =
    let b = c.args.bits in
    masked_with_sign b _ _ (omega (arith, c.if-magnitude-eq-INFINITY_32.true)) (sym (ap widened c.if-magnitude-eq-INFINITY_32.true ∙ infinity_widened)) c.with_sign-then-magnitude-eq-INFINITY_32.ensures.0

pub returns : goal.returns
returns c =
    masked_nan c.args.bits (omega (arith, c.if-magnitude-lt-INFINITY_32.false, c.if-magnitude-eq-INFINITY_32.false))
