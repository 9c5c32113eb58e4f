-- `value::value_of` meets its contract: above an infinity's pattern stand the NaNs'.
use mathlib.Core.Path.{sym, ◌∙◌}
use lib.Bits.{and_mask}
use lib.Ieee.{binary64}
use Rattle.doubles.proofs.Nan.{zero_by_zero, nan_above, no_nan_below}
use Rattle.doubles.proofs.value.value_of.Goals as goal

pub returns-then-bits-gt-INFINITY : goal.returns-then-bits-gt-INFINITY
returns-then-bits-gt-INFINITY c = let b = c.args.bits in zero_by_zero ∙ sym (nan_above binary64 b (rw (and_mask b 63) at c.if-bits-gt-INFINITY.true))

pub float_from_bits-result : goal.float_from_bits-result
float_from_bits-result c = let b = c.args.bits in no_nan_below binary64 b (rw (and_mask b 63) at c.if-bits-gt-INFINITY.false)
