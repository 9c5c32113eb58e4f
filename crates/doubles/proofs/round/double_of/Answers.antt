-- `round::double_of` meets its contract: `double_aligned`.
use mathlib.Core.Path.{sym, ap, ◌∙◌}
use Prim.Native.Nat.{ℕ}
use lib.IntN.{pos}
use Rattle.definitions.specs.Ieee754.{double_of}
use Rattle.doubles.proofs.Whole.{of_zero}
use Rattle.doubles.proofs.Aligned.{significand_ge, double_aligned}
use Rattle.doubles.proofs.round.double_of.Goals as goal

pub returns-then-n-eq0 : goal.returns-then-n-eq0
returns-then-n-eq0 c = sym (ap (λ (n : ℕ). double_of (pos n)) c.if-n-eq0.true ∙ of_zero)

pub overflow_sub-result : goal.overflow_sub-result
overflow_sub-result c =
    let h = c.highest_set_bit-highest in
    let e = h.ensures in
    significand_ge c.args.n h.result e.0 e.1 e.2 c.rounded-significand.result c.rounded-significand.ensures

pub returns : goal.returns
returns c =
    let h = c.highest_set_bit-highest in
    let e = h.ensures in
    double_aligned c.args.n h.result e.0 e.1 e.2 c.rounded-significand.result c.rounded-significand.ensures c.ranges.n.fits
