-- `widening::widen_subnormal` meets its contract: a law of `WidenedCases` in each case.
use mathlib.Core.Path.{sym, ap, ◌∙◌}
use native.Mathlib.Omega.{arith}
use Rattle.definitions.specs.Ieee754.{widened}
use Rattle.doubles.proofs.WidenedCases.{zero_widened, subnormal_widened}
use Rattle.doubles.proofs.widening.widen_subnormal.Goals as goal

pub returns-then-magnitude-eq0 : goal.returns-then-magnitude-eq0
returns-then-magnitude-eq0 c = sym (ap widened c.if-magnitude-eq0.true ∙ zero_widened)

pub overflow_sub-result : goal.overflow_sub-result
overflow_sub-result c =
    omega (arith, c.double_of.ensures, subnormal_widened c.args.magnitude (omega arith) c.requires)

pub returns : goal.returns
returns c =
    omega (arith, c.double_of.ensures, subnormal_widened c.args.magnitude (omega arith) c.requires)
