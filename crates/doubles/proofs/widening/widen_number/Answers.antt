-- `widening::widen_number` meets its contract: `normal_widened`.
use native.Mathlib.Omega.{arith}
use Rattle.doubles.proofs.WidenedCases.{normal_widened}
use Rattle.doubles.proofs.widening.widen_number.Goals as goal

pub returns : goal.returns
returns c = omega (arith, normal_widened c.args.magnitude c.if-magnitude-lt-LEAST_NORMAL_32.false c.requires)
