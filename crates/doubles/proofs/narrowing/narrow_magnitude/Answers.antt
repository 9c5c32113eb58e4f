-- `narrowing::narrow_magnitude` meets its contract: laws of `Candidate`.
use native.Mathlib.Omega.{arith}
use Rattle.doubles.proofs.Candidate.{only_normal, only_infinity}
use Rattle.doubles.proofs.narrowing.narrow_magnitude.Goals as goal

pub returns-then-magnitude-lt-ABOVE_NORMAL : goal.returns-then-magnitude-lt-ABOVE_NORMAL
returns-then-magnitude-lt-ABOVE_NORMAL c = (omega arith, only_normal c.args.magnitude c.if-magnitude-lt-LEAST_NORMAL.false c.if-magnitude-lt-ABOVE_NORMAL.true)

pub returns : goal.returns
returns c = (omega arith, only_infinity c.args.magnitude c.if-magnitude-lt-ABOVE_NORMAL.false)
