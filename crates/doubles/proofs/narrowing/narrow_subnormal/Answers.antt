-- `narrowing::narrow_subnormal` meets its contract: laws of `Candidate`.
use native.Mathlib.Nat.{lt_of_lt_of_le}
use native.Mathlib.Omega.{arith}
use Rattle.doubles.proofs.Candidate.{only_zero, only_subnormal, few_units}
use Rattle.doubles.proofs.narrowing.narrow_subnormal.Goals as goal

pub returns-then-exponent-lt-UNIT_EXPONENT : goal.returns-then-exponent-lt-UNIT_EXPONENT
returns-then-exponent-lt-UNIT_EXPONENT c = (omega arith, only_zero c.args.magnitude c.if-exponent-lt-UNIT_EXPONENT.true)

pub overflow_cast-result-2 : goal.overflow_cast-result-2
overflow_cast-result-2 c =
    let few = few_units c.args.magnitude c.requires in
    record { fits = lt_of_lt_of_le few (omega arith) }

pub returns : goal.returns
returns c =
    let m = c.args.magnitude in
    let few = few_units m c.requires in
    (lt_of_lt_of_le few (omega arith), only_subnormal m c.if-exponent-lt-UNIT_EXPONENT.false c.requires)
