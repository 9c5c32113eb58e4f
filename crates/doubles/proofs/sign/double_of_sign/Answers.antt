-- `sign::double_of_sign` meets its contract: `integer_with_sign`.
use native.Mathlib.Omega.{arith}
use Rattle.doubles.proofs.SignBit.{integer_with_sign, sign_clear}
use Rattle.doubles.proofs.sign.double_of_sign.Goals as goal

pub with_sign-requires : goal.with_sign-requires
with_sign-requires c = omega (arith, sign_clear c.args.magnitude, c.double_of.ensures)

pub returns : goal.returns
returns c =
    let a = c.args in
    let d = c.double_of in
    integer_with_sign a.negative a.magnitude d.result c.with_sign.result d.ensures c.with_sign.ensures.0
