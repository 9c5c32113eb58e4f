use native.Mathlib.Omega.{arith}
use Rattle.text.proofs.Walk.{measured_size}
use Rattle.text.proofs.Bytewise.{byte_measured}
use Rattle.text.proofs.latin1.latin1_size.Goals as goal

pub loop-byte-preserved : goal.loop-byte-preserved
loop-byte-preserved c =
    byte_measured _ _ _ (λ i. omega (arith, c.type_inv.text i)) c.loop-byte.invariant c.loop-byte-test.true

pub returns : goal.returns
returns c = measured_size _ _ _ _ c.loop-byte.invariant c.loop-byte-test.false
