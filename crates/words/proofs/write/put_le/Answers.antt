-- What is left to store, put where the loop stands, gives what is promised.
use mathlib.Core.Path.{◌≡◌, ◌∙◌}
use Prim.Native.Nat.{◌-◌}
use native.Mathlib.Omega.{arith}
use Rattle.definitions.specs.Bytes.{le}
use Rattle.words.proofs.Stores.{turn_byte}
use Rattle.words.proofs.write.put_le.Goals as goal

pub loop-i-preserved : goal.loop-i-preserved
loop-i-preserved c =
    let l = c.loop-i in
    turn_byte l.out c.args.at l.i c.args.n l.w c.loop-i-test.true ∙ l.invariant

pub returns : goal.returns
unfolding le
returns c =
    let l = c.loop-i in
    let none : c.args.n - l.i ≡ 0 = omega arith in
    rw none at l.invariant
