-- The numbers that are left, put where the loop stands, give what is promised.
use mathlib.Core.Path.{◌≡◌, ◌∙◌}
use Prim.Native.Nat.{◌-◌}
use native.Mathlib.Omega.{arith}
use lib.ListN.{length}
use Rattle.definitions.specs.Bytes.{u64s_at}
use Rattle.words.proofs.Stores.{none_read, turn_read}
use Rattle.words.proofs.read.read_all_le.Goals as goal

pub loop-i-init : goal.loop-i-init
loop-i-init c = none_read _ c.args.numbers.now _

pub loop-i-preserved : goal.loop-i-preserved
loop-i-preserved c =
    let l = c.loop-i in
    let a = c.args in
    turn_read a.s.now l.numbers a.at l.i (length a.numbers.now) c.read_le.result c.loop-i-test.true c.read_le.ensures ∙ l.invariant

pub returns : goal.returns
unfolding u64s_at
returns c =
    let l = c.loop-i in
    let none : length c.args.numbers.now - l.i ≡ 0 = omega arith in
    rw none at l.invariant
