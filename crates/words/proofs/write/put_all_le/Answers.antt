-- The numbers that are left, put where the loop stands, give what is promised.
use mathlib.Core.Path.{◌∙◌}
use lib.ListN.{drop_of_length-le}
use Rattle.definitions.specs.Bytes.{les}
use Rattle.words.proofs.Stores.{turn_number}
use Rattle.words.proofs.write.put_all_le.Goals as goal

pub loop-i-preserved : goal.loop-i-preserved
loop-i-preserved c =
    let l = c.loop-i in
    turn_number l.out c.args.numbers.now c.args.at l.i c.loop-i-test.true c.write_le.ensures ∙ l.invariant

pub returns : goal.returns
unfolding les
returns c =
    let l = c.loop-i in
    rw (drop_of_length-le c.args.numbers.now c.loop-i-test.false) at l.invariant
