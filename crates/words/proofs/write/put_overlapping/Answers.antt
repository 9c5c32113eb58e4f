-- The second store ends with the bytes, and lies over what the first has stored of its own.
use Rattle.words.proofs.Stores.{stored_twice}
use Rattle.words.proofs.write.put_overlapping.Goals as goal

pub returns : goal.returns
returns c =
    let a = c.args in
    let pre = c.requires in
    stored_twice a.out.now a.at a.n a.size a.x pre.1 pre.2 pre.3 c.put_le.ensures c.put_le-2.ensures
