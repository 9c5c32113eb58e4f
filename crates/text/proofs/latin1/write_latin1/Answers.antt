use native.Mathlib.Omega.{arith}
use Rattle.text.proofs.Result.{ascii_written, latin1_fits, latin1_small}
use Rattle.text.proofs.latin1.write_latin1.Goals as goal

pub returns-then-size-text : goal.returns-then-size-text
returns-then-size-text c =
    ascii_written _ _ _ _ c.latin1_size-size.ensures c.if-size-text.true c.write_unchanged.ensures

pub returns-then-out-size : goal.returns-then-out-size
returns-then-out-size c = latin1_small _ _ _ c.latin1_size-size.ensures (omega arith) c.if-out-size.true

pub returns : goal.returns
returns c =
    latin1_fits _ _ _ _ c.latin1_size-size.ensures c.if-out-size.false c.put_latin1.ensures
