use native.Mathlib.Omega.{arith}
use Rattle.table.proofs.Searches.{paired}
use Rattle.table.proofs.layout.places.Goals as goal

pub returns : goal.returns
returns c = paired c.args.table.now _ (omega arith) c.as_chunks.ensures.front c.as_chunks.ensures.front_len
