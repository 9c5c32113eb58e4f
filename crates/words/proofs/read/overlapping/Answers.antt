-- The second load without the bytes that the first has stands above the first.
use mathlib.Core.Path.{refl}
use native.Mathlib.Omega.{arith}
use Rattle.words.proofs.Loads.{overlap}
use Rattle.words.proofs.read.overlapping.Goals as goal

pub returns : goal.returns
returns c =
    let a = c.args in
    let pre = c.requires in
    overlap a.s.now a.at a.n a.size (λ i. (c.type_inv.s i).fits) pre.3 pre.1 pre.2 (omega arith)
    c.le_bytes.ensures.0 c.le_bytes-2.ensures.0 refl
