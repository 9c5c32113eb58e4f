-- The loop goes up: w is the number of the bytes before i.
use mathlib.Core.Path.{◌≡◌, refl}
use native.Mathlib.Omega.{arith}
use Rattle.definitions.specs.Bytes.{little, le_of}
use Rattle.words.proofs.Spans.{bounded, turn}
use Rattle.words.proofs.read.le_bytes.Goals as goal

pub loop-i-init : goal.loop-i-init
unfolding le_of
loop-i-init c = refl

pub with_byte_above-w-requires : goal.with_byte_above-w-requires
with_byte_above-w-requires c =
    let a = c.args in
    (omega arith, (bounded little a.s.now a.at c.loop-i.i (λ j. (c.type_inv.s j).fits) (omega arith) c.loop-i.invariant).1)

pub loop-i-preserved : goal.loop-i-preserved
loop-i-preserved c =
    let a = c.args in
    turn little a.s.now a.at c.loop-i.i (omega arith) c.loop-i.invariant c.with_byte_above-w.ensures

pub returns : goal.returns
returns c =
    let a = c.args in
    let e : c.loop-i.i ≡ a.n = omega arith in
    bounded little a.s.now a.at a.n (λ j. (c.type_inv.s j).fits) (omega arith) (rw e at c.loop-i.invariant)
