-- The loop has copied the first i bytes.
use mathlib.Core.Path.{◌≡◌, sym, ap, ◌∙◌}
use mathlib.Core.List.{List}
use Prim.Native.Nat.{ℕ, ◌+◌, ◌<◌, min}
use native.Mathlib.Omega.{arith}
use native.Mathlib.Numerals.{add-one}
use lib.ListN.{length, take, set, get_or, length-take}
use lib.Seq.{paste, paste-zero, paste-suc, get_or-take}
use Rattle.records.proofs.Laying.{overwritten_paste}
use Rattle.records.proofs.joined.copy_over.Goals as goal

pub loop-i-init : goal.loop-i-init
loop-i-init c = paste-zero c.args.out.now c.args.at c.args.bytes.now

pub loop-i-preserved : goal.loop-i-preserved
loop-i-preserved c =
    let a = c.args in
    let i = c.loop-i.i in
    let n = c.min-n.result in
    let turn : i < length (take n a.bytes.now) = c.loop-i-test.true in
    let short : length (take n a.bytes.now) ≡ min n (length a.bytes.now) = length-take n a.bytes.now in
    let inside : i < n = omega (arith, turn, short) in
    let room : a.at + i < length a.out.now = omega (arith, inside, c.min-n.ensures) in
    let more : i < length a.bytes.now = omega (arith, inside, c.min-n.ensures) in
    ap (λ (x : ℕ). set c.loop-i.out (a.at + i) x) (get_or-take n a.bytes.now i 0 inside)
    ∙ ap (λ (l : List ℕ). set l (a.at + i) (get_or a.bytes.now i 0)) c.loop-i.invariant
    ∙ paste-suc a.out.now a.at a.bytes.now i 0 room more
    ∙ ap (paste a.out.now a.at a.bytes.now) (sym (add-one i))

pub returns : goal.returns
returns c =
    let a = c.args in
    let short : length (take c.min-n.result a.bytes.now) ≡ min c.min-n.result (length a.bytes.now) = length-take c.min-n.result a.bytes.now in
    c.loop-i.invariant
    ∙ overwritten_paste a.out.now a.at a.bytes.now c.loop-i.i c.requires (omega (arith, short, c.min-n.ensures, c.loop-i.auto.i-end, c.loop-i-test.false))
