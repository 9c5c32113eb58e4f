use native.Mathlib.Omega.{arith}
use Rattle.text.proofs.Walk.{wrote_room, wrote_end}
use Rattle.text.proofs.Bytewise.{byte_turn, byte_wrote}
use Rattle.text.proofs.latin1.put_latin1.Goals as goal

pub put_utf8-end-requires : goal.put_utf8-end-requires
put_utf8-end-requires c =
    let t = byte_turn c.args.text.now _ (λ i. omega (arith, c.type_inv.text i)) c.loop-byte-test.true in
    (t.below, wrote_room _ _ _ _ _ _ _ _ c.loop-byte.invariant t c.requires)

pub loop-byte-preserved : goal.loop-byte-preserved
loop-byte-preserved c =
    byte_wrote _ _ _ _ _ _ _ (λ i. omega (arith, c.type_inv.text i)) c.loop-byte.invariant c.loop-byte-test.true c.put_utf8-end.ensures.0 c.put_utf8-end.ensures.1

pub returns : goal.returns
returns c = wrote_end _ _ _ _ _ _ c.loop-byte.invariant c.loop-byte-test.false
