use native.Mathlib.Omega.{arith}
use Rattle.encodings.specs.Meaning.{order_meant}
use Rattle.text.proofs.FirstChar.{read_short, read_pair}
use Rattle.text.proofs.utf16.char_at.Goals as goal

pub returns-then-left-lt4 : goal.returns-then-left-lt4
returns-then-left-lt4 c =
    let s = c.args in
    read_short (order_meant s.big_endian) s.text.now s.at _ _ c.utf16_char.result c.inside.result
    (λ i. omega (arith, c.type_inv.text i)) c.if-left-lt4.true c.unit_at-unit.ensures c.utf16_char.ensures c.inside.ensures

pub returns : goal.returns
returns c =
    let s = c.args in
    read_pair (order_meant s.big_endian) s.text.now s.at _ _ c.utf16_char-2.result c.inside-2.result
    (λ i. omega (arith, c.type_inv.text i)) c.unit_at-unit.ensures c.unit_at.ensures c.utf16_char-2.ensures c.inside-2.ensures
