use Rattle.text.proofs.FirstChar.{read_utf8}
use Rattle.text.proofs.utf8.char_at.Goals as goal

pub returns : goal.returns
returns c =
    let s = c.args in
    read_utf8 s.text.now s.at _ _ _ _ c.utf8_char.result c.inside.result
    c.byte_at-a.ensures c.byte_at-b.ensures c.byte_at-c.ensures c.byte_at-d.ensures c.utf8_char.ensures c.inside.ensures
