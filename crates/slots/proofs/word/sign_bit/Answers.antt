-- A one that is shifted up.
use Rattle.slots.proofs.Signs.{sign_bit_law}
use Rattle.slots.proofs.word.sign_bit.Goals as goal

pub returns : goal.returns
returns c = sign_bit_law _ c.requires.0 c.requires.1
