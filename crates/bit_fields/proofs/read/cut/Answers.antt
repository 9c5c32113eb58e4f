-- A shift up and down again leaves the count low bits.
use Prim.Native.Nat.{◌/◌, ◌^◌}
use Rattle.words.proofs.Shifts.{keep}
use Rattle.bit_fields.proofs.read.cut.Goals as goal

pub returns : goal.returns
returns c = keep (c.args.word / 2 ^ c.args.offset) c.args.count c.requires.2
