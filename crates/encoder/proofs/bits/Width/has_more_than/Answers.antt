-- Nothing is left above them.
use Prim.Native.Nat.{◌-◌}
use Rattle.encoder.proofs.Digits.{no_more}
use Rattle.encoder.proofs.bits.Width.has_more_than.Goals as goal

pub returns : goal.returns
returns c = no_more c.args.n (c.args.self.count - 1)
