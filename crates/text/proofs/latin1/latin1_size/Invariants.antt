use Rattle.definitions.specs.Unicode.{latin1}
use Rattle.text.proofs.Walk.{Measured}
use Rattle.text.proofs.latin1.latin1_size.Given as goal

abbrev pub invariant-loop-byte : goal.invariant-loop-byte
invariant-loop-byte l = Measured latin1 l.text l.byte-index l.size
