use Rattle.definitions.specs.Unicode.{latin1}
use Rattle.text.proofs.Walk.{Wrote}
use Rattle.text.proofs.latin1.put_latin1.Given as goal

abbrev pub invariant-loop-byte : goal.invariant-loop-byte
invariant-loop-byte l = Wrote latin1 l.text l.initial.out l.out l.byte-index l.end
