use Prim.Native.Nat.{◌-◌}
use lib.ListN.{length}
use Rattle.definitions.specs.Unicode.{utf16}
use Rattle.encodings.specs.Meaning.{order_meant}
use Rattle.text.proofs.Walk.{Measured}
use Rattle.text.proofs.utf16.measure.Given as goal

abbrev pub invariant-loop-at : goal.invariant-loop-at
invariant-loop-at l = Measured (utf16 (order_meant l.big_endian)) l.text l.at l.size

abbrev pub decreases-loop-at : goal.decreases-loop-at
decreases-loop-at l = length l.text - l.at
