use Prim.Native.Nat.{◌-◌}
use lib.ListN.{length}
use Rattle.definitions.specs.Unicode.{utf16}
use Rattle.encodings.specs.Meaning.{order_meant}
use Rattle.text.proofs.Walk.{Wrote}
use Rattle.text.proofs.utf16.put_utf16.Given as goal

abbrev pub invariant-loop-at : goal.invariant-loop-at
invariant-loop-at l = Wrote (utf16 (order_meant l.big_endian)) l.text l.initial.out l.out l.at l.end

abbrev pub decreases-loop-at : goal.decreases-loop-at
decreases-loop-at l = length l.text - l.at
