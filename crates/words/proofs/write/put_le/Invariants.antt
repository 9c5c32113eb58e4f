-- What is left to store, put where the loop stands, gives what is promised.
use mathlib.Core.Path.{◌≡◌}
use Prim.Native.Nat.{◌+◌, ◌-◌}
use lib.Seq.{sets}
use Rattle.definitions.specs.Bytes.{le}
use Rattle.words.proofs.write.put_le.Given as goal

abbrev pub invariant-loop-i : goal.invariant-loop-i
invariant-loop-i l = sets l.out (l.at + l.i) (le (l.n - l.i) l.w) ≡ sets l.initial.out l.at (le l.n l.x)
