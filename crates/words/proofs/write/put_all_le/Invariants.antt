-- The numbers that are left, put where the loop stands, give what is promised.
use mathlib.Core.Path.{◌≡◌}
use Prim.Native.Nat.{◌+◌, ◌*◌}
use lib.ListN.{drop}
use lib.Seq.{sets}
use Rattle.definitions.specs.Bytes.{les}
use Rattle.words.proofs.write.put_all_le.Given as goal

abbrev pub invariant-loop-i : goal.invariant-loop-i
invariant-loop-i l = sets l.out (l.at + l.i * 8) (les (drop l.i l.numbers)) ≡ sets l.initial.out l.at (les l.numbers)
