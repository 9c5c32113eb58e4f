-- The numbers that are left, put where the loop stands, give what is promised.
use mathlib.Core.Path.{◌≡◌}
use Prim.Native.Nat.{◌+◌, ◌-◌, ◌*◌}
use lib.ListN.{length}
use lib.Seq.{sets}
use Rattle.definitions.specs.Bytes.{u64s_at}
use Rattle.words.proofs.read.read_all_le.Given as goal

abbrev pub invariant-loop-i : goal.invariant-loop-i
invariant-loop-i l = sets l.numbers l.i (u64s_at l.s (l.at + l.i * 8) (length l.initial.numbers - l.i)) ≡ u64s_at l.s l.at (length l.initial.numbers)
