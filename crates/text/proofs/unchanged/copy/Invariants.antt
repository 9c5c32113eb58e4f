use mathlib.Core.Path.{◌≡◌}
use lib.ListN.{length, drop}
use lib.Seq.{sets}
use Rattle.text.proofs.unchanged.copy.Given as goal

abbrev pub invariant-loop-at : goal.invariant-loop-at
invariant-loop-at l = record {
  room : length l.out ≡ length l.initial.out;
  copied : sets l.out l.at (drop l.at l.from) ≡ sets l.initial.out 0 l.from;
}
