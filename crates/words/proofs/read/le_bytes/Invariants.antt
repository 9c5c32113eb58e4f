-- The loop goes up: w is the number of the bytes before i.
use mathlib.Core.Path.{◌≡◌}
use Rattle.definitions.specs.Bytes.{little, number_of, span}
use Rattle.words.proofs.read.le_bytes.Given as goal

abbrev pub invariant-loop-i : goal.invariant-loop-i
invariant-loop-i l = l.w ≡ number_of little (span l.s l.at l.i)
