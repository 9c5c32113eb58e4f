-- The bytes where both fields are, in turn: no bit that both have stands before the one at hand.
use Rattle.overlaps.specs.Meaning.{field_meant}
use Rattle.overlaps.proofs.Pairs.{Upto}
use Rattle.overlaps.proofs.pair.fields_share_a_bit.Given as goal

abbrev pub invariant-loop-byte : goal.invariant-loop-byte
invariant-loop-byte l = Upto (field_meant l.x) (field_meant l.y) l.byte
