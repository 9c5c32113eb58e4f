-- Up to 53 bits an integer is a double as it is.
use Rattle.decoder.proofs.ExactIntegers.{unsigned_exact}
use Rattle.decoder.proofs.integer.unsigned_double.Goals as goal

pub exact_double-requires : goal.exact_double-requires
exact_double-requires c = unsigned_exact _ _ c.if-bit_count-le53.true c.requires.below
