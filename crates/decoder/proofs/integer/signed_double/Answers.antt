-- Up to 53 bits an integer is a double as it is.
use Rattle.decoder.proofs.ExactIntegers.{signed_exact}
use Rattle.decoder.proofs.integer.signed_double.Goals as goal

pub exact_double-requires : goal.exact_double-requires
exact_double-requires c =
    let fit = c.requires in
    signed_exact _ _ c.signed_of-n.ensures (record { sfits = c.signed_of-n.type_inv }) fit.some c.if-bit_count-le53.true fit.below
