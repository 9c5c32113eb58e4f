-- The field has at most seven bits above the word.
use native.Mathlib.Omega.{arith}
use Rattle.bit_fields.proofs.WaysBack.{high_fits, high_byte}
use Rattle.bit_fields.proofs.replace.with_high_bits.Goals as goal

pub with_bits-requires : goal.with_bits-requires
with_bits-requires c =
    let a = c.args in
    (omega arith, omega arith, omega arith, high_fits a.offset a.count a.x (omega arith) (omega arith) c.requires.3)

pub overflow_cast-result : goal.overflow_cast-result
overflow_cast-result c =
    let a = c.args in
    record { fits = rw c.with_bits.ensures (high_byte a.byte a.offset a.count a.x c.ranges.byte.fits c.requires.0 c.requires.1 c.requires.2 c.requires.3) }
