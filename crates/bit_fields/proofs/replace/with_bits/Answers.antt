-- The field is there to be taken off, and the word with x in it fits.
use Rattle.bit_fields.proofs.Replaced.{machine}
use Rattle.bit_fields.proofs.replace.with_bits.Goals as goal

pub overflow_add-result : goal.overflow_add-result
overflow_add-result c =
    let a = c.args in
    let m = machine a.word a.offset a.count a.x c.requires.3 c.cut.ensures c.requires.2 c.ranges.word.fits in
    record { fits = rw m.1 m.2 }

pub returns : goal.returns
returns c =
    let a = c.args in
    (machine a.word a.offset a.count a.x c.requires.3 c.cut.ensures c.requires.2 c.ranges.word.fits).1
