use Rattle.std.proofs.Common.{leb-true}
use Rattle.tally.proofs.Patterns.{integer_between}
use Rattle.tally.proofs.Exactly.{integer_tag}
use Rattle.tally.specs.Words.{integer_kind}
use Rattle.tally.proofs.tally.is_inner.Goals as goal

pub returns-then-tally-word : goal.returns-then-tally-word
returns-then-tally-word c = λ e.
    let a = c.args in
    let between = integer_between (integer_kind a.signed) a.tally.smallest.word a.word a.tally.largest.word (integer_tag a.signed) c.if-tally-word.true (leb-true a.word a.tally.largest.word e) in
    record { number = between.0; not_below = between.1; not_above = between.2 }
