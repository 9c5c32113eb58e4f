use Rattle.std.proofs.Common.{sym}
use Rattle.tally.proofs.Patterns.{integer_no_nan}
use Rattle.tally.proofs.Exactly.{integer_tag}
use Rattle.tally.specs.Words.{integer_kind}
use Rattle.tally.proofs.tally.is_clear.Goals as goal

pub returns-then-is_told : goal.returns-then-is_told
returns-then-is_told c = λ e.
    let a = c.args in
    record {
      number = sym (integer_no_nan (integer_kind a.signed) a.word (integer_tag a.signed));
      below = c.is_told.ensures c.if-is_told.true;
      above = c.is_told-then-is_told.ensures e;
    }
