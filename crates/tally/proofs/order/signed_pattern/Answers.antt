use Rattle.tally.proofs.Patterns.{negative_pattern}
use Rattle.tally.proofs.order.signed_pattern.Goals as goal

pub returns-then-word-lt-SIGNED_ZERO : goal.returns-then-word-lt-SIGNED_ZERO
returns-then-word-lt-SIGNED_ZERO c = negative_pattern c.args.word c.double_of_sign.result c.if-word-lt-SIGNED_ZERO.true c.double_of_sign.ensures
