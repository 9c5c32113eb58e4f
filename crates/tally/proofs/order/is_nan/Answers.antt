use Rattle.tally.proofs.Patterns.{tag_of_integer, integer_no_nan}
use Rattle.tally.proofs.order.is_nan.Goals as goal

pub returns-in_default : goal.returns-in_default
returns-in_default c = integer_no_nan c.args.number c.args.word (tag_of_integer c.args.number c.in_default.not-Float)
