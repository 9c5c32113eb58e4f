use Rattle.tally.proofs.Exactly.{told_not_below, told_exact}
use Rattle.tally.proofs.order.is_told.Goals as goal

pub returns-then-b-a : goal.returns-then-b-a
returns-then-b-a c = λ e. told_not_below c.args.signed c.args.a c.args.b c.if-b-a.true

pub returns-else-b-a : goal.returns-else-b-a
returns-else-b-a c = λ e.
    told_exact c.args.signed c.args.a c.args.b c.if-b-a.false (c.is_exact.ensures e)
