use Rattle.std.proofs.Common.{le-ltb, ◌∙◌}
use Rattle.tally.proofs.Patterns.{tag_of_integer, not_below_law}
use Rattle.tally.proofs.order.is_below.Goals as goal

pub returns-else-a-b : goal.returns-else-a-b
returns-else-a-b c =
    le-ltb c.args.a c.args.b c.if-a-b.false
    ∙ not_below_law c.args.number c.args.a c.args.b (tag_of_integer c.args.number c.in_default.not-Float) c.if-a-b.false
