use native.Mathlib.Omega.{arith}
use Rattle.blocks.proofs.Lists.{rest_one, rest_many}
use borrow.Author.Rules.{rules}
use Rattle.blocks.proofs.data_list.rest_count.Goals as goal

pub returns-then-flags-eq1 : goal.returns-then-flags-eq1
returns-then-flags-eq1 c = (rest_one _ _ c.if-flags-eq1.true, omega arith)

pub returns-else-flags-eq1 : goal.returns-else-flags-eq1
returns-else-flags-eq1 c = (rest_many _ _ c.if-flags-eq1.false, search rules)
