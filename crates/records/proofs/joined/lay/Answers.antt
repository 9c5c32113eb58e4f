use mathlib.Core.Path.{sym, ◌∙◌}
use native.Mathlib.Omega.{arith}
use Rattle.records.proofs.Laying.{laid_before, laid_after, laid_part}
use Rattle.records.proofs.joined.lay.Goals as goal

pub returns-then-data-skip : goal.returns-then-data-skip
returns-then-data-skip c = sym (laid_before _ _ _ _ (omega arith))

pub returns-then-out-gap : goal.returns-then-out-gap
returns-then-out-gap c = sym (laid_after _ _ _ _ (omega arith))

pub returns : goal.returns
returns c = c.copy_over.ensures ∙ laid_part _ _ _ _ _ _ (omega arith) (omega arith)
