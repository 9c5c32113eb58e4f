use mathlib.Core.Path.{refl}
use native.Mathlib.Omega.{arith}
use Rattle.text.specs.Parts.{as_is}
use Rattle.text.proofs.Result.{written_fits, written_small}
use Rattle.text.proofs.unchanged.write_unchanged.Goals as goal

pub returns-then-out-text : goal.returns-then-out-text
returns-then-out-text c =
    let a = c.args in
    written_small a.out.now (as_is a.text.now a.damaged) _ refl (omega arith) c.if-out-text.true

pub returns : goal.returns
returns c =
    let a = c.args in
    written_fits a.out.now _ (as_is a.text.now a.damaged) _ refl c.if-out-text.false c.copy.ensures
