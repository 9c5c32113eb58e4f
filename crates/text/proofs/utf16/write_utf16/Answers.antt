use native.Mathlib.Omega.{arith}
use Rattle.text.proofs.Result.{found_room, out_damaged, out_fits, out_small}
use mathlib.Core.Path.{sym, ◌∙◌}
use Rattle.text.proofs.utf16.write_utf16.Goals as goal

pub returns-in_default : goal.returns-in_default
returns-in_default c =
    out_damaged _ _ _ _
    (sym c.in_default.is ∙ c.measure.ensures) c.write_damaged_utf16.ensures

pub put_utf16-requires : goal.put_utf16-requires
put_utf16-requires c =
    found_room _ _ _ (sym c.in-Some.is ∙ c.measure.ensures) c.if-out-size.false

pub returns-then-out-size : goal.returns-then-out-size
returns-then-out-size c =
    out_small _ _ _ _ (sym c.in-Some.is ∙ c.measure.ensures) (omega arith) c.if-out-size.true

pub returns : goal.returns
returns c =
    out_fits _ _ _ _ _ (sym c.in-Some.is ∙ c.measure.ensures)
    c.if-out-size.false c.put_utf16.ensures
