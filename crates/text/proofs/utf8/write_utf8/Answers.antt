use mathlib.Core.Path.{sym, ◌∙◌}
use Rattle.text.proofs.Result.{utf8_written, broken_written}
use Rattle.text.proofs.utf8.write_utf8.Goals as goal

pub returns-then-is_sound : goal.returns-then-is_sound
returns-then-is_sound c =
    utf8_written _ _ _ (sym c.is_sound.ensures ∙ c.if-is_sound.true) c.write_unchanged.ensures

pub returns-else-is_sound : goal.returns-else-is_sound
returns-else-is_sound c =
    broken_written _ _ _ _ (sym c.is_sound.ensures ∙ c.if-is_sound.false) c.write_damaged_utf8.ensures
