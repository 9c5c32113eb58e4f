use mathlib.Core.Path.{sym}
use lib.Seq.{length-take-le}
use Rattle.encodings.proofs.Stopping.{stop_within, stop_kept}
use Rattle.text.proofs.Result.{stop_written}
use Rattle.text.proofs.write.write_text.Goals as goal

pub slice_bounds-text-end : goal.slice_bounds-text-end
slice_bounds-text-end c = sym (length-take-le _ _ (stop_within _ _ _ c.text_end-end.ensures))

pub returns-in-Latin1 : goal.returns-in-Latin1
returns-in-Latin1 c =
    stop_written _ _ _ _ _ (stop_kept _ _ _ c.text_end-end.ensures) (rw c.in-Latin1.is c.write_latin1.ensures)

pub returns-in-Utf8 : goal.returns-in-Utf8
returns-in-Utf8 c =
    stop_written _ _ _ _ _ (stop_kept _ _ _ c.text_end-end.ensures) (rw c.in-Utf8.is c.write_utf8.ensures)

pub returns-in-Utf16Le : goal.returns-in-Utf16Le
returns-in-Utf16Le c =
    stop_written _ _ _ _ _ (stop_kept _ _ _ c.text_end-end.ensures) (rw c.in-Utf16Le.is c.write_utf16.ensures)

pub returns-in-Utf16Be : goal.returns-in-Utf16Be
returns-in-Utf16Be c =
    stop_written _ _ _ _ _ (stop_kept _ _ _ c.text_end-end.ensures) (rw c.in-Utf16Be.is c.write_utf16-in-Utf16Be.ensures)
