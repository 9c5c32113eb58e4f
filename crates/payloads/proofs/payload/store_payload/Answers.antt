-- A refusal is handed on; a payload that fits is the window on it.
use Rattle.std.proofs.lemmas.Result.{err_from_is_err_and}
use mathlib.Core.Path.{sym, ◌∙◌}
use native.Mathlib.Omega.{arith}
use Rattle.payloads.proofs.Stored.{payload_refused_law, payload_at_law, lies_there, not_stored, short_of_room, stored_in_front}
use Rattle.payloads.proofs.payload.store_payload.Goals as goal

pub returns-in_err-position : goal.returns-in_err-position
returns-in_err-position c =
    let p = err_from_is_err_and c.from_residual.result c.from_residual.ensures.1 in
    rw (p.1, p.2) (not_stored c.args.buffer.now _ (payload_refused_law _ _ _ _ _ _ _ (sym c.in_err-position.ensures)))

pub returns-in_err-found : goal.returns-in_err-found
returns-in_err-found c =
    let p = err_from_is_err_and c.from_residual-in_err-found.result c.from_residual-in_err-found.ensures.1 in
    rw (p.1, p.2) (not_stored c.args.buffer.now _ (payload_at_law _ _ _ _ _ _ (sym c.in_ok-position.ensures) ∙ c.in_err-found.ensures))

pub returns-then-buffer-size : goal.returns-then-buffer-size
returns-then-buffer-size c =
    short_of_room _ _ (lies_there _ _ _ _ _ _ (sym c.in_ok-position.ensures) c.in_ok-found.ensures) (omega arith) (omega arith)

pub returns : goal.returns
returns c =
    let l = lies_there _ _ _ _ _ _ (sym c.in_ok-position.ensures) c.in_ok-found.ensures in
    stored_in_front _ _ l (omega arith) (c.window.ensures l.walked).0
