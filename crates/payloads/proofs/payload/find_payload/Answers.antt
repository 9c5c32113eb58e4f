-- The chain is accepted with a place before the position; then the length, and the payload behind it, end in the data or not.
use Rattle.std.proofs.lemmas.Result.{err_from_is_err_and}
use mathlib.Core.Path.{sym, ap, ◌∙◌}
use Rattle.places.specs.declared.place.DataPosition.{DataPosition}
use Rattle.payloads.proofs.Found.{chain_refused_law, on_the_way, ahead, found_no_length, found_cut, found_whole}
use Rattle.payloads.proofs.payload.find_payload.Goals as goal

pub returns-in_err-located : goal.returns-in_err-located
returns-in_err-located c =
    let p = err_from_is_err_and c.from_residual.result c.from_residual.ensures.1 in
    rw (p.1, p.2) (chain_refused_law _ _ c.requires _ _ c.in_err-located.ensures)

pub returns-then-not-is_behind : goal.returns-then-not-is_behind
returns-then-not-is_behind c =
    found_no_length _ _ c.requires _ c.in_ok-located.ensures (sym c.is_behind.ensures ∙ c.if-not-is_behind.true)

pub length_at-read-requires : goal.length_at-read-requires
length_at-read-requires c =
    (on_the_way _ _ c.requires _ c.in_ok-located.ensures, ahead _ _ c.requires _ c.in_ok-located.ensures)

pub returns-then-not-is_behind-2 : goal.returns-then-not-is_behind-2
returns-then-not-is_behind-2 c =
    found_cut _ _ c.requires _ c.in_ok-located.ensures (sym c.is_behind.ensures ∙ c.if-not-is_behind.false)
    (ap (λ (q : DataPosition). q.0) c.further-first.ensures) c.length_at-read.ensures
    (sym c.is_behind-2.ensures ∙ c.if-not-is_behind-2.true)

pub returns : goal.returns
returns c =
    found_whole _ _ c.requires _ c.in_ok-located.ensures (sym c.is_behind.ensures ∙ c.if-not-is_behind.false)
    (ap (λ (q : DataPosition). q.0) c.further-first.ensures) c.length_at-read.ensures
    (sym c.is_behind-2.ensures ∙ c.if-not-is_behind-2.false)
