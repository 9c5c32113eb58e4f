use Rattle.std.proofs.lemmas.Result.{err_from_is_err_and}
use mathlib.Core.Path.{sym, ap, ◌∙◌}
use native.Mathlib.Omega.{arith}
use Rattle.definitions.specs.Reply.{refusal}
use Rattle.blocks.proofs.Headers.{header_answered}
use Rattle.blocks.proofs.Lists.{list_unheaded, list_other, list_none, list_cut, list_linked}
use Rattle.blocks.proofs.data_list.DataListBlock.from_bytes.Goals as goal

pub id_at-requires : goal.id_at-requires
id_at-requires c = omega (arith, (header_answered _ _ (sym c.in_ok-header.ensures)).0)

-- a refused header is handed on
pub returns-in_err-header : goal.returns-in_err-header
returns-in_err-header c =
    let p = err_from_is_err_and c.from_residual.result c.from_residual.ensures.1 in
    rw (p.1, p.2) (sym (list_unheaded _ _ _ (sym c.in_err-header.ensures)))

pub returns-then-not-id_at : goal.returns-then-not-id_at
returns-then-not-id_at c = sym (list_other _ _ (sym c.in_ok-header.ensures) (sym c.id_at.ensures ∙ c.if-not-id_at.true))

pub returns-then-header-eq0 : goal.returns-then-header-eq0
returns-then-header-eq0 c =
    sym (list_none _ _ (sym c.in_ok-header.ensures) (sym c.id_at.ensures ∙ c.if-not-id_at.false) c.if-header-eq0.true)

pub returns-then-bytes-need : goal.returns-then-bytes-need
returns-then-bytes-need c =
    ap (refusal 2) c.size_with_links-need.ensures
    ∙ sym (list_cut _ _ (sym c.in_ok-header.ensures) (sym c.id_at.ensures ∙ c.if-not-id_at.false) c.if-header-eq0.false (omega arith))

pub returns : goal.returns
returns c =
    c.list_rest.ensures
    ∙ sym (list_linked _ _ (sym c.in_ok-header.ensures) (sym c.id_at.ensures ∙ c.if-not-id_at.false) c.if-header-eq0.false (omega arith))
