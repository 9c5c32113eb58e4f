-- The header, its identifier, its links, then the size that they need.
use mathlib.Core.Path.{sym, ap, ◌∙◌}
use native.Mathlib.Omega.{arith}
use Rattle.std.proofs.lemmas.Result.{err_from_is_err_and}
use Rattle.definitions.specs.Reply.{answer, refusal}
use Rattle.blocks.proofs.Headers.{header_answered}
use Rattle.channels.proofs.Channels.{channel_unheaded, channel_other, channel_few, channel_cut, channel_whole}
use Rattle.channels.proofs.channel_block.ChannelBlock.from_bytes.Goals as goal

-- a refused header is handed on
pub returns-in_err-header : goal.returns-in_err-header
returns-in_err-header c =
    let p = err_from_is_err_and c.from_residual.result c.from_residual.ensures.1 in
    rw (p.1, p.2) (sym (channel_unheaded _ _ _ (sym c.in_err-header.ensures)))

pub id_at-requires : goal.id_at-requires
id_at-requires c = omega (arith, (header_answered _ _ (sym c.in_ok-header.ensures)).0)

pub returns-then-not-id_at : goal.returns-then-not-id_at
returns-then-not-id_at c = sym (channel_other _ _ (sym c.in_ok-header.ensures) (sym c.id_at.ensures ∙ c.if-not-id_at.true))

pub returns-then-header-lt8 : goal.returns-then-header-lt8
returns-then-header-lt8 c =
    sym (channel_few _ _ (sym c.in_ok-header.ensures) (sym c.id_at.ensures ∙ c.if-not-id_at.false) c.if-header-lt8.true)

pub returns-then-bytes-need : goal.returns-then-bytes-need
returns-then-bytes-need c =
    ap (refusal 2) c.size_with_links-need.ensures
    ∙ sym (channel_cut _ _ (sym c.in_ok-header.ensures) (sym c.id_at.ensures ∙ c.if-not-id_at.false) c.if-header-lt8.false (omega arith))

pub returns : goal.returns
returns c =
    ap answer c.read_block.ensures
    ∙ sym (channel_whole _ _ (sym c.in_ok-header.ensures) (sym c.id_at.ensures ∙ c.if-not-id_at.false) c.if-header-lt8.false (omega arith))
