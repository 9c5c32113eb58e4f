use Rattle.std.proofs.lemmas.Result.{err_from_is_err_and}
use mathlib.Core.Path.{◌≡◌, refl, sym, ◌∙◌}
use Prim.Native.Nat.{◌+◌, ◌*◌, ◌≤◌}
use lib.ListN.{length}
use lib.Seq.{length-take-le}
use native.Mathlib.Omega.{arith}
use borrow.Author.Tests.{ltb-false}
use Rattle.definitions.specs.Reply.{answer}
use Rattle.definitions.specs.Chain.{id_dt, data_length}
use Rattle.chain.specs.Walk.{Walked}
use Rattle.records.proofs.Records.{size_good, data_whole, fetch_bad, fetch_refused, fetch_behind, fetch_record}
use Rattle.records.proofs.record.read_record.Goals as goal

pub returns-then-bad_size : goal.returns-then-bad_size
returns-then-bad_size c = fetch_bad _ _ _ _ _ (sym c.bad_size.ensures ∙ c.if-bad_size.true)

-- a refused chain is handed on
pub returns-in_err-located : goal.returns-in_err-located
unfolding data_length
returns-in_err-located c =
    let p = err_from_is_err_and c.from_residual.result c.from_residual.ensures.1 in
    rw (p.1, p.2) (fetch_refused _ _ _ _ _ (sym c.bad_size.ensures ∙ c.if-bad_size.false) _ _ (sym c.in_err-located.ensures.replied))

pub ends_behind-requires : goal.ends_behind-requires
ends_behind-requires c = (size_good c.args.record_size (length c.args.buffer.now) (sym c.bad_size.ensures ∙ c.if-bad_size.false)).0

pub returns-then-ends_behind : goal.returns-then-ends_behind
unfolding data_length
returns-then-ends_behind c =
    let total : data_length c.args.file.now c.args.start.0 ≡ answer c.in_ok-located.located.total.0 = sym c.in_ok-located.ensures.replied in
    fetch_behind _ _ _ _ _ (sym c.bad_size.ensures ∙ c.if-bad_size.false) _ total (sym c.ends_behind.ensures ∙ c.if-ends_behind.true)

pub slice_bounds-window-end : goal.slice_bounds-window-end
slice_bounds-window-end c = (size_good c.args.record_size (length c.args.buffer.now) (sym c.bad_size.ensures ∙ c.if-bad_size.false)).1

pub slice_bounds-window-end-2 : goal.slice_bounds-window-end-2
slice_bounds-window-end-2 c = sym (length-take-le _ _ (size_good c.args.record_size (length c.args.buffer.now) (sym c.bad_size.ensures ∙ c.if-bad_size.false)).1)

-- the place that was kept is on the way along the chain
pub window-requires : goal.window-requires
unfolding data_length
window-requires c =
    let total : data_length c.args.file.now c.args.start.0 ≡ answer c.in_ok-located.located.total.0 = sym c.in_ok-located.ensures.replied in
    let kept = c.in_ok-located.ensures.place _ refl in
    let blocks = data_whole c.args.file.now c.args.start.0 _ total in
    let walked : Walked id_dt c.args.file.now c.in_ok-located.located.place = record { start = c.args.start.0; before = kept.0; blocks = blocks.1; at = kept.1; whole = blocks.2 } in
    (walked, kept.2)

pub returns : goal.returns
unfolding data_length
returns c =
    let a = c.args in
    let total : data_length c.args.file.now c.args.start.0 ≡ answer c.in_ok-located.located.total.0 = sym c.in_ok-located.ensures.replied in
    let kept = c.in_ok-located.ensures.place _ refl in
    let blocks = data_whole c.args.file.now c.args.start.0 _ total in
    let walked : Walked id_dt c.args.file.now c.in_ok-located.located.place = record { start = c.args.start.0; before = kept.0; blocks = blocks.1; at = kept.1; whole = blocks.2 } in
    let inside = sym c.ends_behind.ensures ∙ c.if-ends_behind.false in
    let fits : a.number * a.record_size ≤ 18446744073709551615 = omega (arith, ltb-false c.in_ok-located.located.total.0 (a.number * a.record_size + a.record_size) inside) in
    fetch_record _ _ _ _ _ (sym c.bad_size.ensures ∙ c.if-bad_size.false) _ total _ _ inside (c.first_byte-from.ensures fits) (c.window.ensures walked).0
