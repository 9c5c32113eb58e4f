use mathlib.Core.Path.{sym, ◌∙◌}
use Prim.Native.Nat.{◌+◌, ◌*◌}
use native.Mathlib.Omega.{arith}
use lib.ListN.{length}
use lib.Seq.{length-take-le}
use borrow.Author.Tests.{ltb-false}
use Rattle.records.proofs.Records.{size_good}
use Rattle.table.proofs.Ordered.{with_file}
use Rattle.table.proofs.Fetches.{table_behind, table_within, table_record}
use Rattle.table.proofs.fetch.fetch_record.Goals as goal

pub ends_behind-requires : goal.ends_behind-requires
ends_behind-requires c = (size_good c.args.record_size (length c.args.buffer.now) (sym c.bad_size.ensures ∙ c.if-bad_size.false)).0

pub returns-then-ends_behind : goal.returns-then-ends_behind
returns-then-ends_behind c =
    table_behind _ _ _ _ _ (sym c.bad_size.ensures ∙ c.if-bad_size.false) c.if-file-gt-FILE_LIMIT.false (sym (c.can_be_right.ensures ∙ with_file _ _) ∙ c.if-not-can_be_right.false) _ c.total-end.ensures (sym c.ends_behind.ensures ∙ c.if-ends_behind.true)

pub overflow_mul-from : goal.overflow_mul-from
overflow_mul-from c =
    let a = c.args in
    omega (arith, ltb-false c.total-end.result.0 (a.number * a.record_size + a.record_size) (sym c.ends_behind.ensures ∙ c.if-ends_behind.false))

pub slice_bounds-window-end : goal.slice_bounds-window-end
slice_bounds-window-end c = (size_good c.args.record_size (length c.args.buffer.now) (sym c.bad_size.ensures ∙ c.if-bad_size.false)).1

pub slice_bounds-window-end-2 : goal.slice_bounds-window-end-2
slice_bounds-window-end-2 c = sym (length-take-le _ _ (size_good c.args.record_size (length c.args.buffer.now) (sym c.bad_size.ensures ∙ c.if-bad_size.false)).1)

pub window-requires : goal.window-requires
window-requires c =
    let a = c.args in
    let believed = sym (c.can_be_right.ensures ∙ with_file _ _) ∙ c.if-not-can_be_right.false in
    let within = table_within a.file.now a.table.now a.number a.record_size a.buffer.now (sym c.bad_size.ensures ∙ c.if-bad_size.false) c.if-file-gt-FILE_LIMIT.false believed _ c.total-end.ensures (sym c.ends_behind.ensures ∙ c.if-ends_behind.false) in
    (believed, within.0, within.1)

pub returns : goal.returns
returns c =
    table_record _ _ _ _ _ (sym c.bad_size.ensures ∙ c.if-bad_size.false) c.if-file-gt-FILE_LIMIT.false (sym (c.can_be_right.ensures ∙ with_file _ _) ∙ c.if-not-can_be_right.false) _ c.total-end.ensures (sym c.ends_behind.ensures ∙ c.if-ends_behind.false) _ c.window.ensures
