-- The field is that of the record that was fetched, if it was.
use Rattle.std.proofs.lemmas.Result.{err_from_is_err_and}
use mathlib.Core.Path.{sym}
use native.Mathlib.Omega.{arith}
use lib.Seq.{length-take-le}
use Rattle.definitions.specs.Table.{table_value_fetched}
use Rattle.fields.specs.Meaning.{group_meant, channel_meant}
use Rattle.records.proofs.Fetches.{not_fetched, fetched_then}
use Rattle.table.proofs.Fetches.{fits}
use Rattle.table.proofs.value.fetch_value.Goals as goal

pub returns-in_err-fetch_record : goal.returns-in_err-fetch_record
unfolding table_value_fetched
returns-in_err-fetch_record c =
    let a = c.args in
    let p = err_from_is_err_and c.from_residual.result c.from_residual.ensures.1 in
    rw (p.1, p.2) (not_fetched a.record_size (group_meant a.group) (channel_meant a.channel) _ _ c.in_err-fetch_record.ensures)

pub slice_bounds-any_bounded_value-end : goal.slice_bounds-any_bounded_value-end
slice_bounds-any_bounded_value-end c =
    omega (arith, c.fetch_record.auto, fits _ _ _ _ _ c.in_ok-fetch_record.ensures)

pub slice_bounds-any_bounded_value-end-2 : goal.slice_bounds-any_bounded_value-end-2
slice_bounds-any_bounded_value-end-2 c =
    sym (length-take-le _ _ (omega (arith, c.fetch_record.auto, fits _ _ _ _ _ c.in_ok-fetch_record.ensures)))

pub returns : goal.returns
unfolding table_value_fetched
returns c =
    let a = c.args in
    fetched_then a.record_size (group_meant a.group) (channel_meant a.channel) _ c.in_ok-fetch_record.ensures c.any_bounded_value.ensures
