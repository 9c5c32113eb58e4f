-- A payload that is stored fits, and its value is read there.
use mathlib.Core.Path.{sym}
use native.Mathlib.Omega.{arith}
use lib.Seq.{length-take-le}
use Rattle.records.proofs.Fetches.{fits, short}
use Rattle.payloads.proofs.value.read_payload.Goals as goal

pub slice_bounds-fetched-end : goal.slice_bounds-fetched-end
slice_bounds-fetched-end c = omega (arith, c.read_record.auto, fits _ _ _ _ _ c.in_ok-read_record.ensures)

pub slice_bounds-fetched-end-2 : goal.slice_bounds-fetched-end-2
slice_bounds-fetched-end-2 c = sym (length-take-le _ _ (omega (arith, c.read_record.auto, fits _ _ _ _ _ c.in_ok-read_record.ensures)))

-- the file was not too long for the record
pub store_payload-requires : goal.store_payload-requires
store_payload-requires c = short _ _ _ _ _ c.in_ok-read_record.ensures
