-- The byte of the number that stands in the record byte, by the order.
use mathlib.Core.Path.{ap}
use Rattle.fields.specs.Form.{order_meant}
use Rattle.overlaps.proofs.Runs.{little_run, big_run}
use Rattle.overlaps.proofs.run.run_in.Goals as goal

pub returns-then-field : goal.returns-then-field
returns-then-field c =
    big_run _ _ (ap order_meant c.if-field.true) c.requires c.byte_count.ensures c.bits_of_byte.ensures

pub returns : goal.returns
returns c =
    little_run _ _ (ap order_meant c.if-field.false) c.requires c.bits_of_byte-2.ensures
