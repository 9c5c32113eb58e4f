-- On whichever accepted chain the walk began, the loop is on its way there, and the tally is that of the records in the blocks
-- so far, but for the bytes that wait in the buffer.
use mathlib.Core.Path.{◌≡◌}
use Prim.Native.Nat.{◌<◌}
use lib.ListN.{length}
use Rattle.definitions.specs.Chain.{id_dt, joined}
use Rattle.chain.specs.Walk.{Walked, turns_left}
use Rattle.tally.specs.Tallies.{Sane}
use Rattle.report.specs.Visits.{Held, visited}
use Rattle.report.proofs.walk.tally_records.Given as goal

abbrev pub invariant-loop-step : goal.invariant-loop-step
invariant-loop-step l =
    (length l.buffer ≡ length l.initial.buffer)
    × Sane l.tally
    × (l.fill < l.layout.size)
    × ((w : Walked id_dt l.file l.initial.place) → (v : Walked id_dt l.file l.place) × (v.blocks ≡ w.blocks) × Held (visited l.layout.slot) l.layout.size l.initial.tally (joined l.file v.before) l.buffer l.tally l.fill)

abbrev pub decreases-loop-step : goal.decreases-loop-step
decreases-loop-step l = turns_left l.place
