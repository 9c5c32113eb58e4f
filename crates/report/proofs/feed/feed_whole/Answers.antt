-- The whole records lie in the part, and what is left of it in front of the buffer.
use mathlib.Core.Path.{refl}
use Prim.Native.Nat.{◌/◌}
use native.Mathlib.Omega.{arith}
use lib.ListN.{length}
use Rattle.report.specs.Visits.{visited}
use Rattle.report.proofs.Seen.{whole_fed, rest_is}
use Rattle.report.proofs.feed.feed_whole.Goals as goal

pub returns : goal.returns
returns c =
    let a = c.args in (
      whole_fed (visited a.layout.slot) a.layout.size a.before _ a.part.now a.buffer.now _ _ (length a.part.now / a.layout.size) _ (omega (arith, c.args.layout.within.flag)) c.requires.2
          refl refl c.run-tally.ensures.0 (rest_is a.part.now _) c.copy_over.ensures,
      c.run-tally.ensures.1,
    )
