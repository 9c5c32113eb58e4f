-- What waits and the part behind it are read as one.
use native.Mathlib.Omega.{arith}
use Rattle.report.specs.Visits.{visited}
use Rattle.report.proofs.Seen.{seen_one, more_fed, cut_fed, rest_is}
use Rattle.report.proofs.Visiting.{fewer_left}
use Rattle.report.proofs.feed.feed.Goals as goal

pub returns-then-part-missing : goal.returns-then-part-missing
returns-then-part-missing c =
    let a = c.args in
    (more_fed (visited a.layout.slot) a.layout.size a.before a.buffer.now _ a.part.now a.fill c.requires.2 c.requires.3 c.if-part-missing.true c.copy_over.ensures, c.requires.0)

pub feed_whole-requires-2 : goal.feed_whole-requires-2
feed_whole-requires-2 c =
    let a = c.args in
    (c.run-tally.ensures.1, fewer_left a.layout.slot a.before _ c.copy_over.new.out a.part.now _ (seen_one (visited a.layout.slot) a.layout.size a.before _ c.copy_over.new.out (omega (arith, c.copy_over.auto, c.requires.2)) c.run-tally.ensures.0) c.requires.1, omega (arith, c.copy_over.auto, c.requires.2))

pub returns : goal.returns
returns c =
    let a = c.args in (
      cut_fed (visited a.layout.slot) a.layout.size a.before _ _ a.buffer.now _ _ a.part.now _ a.fill _ (omega (arith, c.args.layout.within.flag)) c.requires.2 c.requires.3
          c.if-part-missing.false c.copy_over.ensures (omega (arith, c.copy_over.auto, c.requires.2)) (seen_one (visited a.layout.slot) a.layout.size a.before _ c.copy_over.new.out (omega (arith, c.copy_over.auto, c.requires.2)) c.run-tally.ensures.0) (rest_is a.part.now _) c.feed_whole-2.ensures.0,
      c.feed_whole-2.ensures.1,
    )
