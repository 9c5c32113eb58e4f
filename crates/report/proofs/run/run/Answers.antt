-- After i records the tally is what these make of the first one: those of a row at once, and the one that ends it by itself.
use mathlib.Core.Path.{refl}
use native.Mathlib.Omega.{arith}
use Rattle.report.specs.Visits.{visited}
use Rattle.report.proofs.Seen.{seen_none, seen_turn}
use Rattle.report.proofs.Visiting.{few_so_far, few_left}
use Rattle.report.proofs.run.run.Goals as goal

pub loop-i-init : goal.loop-i-init
loop-i-init c =
    let rows = c.new-rows.result in
    (omega arith, seen_none (visited rows.layout.slot) rows.layout.size c.args.before rows.records.now, c.requires.0)

pub read-row-requires : goal.read-row-requires
read-row-requires c =
    let l = c.loop-i in
    let rows = c.new-rows.result in
    let n = c.new-rows.ensures.1 in
    let few = few_left rows.layout.slot rows.layout.size c.args.before l.tally rows.records.now l.i c.args.n l.invariant.0 l.invariant.1 c.requires.1 in
    (l.invariant.2, omega (arith, n, c.loop-i-test.true), omega (arith, n, few))

pub one-tally-requires : goal.one-tally-requires
one-tally-requires c =
    let rows = c.new-rows.result in
    let r = c.read-row.result in (
      omega (arith, c.new-rows.ensures.1, c.if-i-n.true),
      c.read-row.ensures.so.sane,
      few_so_far rows.layout.slot rows.layout.size c.args.before r.tally rows.records.now r.next c.args.n c.if-i-n.true (c.read-row.ensures.so.seen_to c.args.before c.loop-i.invariant.1) c.requires.1,
    )

pub loop-i-preserved-then-i-n : goal.loop-i-preserved-then-i-n
loop-i-preserved-then-i-n c =
    let rows = c.new-rows.result in
    let r = c.read-row.result in (
      omega (arith, c.if-i-n.true),
      seen_turn (visited rows.layout.slot) rows.layout.size c.args.before r.tally _ rows.records.now _ r.next (c.read-row.ensures.so.seen_to c.args.before c.loop-i.invariant.1)
          refl c.one-tally.ensures.0,
      c.one-tally.ensures.1,
    )
