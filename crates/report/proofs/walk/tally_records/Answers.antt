-- On whichever accepted chain the walk began, the loop is on its way there, and the tally is that of the records in the blocks
-- so far, but for the bytes that wait in the buffer.
use Rattle.std.specs.Prelude.{Ok, Some}
use mathlib.Core.Path.{refl, ap, ap₂, ◌∙◌}
use mathlib.Core.List.{List}
use Prim.Native.Nat.{◌/◌, ◌<◌}
use native.Mathlib.Omega.{arith}
use lib.ListN.{length}
use Rattle.definitions.specs.Chain.{Block, id_dt, joined}
use Rattle.places.specs.Meaning.{block_meant}
use Rattle.chain.proofs.Readers.{still, one_step_answers, all_met}
use Rattle.tally.specs.declared.tally.Tally.{Tally}
use Rattle.report.specs.Visits.{seen, visited}
use Rattle.report.proofs.Seen.{held_end}
use Rattle.report.proofs.Visiting.{sane_empty}
use Rattle.report.proofs.Walking.{held_begin, few_met, few_with, held_behind}
use Rattle.report.proofs.walk.tally_records.Goals as goal

pub loop-step-init : goal.loop-step-init
loop-step-init c =
    let a = c.args in
    let some : 0 < a.layout.size = omega (arith, a.layout.within.flag) in (
      refl,
      sane_empty _ c.empty_tally-tally.ensures,
      some,
      λ w. (w, refl, held_begin id_dt a.file.now a.begin w (visited a.layout.slot) a.layout.size _ a.buffer.now some c.requires.1),
    )

pub next_step-requires : goal.next_step-requires
next_step-requires c = let v = (c.loop-step.invariant.3 c.requires.0).0 in (v.start, v.before, v.at)

-- nothing is refused on the way along an accepted chain
pub unwrap-requires : goal.unwrap-requires
unwrap-requires c =
    let v = (c.loop-step.invariant.3 c.requires.0).0 in
    one_step_answers _ _ _ v _ _ (c.next_step.ensures v.start v.before v.at)

pub data_of-data-requires : goal.data_of-data-requires
data_of-data-requires c = (rw (c.unwrap.ensures ∙ ap Ok (c.in-Some.is ∙ ap Some c.in-OverFragment.is)) at c.next_step.ensures _ _ (c.loop-step.invariant.3 c.requires.0).0.at).inside

pub feed-fed-requires : goal.feed-fed-requires
feed-fed-requires c =
    let a = c.args in
    let so = c.loop-step.invariant.3 c.requires.0 in
    let met = rw (c.unwrap.ensures ∙ ap Ok (c.in-Some.is ∙ ap Some c.in-OverFragment.is)) at c.next_step.ensures _ _ so.0.at in (
      c.loop-step.invariant.1,
      few_with id_dt a.file.now _ so.0 a.layout.slot a.layout.size _ _ _ _ (ap (λ (t : Tally). t.records) c.empty_tally-tally.ensures) so.2 (block_meant c.in-OverFragment.fragment.block)
          met.inside _ c.data_of-data.ensures,
      c.loop-step.invariant.0 ∙ c.requires.2,
      c.loop-step.invariant.2,
    )

pub loop-step-smaller-in-OverFragment : goal.loop-step-smaller-in-OverFragment
loop-step-smaller-in-OverFragment c = (rw (c.unwrap.ensures ∙ ap Ok (c.in-Some.is ∙ ap Some c.in-OverFragment.is)) at c.next_step.ensures _ _ (c.loop-step.invariant.3 c.requires.0).0.at).nearer

pub loop-step-preserved-in-OverFragment : goal.loop-step-preserved-in-OverFragment
loop-step-preserved-in-OverFragment c =
    let a = c.args in (
      omega (arith, c.feed-fed.auto, c.loop-step.invariant.0),
      c.feed-fed.ensures.1,
      c.feed-fed.ensures.0.small,
      λ w.
          let so = c.loop-step.invariant.3 w in
          let v = so.0 in
          let met = rw (c.unwrap.ensures ∙ ap Ok (c.in-Some.is ∙ ap Some c.in-OverFragment.is)) at c.next_step.ensures _ _ v.at in (
            still _ _ _ v _ _ met.there,
            so.1,
            held_behind id_dt a.file.now _ v a.layout.slot a.layout.size _ _ _ _ (ap (λ (t : Tally). t.records) c.empty_tally-tally.ensures) so.2 (block_meant c.in-OverFragment.fragment.block)
                _ _ _ _ c.data_of-data.ensures c.feed-fed.ensures.0,
          ),
    )

-- in the next list
pub loop-step-smaller : goal.loop-step-smaller
loop-step-smaller c = (rw (c.unwrap.ensures ∙ ap Ok (c.in-Some.is ∙ ap Some c.in_default-step.is)) at c.next_step.ensures _ _ (c.loop-step.invariant.3 c.requires.0).0.at).nearer

pub loop-step-preserved : goal.loop-step-preserved
loop-step-preserved c = (
  c.loop-step.invariant.0,
  c.loop-step.invariant.1,
  c.loop-step.invariant.2,
  λ w.
      let so = c.loop-step.invariant.3 w in
      let v = so.0 in
      let entered = rw (c.unwrap.ensures ∙ ap Ok (c.in-Some.is ∙ ap Some c.in_default-step.is)) at c.next_step.ensures _ _ v.at in
      (still _ _ _ v _ _ entered.there, so.1, so.2),
)

-- behind the last fragment
pub returns : goal.returns
returns c =
    let a = c.args in
    let so = c.loop-step.invariant.3 c.requires.0 in (
      (λ w.
          let now = c.loop-step.invariant.3 w in
          let end = rw (c.unwrap.ensures ∙ ap Ok c.in_default.is) at c.next_step.ensures _ _ now.0.at in
          held_end (visited a.layout.slot) a.layout.size (omega (arith, a.layout.within.flag)) _ _ _ _ _ now.2
          ∙ ap₂ (λ (t : Tally) (bs : List Block). seen (visited a.layout.slot) a.layout.size t (joined a.file.now bs) (length (joined a.file.now bs) / a.layout.size)) c.empty_tally-tally.ensures
          (all_met _ _ _ now.0 end.0 ∙ now.1)),
      c.loop-step.invariant.1,
      few_met id_dt a.file.now _ so.0 a.layout.slot a.layout.size _ _ _ _ (ap (λ (t : Tally). t.records) c.empty_tally-tally.ensures) so.2,
    )
