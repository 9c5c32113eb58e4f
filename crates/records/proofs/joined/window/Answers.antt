-- On whichever accepted chain the walk began, the loop is on its way there, and has laid the data of the blocks so far into
-- the window, which it has not passed.
use Rattle.std.specs.Prelude.{Ok, Some}
use mathlib.Core.Path.{◌≡◌, refl, sym, ap, ◌∙◌}
use mathlib.Core.List.{List}
use Prim.Native.Nat.{◌+◌}
use native.Mathlib.Omega.{arith}
use lib.ListN.{length}
use borrow.Author.Tests.{leb-true, leb-false}
use Rattle.definitions.specs.Chain.{Block, joined}
use Rattle.records.specs.Window.{laid}
use Rattle.chain.proofs.Readers.{blocks_begin, still, one_step_answers, all_met}
use Rattle.records.proofs.Laying.{lay_start, lay_turn, lay_full}
use Rattle.records.proofs.joined.window.Goals as goal

pub loop-step-init : goal.loop-step-init
loop-step-init c =
    let a = c.args in
    (omega (arith, c.requires.1), λ w. (w, refl, lay_start a.out.now a.from.0 a.file.now w.before _ w.at.stand.inside w.at.size c.requires.1))

pub next_step-requires : goal.next_step-requires
next_step-requires c = let v = (c.loop-step.invariant.1 c.requires.0).0 in (v.start, v.before, v.at)

-- nothing is refused on the way along an accepted chain
pub unwrap-requires : goal.unwrap-requires
unwrap-requires c =
    let v = (c.loop-step.invariant.1 c.requires.0).0 in
    one_step_answers _ _ _ v _ _ (c.next_step.ensures v.start v.before v.at)

pub data_of-requires : goal.data_of-requires
data_of-requires c =
    let v = (c.loop-step.invariant.1 c.requires.0).0 in
    (rw (c.unwrap.ensures ∙ ap Ok (c.in-Some.is ∙ ap Some c.in-OverFragment.is)) at c.next_step.ensures v.start v.before v.at).inside

-- a window that is full
pub returns-then-is_behind : goal.returns-then-is_behind
returns-then-is_behind c = λ w.
    let a = c.args in
    let so = c.loop-step.invariant.1 w in
    let v = so.0 in
    let met = rw (c.unwrap.ensures ∙ ap Ok (c.in-Some.is ∙ ap Some c.in-OverFragment.is)) at c.next_step.ensures v.start v.before v.at in
    let there = still _ _ _ v _ _ met.there in
    let begins = blocks_begin _ _ _ there in
    let reached = leb-true (a.from.0 + length c.lay.new.out) c.next_step.new.place.position.0 (sym c.is_behind.ensures ∙ c.if-is_behind.true) in
    let full : c.lay.new.out ≡ laid a.out.now a.from.0 0 (joined a.file.now v.blocks) =
    lay_full a.out.now a.from.0 a.file.now there.before _ met.there.stand.inside met.there.size _
    (lay_turn _ _ _ _ _ met.here.stand.inside met.here.size _ so.2 _ _ _ c.data_of.ensures c.lay.ensures)
    begins.0 v.blocks begins.1 (omega (arith, reached, c.lay.auto.out, c.loop-step.auto.out)) in (
      rw so.1 at full,
      record { ahead = omega (arith, c.loop-step.invariant.0, met.here.size, v.at.size); walked = still _ _ _ v _ _ met.here; same = so.1 },
    )

pub loop-step-smaller-else-is_behind : goal.loop-step-smaller-else-is_behind
loop-step-smaller-else-is_behind c =
    let v = (c.loop-step.invariant.1 c.requires.0).0 in
    (rw (c.unwrap.ensures ∙ ap Ok (c.in-Some.is ∙ ap Some c.in-OverFragment.is)) at c.next_step.ensures v.start v.before v.at).nearer

pub loop-step-preserved-else-is_behind : goal.loop-step-preserved-else-is_behind
loop-step-preserved-else-is_behind c =
    let a = c.args in
    let short = leb-false (a.from.0 + length c.lay.new.out) c.next_step.new.place.position.0 (sym c.is_behind.ensures ∙ c.if-is_behind.false) in (
      omega (arith, short, c.lay.auto.out, c.loop-step.auto.out),
      λ w.
          let so = c.loop-step.invariant.1 w in
          let v = so.0 in
          let met = rw (c.unwrap.ensures ∙ ap Ok (c.in-Some.is ∙ ap Some c.in-OverFragment.is)) at c.next_step.ensures v.start v.before v.at in (
            still _ _ _ v _ _ met.there,
            so.1,
            lay_turn _ _ _ _ _ met.here.stand.inside met.here.size _ so.2 _ _ _ c.data_of.ensures c.lay.ensures,
          ),
    )

-- in the next list
pub loop-step-smaller : goal.loop-step-smaller
loop-step-smaller c =
    let v = (c.loop-step.invariant.1 c.requires.0).0 in
    (rw (c.unwrap.ensures ∙ ap Ok (c.in-Some.is ∙ ap Some c.in_default-step.is)) at c.next_step.ensures v.start v.before v.at).nearer

pub loop-step-preserved : goal.loop-step-preserved
loop-step-preserved c =
    let of_any = (c.loop-step.invariant.1 c.requires.0).0 in
    let entered = rw (c.unwrap.ensures ∙ ap Ok (c.in-Some.is ∙ ap Some c.in_default-step.is)) at c.next_step.ensures of_any.start of_any.before of_any.at in (
      omega (arith, c.loop-step.invariant.0, entered.there.size, of_any.at.size),
      λ w.
          let so = c.loop-step.invariant.1 w in
          let v = so.0 in
          let there = rw (c.unwrap.ensures ∙ ap Ok (c.in-Some.is ∙ ap Some c.in_default-step.is)) at c.next_step.ensures v.start v.before v.at in
          (still _ _ _ v _ _ there.there, so.1, so.2),
    )

-- behind the last fragment
pub returns : goal.returns
returns c = λ w.
    let a = c.args in
    let so = c.loop-step.invariant.1 w in
    let v = so.0 in
    let end = rw (c.unwrap.ensures ∙ ap Ok c.in_default.is) at c.next_step.ensures v.start v.before v.at in (
      so.2 ∙ ap (λ (bs : List Block). laid a.out.now a.from.0 0 (joined a.file.now bs)) (all_met _ _ _ v end.0 ∙ so.1),
      record { ahead = omega (arith, c.loop-step.invariant.0, end.1.size, v.at.size); walked = still _ _ _ v _ _ end.1; same = so.1 },
    )
