-- Inside a list the step is over its fragment, and behind it into the next list.
use Rattle.std.proofs.lemmas.Result.{err_from_is_err_and}
use mathlib.Core.Path.{sym, ap, ◌∙◌}
use Rattle.definitions.specs.Reply.{answer}
use Rattle.steps.specs.Steps.{next_meant}
use Rattle.steps.specs.declared.next.Next.{Next}
use Rattle.chain.proofs.Walks.{refused_here, taken_here, at_behind, refused_next, at_end, at_list}
use Rattle.chain.proofs.walk.next_step.Goals as goal

pub fragment_at-requires : goal.fragment_at-requires
fragment_at-requires c = (c.requires.2.known, c.if-place.true)

pub returns-in_err-block : goal.returns-in_err-block
returns-in_err-block c =
    let p = err_from_is_err_and c.from_residual.result c.from_residual.ensures.1 in
    rw (p.1, p.2) (λ start before at. refused_here _ _ _ _ _ at c.if-place.true _ _ (sym c.in_err-block.ensures))

pub behind-requires : goal.behind-requires
behind-requires c =
    let room = taken_here _ _ _ _ _ c.requires.2 c.if-place.true _ (sym c.in_ok-block.ensures) in
    (room.1, room.2)

pub returns-then-place : goal.returns-then-place
returns-then-place c = λ start before at.
    let there = at_behind _ _ _ _ _ at c.if-place.true _ (sym c.in_ok-block.ensures) _ c.behind.ensures in
    record {
      here = at;
      inside = (taken_here _ _ _ _ _ at c.if-place.true _ (sym c.in_ok-block.ensures)).0;
      there = there.0;
      behind = c.behind.ensures;
      nearer = there.1;
    }

pub next_list-requires : goal.next_list-requires
next_list-requires c = c.requires.2.known

pub returns-in_err-entered : goal.returns-in_err-entered
returns-in_err-entered c =
    let p = err_from_is_err_and c.from_residual-in_err-entered.result c.from_residual-in_err-entered.ensures.1 in
    rw (p.1, p.2) (λ start before at. refused_next _ _ _ _ _ at c.if-place.false _ _ (sym c.in_err-entered.ensures))

pub returns-in-List : goal.returns-in-List
returns-in-List c = λ start before at.
    let there = at_list _ _ _ _ _ at c.if-place.false _ (sym c.in_ok-entered.ensures ∙ ap (λ (n : Next). answer (next_meant n)) c.in-List.is) in
    record { there = there.0; nearer = there.1 }

pub returns-in-End : goal.returns-in-End
returns-in-End c = λ start before at.
    ((at_end _ _ _ _ _ at c.if-place.false _ (sym c.in_ok-entered.ensures ∙ ap (λ (n : Next). answer (next_meant n)) c.in-End.is)).0, at)
