use Rattle.std.proofs.lemmas.Result.{err_from_is_err_and}
use mathlib.Core.Path.{◌≡◌, sym, ap, ◌∙◌}
use mathlib.Core.Bool.{Bool}
use mathlib.Core.List.{List}
use Prim.Native.Nat.{ℕ}
use lib.Dec.{eqb}
use Rattle.definitions.specs.Reply.{answer}
use Rattle.definitions.specs.DataList.{DataList}
use Rattle.definitions.specs.Chain.{keeps_to}
use Rattle.blocks.specs.Meaning.{list_meant}
use Rattle.places.specs.Places.{opened, entered}
use Rattle.steps.specs.Steps.{declaration_in, a_list}
use Rattle.places.specs.declared.place.Place.{Place}
use Rattle.steps.proofs.Steps.{lengths_within, next_refused, next_first, next_untrue, next_kept}
use Rattle.steps.proofs.next.next_list.Goals as goal
use Rattle.steps.proofs.next.next_list.Goals.{else-place-ne0-via-then-place-ne0+else-not-keeps_to, else-place-ne0-via-else-place-ne0}

-- a refused list is handed on
pub returns-in_err-list : goal.returns-in_err-list
returns-in_err-list c =
    let p = err_from_is_err_and c.from_residual.result c.from_residual.ensures.1 in
    rw (p.1, p.2) (next_refused _ _ (sym c.has_ended.ensures ∙ c.if-has_ended.false) c.if-place-ge-LIST_LIMIT.false _ _ (sym c.in_err-list.ensures))

pub keeps_to-requires : goal.keeps_to-requires
keeps_to-requires c =
    lengths_within _ _ c.requires c.if-place-ne0.true _ (sym c.in_ok-list.ensures) _ c.enter-entered.ensures

-- whether it keeps to the list before
kept : (f : List ℕ) (p : Place) (d : DataList) (q : Place) (b : Bool) → q ≡ entered p d
    → b ≡ keeps_to (declaration_in f p.list) (eqb q.list.next.0 0) (declaration_in f q.list)
    → b ≡ keeps_to (declaration_in f p.list) (eqb d.next 0) (declaration_in f (opened p.list.next d))
kept f p d q b is e = e ∙ ap (λ (x : Place). keeps_to (declaration_in f p.list) (eqb x.list.next.0 0) (declaration_in f x.list)) is

pub returns-then-not-keeps_to : goal.returns-then-not-keeps_to
returns-then-not-keeps_to c =
    next_untrue _ _ (sym c.has_ended.ensures ∙ c.if-has_ended.false) c.if-place-ge-LIST_LIMIT.false _ (sym c.in_ok-list.ensures) c.if-place-ne0.true _ (kept c.args.file.now c.args.place (list_meant c.in_ok-list.list) _ _ c.enter-entered.ensures c.keeps_to.ensures) (c.if-not-keeps_to.true)

-- the first list is held to nothing
pub returns : goal.returns
returns c =
    let more = sym c.has_ended.ensures ∙ c.if-has_ended.false in
    let read = sym c.in_ok-list.ensures in
    ap (λ (q : Place). answer (a_list q)) c.enter-entered.ensures
    ∙ elim c.else-place-ne0.branch [
      | else-place-ne0-via-then-place-ne0+else-not-keeps_to w ↦
          next_kept _ _ more c.if-place-ge-LIST_LIMIT.false _ read w.if-place-ne0.true _
          (kept c.args.file.now c.args.place (list_meant c.in_ok-list.list) _ _ c.enter-entered.ensures w.keeps_to.ensures) w.if-not-keeps_to.false
      | else-place-ne0-via-else-place-ne0 w ↦ next_first _ _ more c.if-place-ge-LIST_LIMIT.false _ read w.if-place-ne0.false
    ]
