-- What a reader of an accepted chain knows: nothing is refused on the way, and each step stays on the way along the same blocks.
use Rattle.std.specs.Prelude.{Result, Ok, Err, Option, IsOk}
use mathlib.Core.Path.{◌≡◌, refl, sym, ◌∙◌}
use mathlib.Core.List.{List}
use Prim.Native.Nat.{ℕ}
use Rattle.definitions.specs.Reply.{answer, refusal}
use Rattle.definitions.specs.Chain.{Block, chain_of}
use Rattle.definitions.proofs.Replies.{not_answered}
use Rattle.refusals.specs.declared.Refusal.{Refusal}
use Rattle.chain.specs.Walk.{At, Walked}
use Rattle.chain.specs.Stepped.{Stepped, OneStep}
use Rattle.chain.specs.declared.walk.Fragment.{Fragment}
use Rattle.chain.specs.declared.walk.Step.{Step}
use Rattle.places.specs.declared.place.Place.{Place}
use Rattle.places.proofs.Answers.{answered}
use Rattle.chain.proofs.Begun.{Begins, from_begin}

module _ (id f : List ℕ) (p : Place) (w : Walked id f p) where
  pub blocks_begin : Begins w.before w.blocks
  blocks_begin = from_begin id f w.at.first p w.before w.blocks (sym w.at.rest ∙ w.whole)

  -- the same walk, wherever it stands now
  abbrev pub still : (q : Place) (met : List Block) → At id f w.start q met → Walked id f q
  still q met at = record { start = w.start; before = met; blocks = w.blocks; at = at; whole = w.whole }

  pub not_refused : {A : Type 0} (n t : ℕ) → chain_of id f w.start ≡ refusal n t → A
  not_refused n t e = not_answered _ _ _ (sym e ∙ w.whole)

  pub all_met : chain_of id f w.start ≡ answer w.before → w.before ≡ w.blocks
  all_met e = answered (sym e ∙ w.whole)

  -- no walk to the next fragment is refused
  pub step_answers : (r : Result (Option Fragment) Refusal) (q : Place) → Stepped id f w.start p w.before r q → IsOk r
  step_answers (Ok x) q s = refl
  step_answers (Err why) q s = not_refused _ _ s

  -- nor is a step
  pub one_step_answers : (r : Result (Option Step) Refusal) (q : Place) → OneStep id f w.start p w.before r q → IsOk r
  one_step_answers (Ok x) q s = refl
  one_step_answers (Err why) q s = not_refused _ _ s
