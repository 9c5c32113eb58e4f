-- The blocks that a walk has met are the first ones of its chain.
use Rattle.std.specs.Prelude.{if◌then◌else◌}
use mathlib.Core.Path.{◌≡◌, sym, ap, ◌∙◌}
use mathlib.Core.Bool.{Bool, true, false}
use mathlib.Core.List.{List, [], ◌∷◌, ◌++◌, append_assoc, append-nil}
use Prim.Native.Nat.{ℕ, zero, suc, ◌+◌, ◌-◌}
use lib.ListN.{length, drop}
use lib.Dec.{eqb}
use Rattle.definitions.specs.Reply.{answer, and_then}
use Rattle.definitions.specs.DataList.{DataList}
use Rattle.definitions.specs.Chain.{Block, list_limit, fragment_of, fragments, list_at, Declaration, chained_at, lists}
use Rattle.definitions.proofs.Replies.{not_answered}
use Rattle.places.specs.Places.{ended}
use Rattle.chain.specs.Walk.{fragments_left, lists_behind, chain_from}
use Rattle.places.specs.declared.place.Place.{Place}
use Rattle.places.proofs.Answers.{followed, answered}

-- `all` begins with `before`
abbrev pub Begins : List Block → List Block → Type 0
Begins before all = (rest : List Block) × (all ≡ before ++ rest)

longer : (before new all : List Block) → Begins (before ++ new) all → Begins before all
longer before new all h = (new ++ h.0, h.1 ∙ append_assoc before new h.0)

module _ (id f : List ℕ) (first : Declaration) where
  fragments_begin : (s : List ℕ) (d : DataList) (i n : ℕ) (before all : List Block) → fragments id f s d i n before ≡ answer all → Begins before all
  unfolding fragments
  fragments_begin s d i zero before all e = ([], sym (answered e) ∙ sym (append-nil before))
  fragments_begin s d i (suc n) before all e =
      let g = followed (fragment_of id f s d i _) (λ b. fragments id f s d (i + 1) n (before ++ (b ∷ []))) all e in
      longer before (g.0 ∷ []) all (fragments_begin s d (i + 1) n (before ++ (g.0 ∷ [])) all g.2)

  joint : (before bs all : List Block) → Begins before bs → Begins bs all → Begins before all
  joint before bs all h g = (h.0 ++ g.0, g.1 ∙ ap (λ (xs : List Block). xs ++ g.0) h.1 ∙ append_assoc before h.0 g.0)

  -- behind the fragments of a list
  on_begin : (k a : ℕ) (t : Bool) (bs all : List Block) → (lists id f first k a bs ≡ answer all → Begins bs all)
      → (if t then answer bs else lists id f first k a bs) ≡ answer all → Begins bs all
  on_begin k a true bs all go h = ([], sym (answered h) ∙ sym (append-nil bs))
  on_begin k a false bs all go h = go h

  lists_begin : (k a : ℕ) (before all : List Block) → lists id f first k a before ≡ answer all → Begins before all
  unfolding lists
  lists_begin zero a before all e = not_answered all 8 0 e
  lists_begin (suc k) a before all e =
      let l = followed (chained_at first f (length before) a) _ all e in
      let d : DataList = l.0 in
      let g = followed (fragments id f (drop a f) d 0 d.links before) _ all l.2 in
      joint before g.0 all (fragments_begin (drop a f) d 0 d.links before g.0 g.1)
      (on_begin k d.next (eqb d.next 0) g.0 all (lists_begin k d.next g.0 all) g.2)

  -- from any place of the walk on
  list_begin : (p : Place) (t : Bool) (before all : List Block)
      → (if t then answer before else and_then (list_at f p.fragments p.list.address.0)
      (λ d. fragments id f (drop p.list.address.0 f) d p.index (d.links - p.index) before)) ≡ answer all → Begins before all
  list_begin p true before all e = ([], sym (answered e) ∙ sym (append-nil before))
  list_begin p false before all e =
      let l = followed (list_at f p.fragments p.list.address.0) _ all e in
      fragments_begin (drop p.list.address.0 f) l.0 p.index (l.0.links - p.index) before all l.2

  pub from_begin : (p : Place) (before all : List Block) → chain_from id f first p before ≡ answer all → Begins before all
  unfolding fragments_left lists_behind
  from_begin p before all e =
      let g = followed (fragments_left id f p before) (lists_behind id f first p) all e in
      joint before g.0 all (list_begin p (eqb p.lists 0) before g.0 g.1)
      (on_begin (list_limit - p.lists) p.list.next.0 (ended p) g.0 all (lists_begin (list_limit - p.lists) p.list.next.0 g.0 all) g.2)
