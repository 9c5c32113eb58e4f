-- To go on is what the definitions say of the chain.
use Rattle.std.specs.Prelude.{if◌then◌else◌}
use mathlib.Core.Path.{◌≡◌, refl, sym, ap, ◌∙◌}
use mathlib.Core.Bool.{Bool, true, false}
use mathlib.Core.List.{List, [], ◌∷◌, ◌++◌}
use Prim.Native.Nat.{ℕ, suc, ◌+◌, ◌-◌, ◌≤◌, ◌<◌}
use native.Mathlib.Omega.{arith}
use lib.ListN.{length, drop}
use lib.Dec.{leb, eqb}
use borrow.Author.Tests.{ne_eqb, leb-true, leb-false, eqb-false}
use Rattle.definitions.specs.Reply.{Reply, answer, refusal, and_then}
use Rattle.definitions.specs.DataList.{DataList}
use Rattle.definitions.specs.Chain.{Block, list_limit, total, fragment_of, fragments, list_at, Declaration, chained_at, lists}
use Rattle.places.specs.Places.{Opens, behind, entered, ended}
use Rattle.steps.specs.Steps.{ListKnown, fragment_at, a_list, the_end, declared_before, next_of}
use Rattle.chain.specs.Walk.{fragments_left, lists_behind, chain_from, go_on}
use Rattle.places.specs.declared.place.OpenList.{OpenList}
use Rattle.places.specs.declared.place.Place.{Place}
use Rattle.steps.proofs.Declarations.{chained_answer}
use Rattle.steps.proofs.Steps.{the_list}

-- in a list that is read
opened_rest : (id f : List ℕ) (first : Declaration) (q : Place) (d : DataList) (bs : List Block) → 0 < q.lists → list_at f q.fragments q.list.address.0 ≡ answer d
    → chain_from id f first q bs ≡ and_then (fragments id f (drop q.list.address.0 f) d q.index (d.links - q.index) bs) (lists_behind id f first q)
unfolding fragments_left
opened_rest id f first q d bs some e = let no : eqb q.lists 0 ≡ false = ne_eqb q.lists 0 (λ z. omega arith) in rw (no, e)

module _ (id f : List ℕ) (first : Declaration) (p : Place) (before : List Block) (k : ListKnown f p) where
  module _ (size : total before ≡ p.position.0) (h : p.index < p.list.links) where
    some : 0 < p.lists
    some = omega (arith, k.none)

    module _ (d : DataList) (e : list_at f p.fragments p.list.address.0 ≡ answer d) (o : Opens p.list d) where
      -- over a fragment, by what it gives
      over_by : (r : Reply Block)
          → and_then (and_then r (λ b. fragments id f (drop p.list.address.0 f) d (p.index + 1) (d.links - (p.index + 1)) (before ++ (b ∷ [])))) (lists_behind id f first p)
          ≡ and_then r (λ b. chain_from id f first (behind p b.size) (before ++ (b ∷ [])))
      unfolding lists_behind
      over_by (refusal n t) = refl
      over_by (answer b) = sym (opened_rest id f first (behind p b.size) d (before ++ (b ∷ [])) some e)

      over_fragment : chain_from id f first p before ≡ and_then (fragment_at id f p) (λ b. chain_from id f first (behind p b.size) (before ++ (b ∷ [])))
      unfolding fragments fragment_at
      over_fragment =
          let n : d.links - p.index ≡ suc (d.links - (p.index + 1)) = omega (arith, ap (λ (x : OpenList). x.links) o) in
          opened_rest id f first p d before some e
          ∙ rw (n, size, e) (over_by (fragment_of id f (drop p.list.address.0 f) d p.index p.position.0))

    -- inside a list the rest is what the fragment gives, and the rest behind it
    pub rest_fragment : chain_from id f first p before ≡ and_then (fragment_at id f p) (λ b. chain_from id f first (behind p b.size) (before ++ (b ∷ [])))
    rest_fragment = let r = the_list f p k h in over_fragment r.0 r.1 r.2

  module _ (count : length before ≡ p.fragments + p.index) (h : p.list.links ≤ p.index) where
    done_in : (d : DataList) → list_at f p.fragments p.list.address.0 ≡ answer d → Opens p.list d → 0 < p.lists
        → chain_from id f first p before ≡ lists_behind id f first p before
    unfolding fragments
    done_in d e o some =
        let n : d.links - p.index ≡ 0 = omega (arith, ap (λ (x : OpenList). x.links) o) in
        opened_rest id f first p d before some e ∙ rw n

    -- nothing is left of the list
    done_by : (t : Bool) → eqb p.lists 0 ≡ t → chain_from id f first p before ≡ lists_behind id f first p before
    unfolding fragments_left
    done_by true e = rw e
    done_by false e =
        let some : 0 < p.lists = omega (arith, eqb-false p.lists 0 e) in
        let r = k.read some in
        done_in r.0 r.1 r.2 some

    behind_entered : (d : DataList) (r : Reply (List Block)) → and_then r (lists_behind id f first (entered p d))
        ≡ and_then r (λ bs. if eqb d.next 0 then answer bs else lists id f first (list_limit - (p.lists + 1)) d.next bs)
    unfolding lists_behind
    behind_entered d (refusal n t) = refl
    behind_entered d (answer bs) =
        let no : eqb (p.lists + 1) 0 ≡ false = ne_eqb (p.lists + 1) 0 (λ z. omega arith) in
        rw no

    -- into the next list, by what its reading gives
    enter_by : (r : Reply DataList) → chained_at first f (p.fragments + p.index) p.list.next.0 ≡ r
        → and_then r (λ d. and_then (fragments id f (drop p.list.next.0 f) d 0 d.links before)
        (λ bs. if eqb d.next 0 then answer bs else lists id f first (list_limit - (p.lists + 1)) d.next bs))
        ≡ and_then (and_then r (λ d. answer (a_list (entered p d)))) (go_on id f first before)
    enter_by (refusal n t) e = refl
    enter_by (answer d) e =
        let all : d.links - 0 ≡ d.links = omega arith in
        sym (opened_rest id f first (entered p d) d before (omega arith) (chained_answer _ _ _ _ d e).0
        ∙ ap (λ (n : ℕ). and_then (fragments id f (drop p.list.next.0 f) d 0 n before) (lists_behind id f first (entered p d))) all
        ∙ behind_entered d (fragments id f (drop p.list.next.0 f) d 0 d.links before))

    many_by : (t : Bool) → leb list_limit p.lists ≡ t
        → lists id f first (list_limit - p.lists) p.list.next.0 before
        ≡ and_then (if t then refusal 8 0 else and_then (chained_at first f (p.fragments + p.index) p.list.next.0) (λ d. answer (a_list (entered p d)))) (go_on id f first before)
    unfolding lists
    many_by true e =
        let l : list_limit ≤ p.lists = leb-true list_limit p.lists e in
        let z : list_limit - p.lists ≡ 0 = omega arith in
        rw z
    many_by false e =
        let l : p.lists < list_limit = leb-false list_limit p.lists e in
        let n : list_limit - p.lists ≡ suc (list_limit - (p.lists + 1)) = omega arith in
        rw (n, count) (enter_by (chained_at first f (p.fragments + p.index) p.list.next.0) refl)

    end_by : (t : Bool) → (t ≡ false → declared_before f p ≡ first)
        → (if t then answer before else lists id f first (list_limit - p.lists) p.list.next.0 before)
        ≡ and_then (if t then answer (the_end p.position.0)
        else if leb list_limit p.lists then refusal 8 0
        else and_then (chained_at (declared_before f p) f (p.fragments + p.index) p.list.next.0) (λ d. answer (a_list (entered p d)))) (go_on id f first before)
    end_by true alike = refl
    end_by false alike = rw (alike refl) (many_by (leb list_limit p.lists) refl)

    -- behind the last fragment of a list the rest is what the next one gives, and the rest behind that
    pub rest_next : (ended p ≡ false → declared_before f p ≡ first) → chain_from id f first p before ≡ and_then (next_of f p) (go_on id f first before)
    unfolding lists_behind next_of
    rest_next alike = done_by (eqb p.lists 0) refl ∙ end_by (ended p) alike
