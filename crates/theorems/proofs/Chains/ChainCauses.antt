-- When a chain is refused, exactly: by the first list or fragment that is, or for one list too many.
use Rattle.std.specs.Prelude.{if◌then◌else◌}
use mathlib.Core.Path.{◌≡◌, refl, sym, ap, ap₂, ◌∙◌}
use mathlib.Core.Logic.{inl, inr, ⊎_elim, ◌↔◌}
use mathlib.Core.Bool.{Bool, true, false}
use mathlib.Core.List.{List, [], ◌∷◌, ◌++◌, append_assoc, append-nil}
use Prim.Native.Nat.{ℕ, zero, suc, ◌+◌, ◌-◌, ◌<◌}
use native.Mathlib.Omega.{arith}
use lib.ListN.{length, drop}
use lib.Dec.{eqb}
use borrow.Author.Tests.{eqb-true, eqb-false}
use Rattle.definitions.specs.Reply.{Reply, answer, refusal, and_then}
use Rattle.definitions.specs.DataList.{DataList}
use Rattle.definitions.specs.Chain.{Block, total, list_limit, fragment_of, fragments, list_at, Declaration, declaration_of, chained_at, lists, chain_of}
use Rattle.definitions.proofs.Replies.{not_answered, answered}
use Rattle.places.proofs.Answers.{followed}
use Rattle.theorems.specs.Refused.{Cause, refused, ◌or_else◌, first_of, provided, RefusedExactly}
use Rattle.theorems.specs.ChainCauses.{fragment_there, fragment_refused, list_there, address_of, blocks_to, blocks_at, blocks_before, HasList, part_refused, chain_refused}
use Rattle.theorems.proofs.Chains.ListCauses.{fragment_refused_law, fragment_there_law, list_is_there, chained_refused_law, chained_is_there}
use Rattle.theorems.proofs.Calls.TestsInTurn.{as_is, going_on, together, before_or_last, in_a_row}

-- what a reply refuses
abbrev refusals_of : {A : Type 0} → Reply A → Cause
refusals_of r n t = r ≡ refusal n t

itself : {A : Type 0} (r : Reply A) → RefusedExactly (refusals_of r) r
itself r = record { given = λ n t e. e; only = λ n t e. e }

-- ---- the fragments of a list

module _ (id f s : List ℕ) (d : DataList) (before : List Block) where
  -- the blocks before fragment i
  abbrev so_far : ℕ → List Block
  so_far i = before ++ blocks_to f s d i

  -- what n fragments from fragment i on give
  abbrev from : ℕ → ℕ → Reply (List Block)
  from i n = fragments id f s d i n (so_far i)

  one_more : (i : ℕ) → so_far i ++ (fragment_there f s d i ∷ []) ≡ so_far (suc i)
  unfolding blocks_to
  one_more i = append_assoc before (blocks_to f s d i) (fragment_there f s d i ∷ [])

  on_one : (i n : ℕ) (b : Block) → fragment_of id f s d i (total (so_far i)) ≡ answer b → fragments id f s d (i + 1) n (so_far i ++ (b ∷ [])) ≡ from (suc i) n
  on_one i n b e =
      let there : b ≡ fragment_there f s d i = fragment_there_law id f s d i (total (so_far i)) b e in
      ap₂ (λ (k : ℕ) (bs : List Block). fragments id f s d k n bs) (omega arith) (ap (λ (x : Block). so_far i ++ (x ∷ [])) there ∙ one_more i)

  abbrev causes : ℕ → Cause
  causes i = fragment_refused id f s d i (total (so_far i))

  one_refused : (i n : ℕ) → RefusedExactly (causes i or_else refusals_of (from (suc i) n)) (from i (suc n))
  unfolding fragments
  one_refused i n =
      going_on (fragment_of id f s d i (total (so_far i))) _ (fragment_refused_law id f s d i (total (so_far i)))
      (λ b e. as_is (on_one i n b e) (itself (from (suc i) n)))

  step : (i : ℕ) → i < d.links → (n t : ℕ) → from i (d.links - i) ≡ refusal n t ↔ (causes i or_else refusals_of (from (suc i) (d.links - suc i))) n t
  step i l n t =
      let more : d.links - i ≡ suc (d.links - suc i) = omega arith in
      let h = as_is (ap (from i) more) (one_refused i (d.links - suc i)) in
      (h.only n t, h.given n t)

  all_of : from 0 (d.links - 0) ≡ fragments id f s d 0 d.links before
  unfolding blocks_to
  all_of = ap₂ (fragments id f s d 0) (omega arith) (append-nil before)

  none_left : from d.links (d.links - d.links) ≡ answer (so_far d.links)
  unfolding fragments
  none_left = let z : d.links - d.links ≡ 0 = omega arith in ap (from d.links) z

  pub fragments_refused : RefusedExactly (first_of d.links causes) (fragments id f s d 0 d.links before)
  unfolding ◌or_else◌
  fragments_refused =
      let row = in_a_row (λ i. refusals_of (from i (d.links - i))) causes d.links step in record {
        given = λ n t x. sym all_of ∙ (row n t).1 (inl x);
        only = λ n t e. ⊎_elim (λ x. x) (λ x. not_answered (so_far d.links) n t (sym x.1 ∙ none_left)) ((row n t).0 (all_of ∙ e));
      }

  -- and where they are not, these are the blocks
  blocks_on : (n i : ℕ) (bs : List Block) → i + n ≡ d.links → from i n ≡ answer bs → bs ≡ so_far d.links
  unfolding fragments
  blocks_on zero i bs e h = let end : i ≡ d.links = omega arith in sym (answered h) ∙ ap so_far end
  blocks_on (suc n) i bs e h =
      let g = followed (fragment_of id f s d i (total (so_far i))) _ bs h in
      blocks_on n (suc i) bs (omega arith) (sym (on_one i n g.0 g.1) ∙ g.2)

  pub fragments_there : (bs : List Block) → fragments id f s d 0 d.links before ≡ answer bs → bs ≡ so_far d.links
  unfolding blocks_to
  fragments_there bs h = blocks_on d.links 0 bs (omega arith) (ap (fragments id f s d 0 d.links) (append-nil before) ∙ h)

-- ---- the lists of the chain

module _ (id f : List ℕ) (start : ℕ) where
  -- what the first list declares for all
  abbrev first : Declaration
  first = declaration_of (drop start f) (list_there f start)

  -- the last list ends the chain, or else the rest of it decides
  rest_refused : (next : ℕ) (bs : List Block) (r : Reply (List Block)) → RefusedExactly (provided (0 < next) (refusals_of r)) (if eqb next 0 then answer bs else r)
  unfolding provided
  rest_refused next bs r = go (eqb next 0) refl
    where
      go : (b : Bool) → eqb next 0 ≡ b → RefusedExactly (λ n t. (0 < next) × (r ≡ refusal n t)) (if b then answer bs else r)
      go true e = record {
        given = λ n t x. absurd (omega (arith, x.0, eqb-true next 0 e));
        only = λ n t h. not_answered bs n t (sym h);
      }
      go false e = let some = eqb-false next 0 e in record { given = λ n t x. x.1; only = λ n t h. (omega arith, h) }

  -- what k lists give, from the one at a on
  part_refused_law : (k a : ℕ) (before : List Block)
      → RefusedExactly (part_refused id f start a before or_else provided (0 < (list_there f a).next) (refusals_of (lists id f first k (list_there f a).next (before ++ blocks_at f a))))
      (lists id f first (suc k) a before)
  unfolding lists
  part_refused_law k a before =
      let d = list_there f a in
      let rest : DataList → List Block → Reply (List Block) = λ x bs. if eqb x.next 0 then answer bs else lists id f first k x.next bs in
      let its : DataList → Reply (List Block) = λ x. and_then (fragments id f (drop a f) x 0 x.links before) (rest x) in
      together _ _ _
      (going_on (chained_at first f (length before) a) its (chained_refused_law f start (length before) a)
      (λ x e. as_is (ap its (chained_is_there f start (length before) a first x e))
      (going_on (fragments id f (drop a f) d 0 d.links before) (rest d) (fragments_refused id f (drop a f) d before)
      (λ bs q. as_is (ap (rest d) (fragments_there id f (drop a f) d before bs q)) (rest_refused d.next _ _)))))

  -- the chain from list k on
  abbrev chain_from : ℕ → Reply (List Block)
  chain_from k = lists id f first (list_limit - k) (address_of f start k) (blocks_before f start k)

  abbrev list_causes : ℕ → Cause
  list_causes k = part_refused id f start (address_of f start k) (blocks_before f start k)

  one_list_refused : (k : ℕ) → k < list_limit
      → RefusedExactly (list_causes k or_else provided (0 < address_of f start (suc k)) (refusals_of (chain_from (suc k)))) (chain_from k)
  unfolding address_of blocks_before
  one_list_refused k l =
      let more : list_limit - k ≡ suc (list_limit - suc k) = omega arith in
      as_is (ap (λ (n : ℕ). lists id f first n (address_of f start k) (blocks_before f start k)) more)
      (part_refused_law (list_limit - suc k) (address_of f start k) (blocks_before f start k))

  has_next : (k : ℕ) → HasList f start k → 0 < address_of f start (suc k) → HasList f start (suc k)
  unfolding address_of
  has_next k has more = before_or_last k has more

  has_before : (k : ℕ) → HasList f start (suc k) → HasList f start k × (0 < address_of f start (suc k))
  unfolding address_of
  has_before k has = (λ j l. has j (omega arith), has k (omega arith))

  list_step : (k : ℕ) → k < list_limit → (n t : ℕ)
      → provided (HasList f start k) (refusals_of (chain_from k)) n t
      ↔ (provided (HasList f start k) (list_causes k) or_else provided (HasList f start (suc k)) (refusals_of (chain_from (suc k)))) n t
  unfolding provided ◌or_else◌
  list_step k l n t =
      let h = one_list_refused k l in (
        λ w. ⊎_elim (λ x. inl (w.0, x)) (λ x. inr (λ m u y. x.0 m u y.1, (has_next k w.0 x.1.0, x.1.1))) (h.only n t w.1),
        ⊎_elim (λ x. (x.0, h.given n t (inl x.1)))
            (λ x. let has = has_before k x.1.0 in (has.0, h.given n t (inr (λ m u y. x.0 m u (has.0, y), (has.1, x.1.1))))),
      )

  -- the chain is that of all lists, the first among them
  chain_by : (r : Reply DataList) → list_at f 0 start ≡ r → and_then r (λ d. lists id f (declaration_of (drop start f) d) list_limit start []) ≡ lists id f first list_limit start []
  unfolding lists chained_at
  chain_by (answer d) e = ap (λ (x : DataList). lists id f (declaration_of (drop start f) x) list_limit start []) (list_is_there f 0 start d e)
  chain_by (refusal n t) e = rw e

  chain_whole : chain_of id f start ≡ chain_from 0
  unfolding chain_of address_of blocks_before
  chain_whole = chain_by (list_at f 0 start) refl

  pub chain_refused_law : RefusedExactly (chain_refused id f start) (chain_of id f start)
  unfolding ◌or_else◌ provided refused lists
  chain_refused_law =
      let row = in_a_row (λ k. provided (HasList f start k) (refusals_of (chain_from k))) (λ k. provided (HasList f start k) (list_causes k)) list_limit list_step in record {
        given = λ n t. ⊎_elim (λ x. chain_whole ∙ ((row n t).1 (inl x)).1)
            (λ x. chain_whole ∙ ((row n t).1 (inr (x.0, (x.1.0, ap₂ refusal (sym x.1.1) (sym x.1.2))))).1);
        only = λ n t e. ⊎_elim (λ x. inl x) (λ x. let q = x.1.1 in inr (x.0, (x.1.0, cc, cc)))
            ((row n t).0 (λ j l. absurd (omega arith), sym chain_whole ∙ e));
      }
