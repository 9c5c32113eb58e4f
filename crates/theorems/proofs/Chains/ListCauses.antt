-- When a data block, a fragment or a list of a chain is refused, exactly, and what is read where it is not.
use Rattle.std.specs.Prelude.{if◌then◌else◌}
use mathlib.Core.Path.{◌≡◌, refl, sym, ap, ◌∙◌}
use mathlib.Core.Logic.{◌⊎◌, inl, inr, ⊎_elim}
use mathlib.Core.Bool.{Bool, true, false, not, ◌&&◌, true≢false}
use mathlib.Core.List.{List}
use Prim.Native.Nat.{ℕ, ◌+◌, ◌*◌, ◌<◌}
use native.Mathlib.Omega.{arith}
use lib.ListN.{length, drop}
use lib.Dec.{ltb, leb, eqb}
use borrow.Author.Tests.{leb-true, leb-false, eqb-true, eqb-false}
use Rattle.std.specs.Bool.{Decides}
use Rattle.std.proofs.lemmas.Bool.Decides.{Decides-ltb, Decides-eqb, Decides-not}
use Rattle.definitions.specs.Reply.{Reply, answer, refusal}
use Rattle.definitions.specs.Bytes.{u64_at, id_at}
use Rattle.definitions.specs.DataList.{DataList, one_length, list_of}
use Rattle.definitions.specs.Chain.{Block, fragment_limit, has_header, block_at, is_last, declared, judged, fragment_of, agrees, admitted, list_at, Declaration, by_length, by_offsets, declaration_of, keeps_to, chained_at}
use Rattle.definitions.proofs.Replies.{both, answered}
use Rattle.places.proofs.Answers.{passed, followed}
use Rattle.steps.proofs.Declarations.{chained_answer}
use Rattle.theorems.specs.Causes.{Not}
use Rattle.theorems.specs.Refused.{RefusedExactly}
use Rattle.theorems.specs.ChainCauses.{NoHeader, block_there, block_refused, length_in, Untrue, longer, not_full, misplaced, fragment_there, fragment_refused, list_there, Disagrees, Unlike, other_form, other_length, other_count, higher_count, list_at_refused, chained_refused}
use Rattle.theorems.proofs.Blocks.ListAnswers.{list_stands}
use Rattle.theorems.proofs.Blocks.BlockCauses.{list_refused_law}
use Rattle.theorems.proofs.Chains.BlocksStand.{unset, list_there_law}
use Rattle.theorems.proofs.Calls.TestsInTurn.{tests_false, tests_not_not, tests_more, tests_either, as_is, tested, last_tested, going_on}

tests_header : (f : List ℕ) (a : ℕ) → Decides (not (has_header f a)) (NoHeader f a)
tests_header f a = tests_either (not (eqb a 0)) (leb (a + 24) (length f)) (tests_not_not (eqb a 0) (Decides-eqb a 0)) (tests_more (a + 24) (length f))

-- ---- a data block

module _ (id f : List ℕ) (a : ℕ) where
  pub block_refused_law : RefusedExactly (block_refused id f a) (block_at id f a)
  unfolding block_at
  block_refused_law =
      tested (not (has_header f a)) 11 0 _ (tests_header f a)
      (tested (not (id_at f a id)) 12 0 _ (tests_false (id_at f a id))
      (tested (not (eqb (u64_at f (a + 16)) 0)) 12 0 _ (Decides-not (eqb (u64_at f (a + 16)) 0) (Decides-eqb (u64_at f (a + 16)) 0))
      (tested (ltb (u64_at f (a + 8)) 24) 12 0 _ (Decides-ltb (u64_at f (a + 8)) 24)
      (last_tested (ltb (length f) (a + u64_at f (a + 8))) 12 0 (block_there f a) (Decides-ltb (length f) (a + u64_at f (a + 8)))))))

  pub block_there_law : (b : Block) → block_at id f a ≡ answer b → b ≡ block_there f a
  unfolding block_at
  block_there_law b h =
      let p = passed (not (has_header f a)) _ _ _ _ h in
      let q = passed (not (id_at f a id)) _ _ _ _ p.1 in
      let r = passed (not (eqb (u64_at f (a + 16)) 0)) _ _ _ _ q.1 in
      let l = passed (ltb (u64_at f (a + 8)) 24) _ _ _ _ r.1 in
      let e = passed (ltb (length f) (a + u64_at f (a + 8))) _ _ _ _ l.1 in
      sym (answered e.1)

-- ---- a fragment

-- what the list declares is false exactly where the walk's test fails
module _ (s : List ℕ) (d : DataList) (i p n : ℕ) where
  -- by the flag and by whether the fragment is the chain's last
  untrue_by : (one last : Bool) → one_length d.flags ≡ one → is_last d i ≡ last
      → Decides (not (if one then (if last then leb n (length_in s d) else eqb n (length_in s d)) else eqb (u64_at s (d.rest_at + i * 8)) p)) (Untrue s d i p n)
  untrue_by true true e l = (λ h. longer (eqb-true _ _ e) ((tests_more n (length_in s d)).0 h), to)
    where
      to : Untrue s d i p n → not (leb n (length_in s d)) ≡ true
      to (longer o m) = (tests_more n (length_in s d)).1 m
      to (not_full o (inl m) short) = absurd (omega (arith, leb-true d.links (i + 1) (both (eqb d.next 0) _ l).1))
      to (not_full o (inr m) short) = absurd (omega (arith, eqb-true d.next 0 (both (eqb d.next 0) _ l).0))
      to (misplaced z other) = absurd (omega (arith, eqb-true _ _ e))
  untrue_by true false e l = (
    λ h. not_full (eqb-true _ _ e) (follows (eqb d.next 0) refl l) ((Decides-not _ (Decides-eqb n (length_in s d))).0 h),
    to,
  )
    where
      follows : (t : Bool) → eqb d.next 0 ≡ t → (t && leb d.links (i + 1)) ≡ false → (i + 1 < d.links) ⊎ (0 < d.next)
      follows true q h = inl (leb-false d.links (i + 1) h)
      follows false q h = let no = eqb-false d.next 0 q in inr (omega arith)

      to : Untrue s d i p n → not (eqb n (length_in s d)) ≡ true
      to (longer o m) = (Decides-not _ (Decides-eqb n (length_in s d))).1 (λ q. omega arith)
      to (not_full o m short) = (Decides-not _ (Decides-eqb n (length_in s d))).1 short
      to (misplaced z other) = absurd (omega (arith, eqb-true _ _ e))
  untrue_by false last e l = (
    λ h. misplaced (unset d.flags (eqb-false _ _ e)) ((Decides-not _ (Decides-eqb (u64_at s (d.rest_at + i * 8)) p)).0 h),
    to,
  )
    where
      to : Untrue s d i p n → not (eqb (u64_at s (d.rest_at + i * 8)) p) ≡ true
      to (longer o m) = absurd (eqb-false _ _ e o)
      to (not_full o m short) = absurd (eqb-false _ _ e o)
      to (misplaced z other) = (Decides-not _ (Decides-eqb (u64_at s (d.rest_at + i * 8)) p)).1 other

  tests_untrue : Decides (not (declared s d i p n)) (Untrue s d i p n)
  tests_untrue = untrue_by (one_length d.flags) (is_last d i) refl refl

module _ (id f s : List ℕ) (d : DataList) (i p : ℕ) where
  pub fragment_refused_law : RefusedExactly (fragment_refused id f s d i p) (fragment_of id f s d i p)
  unfolding fragment_of
  fragment_refused_law =
      let b = fragment_there f s d i in
      going_on (block_at id f b.address) (judged s d i p) (block_refused_law id f b.address)
      (λ x e. as_is (ap (judged s d i p) (block_there_law id f b.address x e))
      (last_tested (not (declared s d i p b.size)) 13 0 b (tests_untrue s d i p b.size)))

  pub fragment_there_law : (b : Block) → fragment_of id f s d i p ≡ answer b → b ≡ fragment_there f s d i
  unfolding fragment_of
  fragment_there_law b h =
      let a = u64_at s (d.links_at + i * 8) in
      let g = followed (block_at id f a) (judged s d i p) b h in
      let t = passed (not (declared s d i p g.0.size)) _ _ _ b g.2 in
      sym (answered t.1) ∙ block_there_law id f a g.0 g.1

-- ---- a list

tests_disagreeing : (d : DataList) → Decides (not (agrees d)) (Disagrees d)
tests_disagreeing d =
    tests_either (eqb d.count d.links) (leb (d.rest_at + d.rest * 8) d.header.block_length)
    (Decides-not _ (Decides-eqb d.count d.links)) (tests_more (d.rest_at + d.rest * 8) d.header.block_length)

module _ (f : List ℕ) (n a : ℕ) where
  pub list_at_refused_law : RefusedExactly (list_at_refused f n a) (list_at f n a)
  unfolding list_at
  list_at_refused_law =
      let d = list_there f a in
      tested (not (has_header f a)) 11 0 _ (tests_header f a)
      (going_on (list_of (drop a f)) (admitted n) (list_refused_law (drop a f))
      (λ x e. as_is (ap (admitted n) (list_stands (drop a f) x e).1)
      (tested (not (agrees d)) 10 0 _ (tests_disagreeing d)
      (last_tested (ltb fragment_limit (n + d.links)) 9 0 d (Decides-ltb fragment_limit (n + d.links))))))

  pub list_is_there : (d : DataList) → list_at f n a ≡ answer d → d ≡ list_there f a
  list_is_there d h = (list_stands (drop a f) d (list_there_law f n a d h).2).1

-- ---- in a chain

module _ (f : List ℕ) (start a : ℕ) where
  abbrev d : DataList
  d = list_there f a

  abbrev e : DataList
  e = list_there f start

  abbrev m : ℕ
  m = length_in (drop a f) d

  abbrev n : ℕ
  n = length_in (drop start f) e

  -- the count is another than that of the first list: a list that is the last may count less
  abbrev OtherCount : Type 0
  OtherCount = ((0 < d.next) × Not (d.count ≡ e.count)) ⊎ (e.count < d.count)

  tests_count : (last : Bool) → eqb d.next 0 ≡ last → Decides (not (if last then leb d.count e.count else eqb d.count e.count)) OtherCount
  tests_count true l = (
    λ h. inr ((tests_more d.count e.count).0 h),
    ⊎_elim (λ x. absurd (omega (arith, x.0, eqb-true d.next 0 l))) (tests_more d.count e.count).1,
  )
  tests_count false l =
      let other = Decides-not _ (Decides-eqb d.count e.count) in
      let more : 0 < d.next = let no = eqb-false d.next 0 l in omega arith in
      (λ h. inl (more, other.0 h), ⊎_elim (λ x. other.1 x.1) (λ x. other.1 (λ q. omega arith)))

  unlike_by : (of-d of-e last : Bool) → one_length d.flags ≡ of-d → one_length e.flags ≡ of-e → eqb d.next 0 ≡ last
      → Decides (not (keeps_to (if of-e then by_length n e.count else by_offsets) last (if of-d then by_length m d.count else by_offsets))) (Unlike f start a)
  unlike_by true true last x y l =
      let set = eqb-true _ _ x in
      let test = tests_either (eqb m n) _ (Decides-not _ (Decides-eqb m n)) (tests_count last l) in
      (λ h. ⊎_elim (other_length set) (⊎_elim (λ q. other_count set q.0 q.1) (higher_count set)) (test.0 h), λ u. test.1 (to u))
    where
      to : Unlike f start a → Not (m ≡ n) ⊎ OtherCount
      to (other_form differ) = absurd (differ (eqb-true _ _ x ∙ sym (eqb-true _ _ y)))
      to (other_length o q) = inl q
      to (other_count o p q) = inr (inl (p, q))
      to (higher_count o q) = inr (inr q)
  unlike_by true false last x y l = (λ h. other_form (λ q. eqb-false _ _ y (sym q ∙ eqb-true _ _ x)), λ h. refl)
  unlike_by false true last x y l = (λ h. other_form (λ q. eqb-false _ _ x (q ∙ eqb-true _ _ y)), λ h. refl)
  unlike_by false false last x y l = (λ h. absurd (true≢false (sym h)), to)
    where
      to : Unlike f start a → false ≡ true
      to (other_form differ) = absurd (differ (unset d.flags (eqb-false _ _ x) ∙ sym (unset e.flags (eqb-false _ _ y))))
      to (other_length o q) = absurd (eqb-false _ _ x o)
      to (other_count o p q) = absurd (eqb-false _ _ x o)
      to (higher_count o q) = absurd (eqb-false _ _ x o)

  tests_unlike : Decides (not (keeps_to (declaration_of (drop start f) e) (eqb d.next 0) (declaration_of (drop a f) d))) (Unlike f start a)
  tests_unlike = unlike_by _ _ _ refl refl refl

-- a list of the chain that the list at the start begins
module _ (f : List ℕ) (start k a : ℕ) where
  pub chained_refused_law : RefusedExactly (chained_refused f start k a) (chained_at (declaration_of (drop start f) (list_there f start)) f k a)
  unfolding chained_at
  chained_refused_law =
      let d = list_there f a in
      let keeps : DataList → Bool = λ x. keeps_to (declaration_of (drop start f) (list_there f start)) (eqb x.next 0) (declaration_of (drop a f) x) in
      let kept : DataList → Reply DataList = λ x. if not (keeps x) then refusal 13 0 else answer x in
      going_on (list_at f k a) kept (list_at_refused_law f k a)
      (λ x q. as_is (ap kept (list_is_there f k a x q)) (last_tested (not (keeps d)) 13 0 d (tests_unlike f start a)))

  pub chained_is_there : (first : Declaration) (d : DataList) → chained_at first f k a ≡ answer d → d ≡ list_there f a
  chained_is_there first d h = list_is_there f k a d (chained_answer first f k a d h).0
