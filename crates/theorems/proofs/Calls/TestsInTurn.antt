-- Tests in turn: the first that finds something refuses, with its own number, and where none does there is an answer.
use Rattle.std.specs.Prelude.{if◌then◌else◌}
use mathlib.Core.Path.{◌≡◌, refl, sym, ◌∙◌, subst}
use mathlib.Core.Logic.{◌⊎◌, inl, inr, ⊎_elim, ◌↔◌}
use mathlib.Core.Bool.{Bool, true, false, not, ◌&&◌, ◌||◌, true≢false}
use mathlib.Core.List.{List}
use Prim.Native.Nat.{ℕ, zero, suc, ◌+◌, ◌≤◌, ◌<◌}
use native.Mathlib.Omega.{arith}
use lib.Dec.{ltb, leb, eqb}
use borrow.Author.Count.{below_more}
use borrow.Author.Tests.{eqb-true, eqb-false}
use Rattle.std.specs.Bool.{Decides}
use Rattle.std.proofs.lemmas.Bool.Decides.{Decides-like, Decides-not, Decides-or, nat_tests}
use Rattle.definitions.specs.Reply.{Reply, Outcome, answer, refusal, and_then, on_answer}
use Rattle.definitions.proofs.Replies.{not_answered}
use Rattle.theorems.specs.Exactly.{Exactly}
use Rattle.theorems.specs.Causes.{Not}
use Rattle.theorems.specs.Refused.{Cause, refused, Absent, ◌or_else◌, first_of, RefusedExactly, ToldExactly}

-- ---- a test and what it tests

pub tests_false : (b : Bool) → Decides (not b) (b ≡ false)
tests_false true = (λ h. cc, λ h. cc)
tests_false false = (λ h. refl, λ h. refl)

pub tests_not_not : {P : Type 0} (b : Bool) → Decides b P → Decides (not (not b)) P
tests_not_not true t = t
tests_not_not false t = t

pub tests_more : (a b : ℕ) → Decides (not (leb a b)) (b < a)
tests_more a b = (λ h. grind (arith, nat_tests), λ h. grind (arith, nat_tests))

pub tests_no_less : (a b : ℕ) → Decides (not (ltb a b)) (b ≤ a)
tests_no_less a b = (λ h. grind (arith, nat_tests), λ h. grind (arith, nat_tests))

pub tests_true : (b : Bool) → Decides b (b ≡ true)
tests_true b = (λ h. h, λ h. h)

pub tests_neither : {P Q : Type 0} (a b : Bool) → Decides a P → Decides b Q → Decides (not (a || b)) (Not P × Not Q)
tests_neither a b p q =
    Decides-like (not (a || b)) (λ h. (λ x. h (inl x), λ x. h (inr x))) (λ n. ⊎_elim n.0 n.1) (Decides-not (a || b) (Decides-or a b p q))

-- one of two is not met
pub tests_either : {P Q : Type 0} (a b : Bool) → Decides (not a) P → Decides (not b) Q → Decides (not (a && b)) (P ⊎ Q)
tests_either true b p q = (λ h. inr (q.0 h), ⊎_elim (λ x. absurd (true≢false (sym (p.1 x)))) q.1)
tests_either false b p q = (λ h. inl (p.0 refl), λ h. refl)

-- ---- one after the other

module _ {A : Type 0} where
  -- a reply that is another one
  pub as_is : {c : Cause} {r q : Reply A} → r ≡ q → RefusedExactly c q → RefusedExactly c r
  as_is {c = c} e h = subst (RefusedExactly c) (sym e) h

  -- a test, and what comes behind it, where it found nothing
  pub tested_else : {P : Type 0} {c : Cause} (b : Bool) (n t : ℕ) (r : Reply A) → Decides b P → (b ≡ false → RefusedExactly c r)
      → RefusedExactly (refused n t P or_else c) (if b then refusal n t else r)
  unfolding refused ◌or_else◌
  tested_else true n t r p h = record {
    given = λ m u. ⊎_elim (λ x. rw (x.1, x.2)) (λ x. absurd (x.0 n t (p.0 refl, refl, refl)));
    only = λ m u e. inl (p.0 refl, cc, cc);
  }
  tested_else false n t r p h =
      let none : Absent (refused n t _) = λ m u x. true≢false (sym (p.1 x.0)) in record {
        given = λ m u. ⊎_elim (λ x. absurd (none m u x)) (λ x. (h refl).given m u x.1);
        only = λ m u e. inr (none, (h refl).only m u e);
      }

  pub tested : {P : Type 0} {c : Cause} (b : Bool) (n t : ℕ) (r : Reply A) → Decides b P → RefusedExactly c r
      → RefusedExactly (refused n t P or_else c) (if b then refusal n t else r)
  tested b n t r p h = tested_else b n t r p (λ none. h)

  -- the last test
  pub last_tested : {P : Type 0} (b : Bool) (n t : ℕ) (a : A) → Decides b P → RefusedExactly (refused n t P) (if b then refusal n t else answer a)
  unfolding refused
  last_tested true n t a p = record { given = λ m u x. rw (x.1, x.2); only = λ m u e. (p.0 refl, cc, cc) }
  last_tested false n t a p = record {
    given = λ m u x. absurd (true≢false (sym (p.1 x.0)));
    only = λ m u e. not_answered a m u (sym e);
  }

  -- where nothing is refused there is an answer
  pub answered_else : {c : Cause} (r : Reply A) → RefusedExactly c r → Exactly (Absent c) r
  answered_else (answer a) h = record { answers = λ none. (a, refl); only = λ b e n t x. not_answered a n t (sym (h.given n t x)) }
  answered_else (refusal m u) h = record { answers = λ none. absurd (none m u (h.only m u refl)); only = λ b e. not_answered b m u e }

-- a refusal is the same, whatever there would have been for an answer
same_refusal : {A B : Type 0} {m u n t : ℕ} → ◌≡◌ {A = Reply A} (refusal m u) (refusal n t) → ◌≡◌ {A = Reply B} (refusal m u) (refusal n t)
same_refusal e = cc

-- what is done with an answer
pub going_on : {A B : Type 0} {c d : Cause} (r : Reply A) (g : A → Reply B) → RefusedExactly c r → ((a : A) → r ≡ answer a → RefusedExactly d (g a))
    → RefusedExactly (c or_else d) (and_then r g)
unfolding ◌or_else◌
going_on {c = c} (answer a) g h i =
    let none : Absent c = λ n t x. not_answered a n t (sym (h.given n t x)) in record {
      given = λ n t. ⊎_elim (λ x. absurd (none n t x)) (λ x. (i a refl).given n t x.1);
      only = λ n t e. inr (none, (i a refl).only n t e);
    }
going_on (refusal m u) g h i = record {
  given = λ n t. ⊎_elim (λ x. same_refusal (h.given n t x)) (λ x. absurd (x.0 m u (h.only m u refl)));
  only = λ n t e. inl (h.only n t (same_refusal e));
}

-- what is made of an answer is refused where there is none
module _ {A B : Type 0} (g : A → B) where
  abbrev made : Reply A → Reply B
  made r = and_then r (λ a. answer (g a))

  pub refused_made : (r : Reply A) (n t : ℕ) → r ≡ refusal n t → made r ≡ refusal n t
  refused_made r n t e = rw e

  pub made_refused : (r : Reply A) (n t : ℕ) → made r ≡ refusal n t → r ≡ refusal n t
  made_refused (answer a) n t e = not_answered (g a) n t (sym e)
  made_refused (refusal k u) n t e = same_refusal e

  pub made_of : {c : Cause} (r : Reply A) → RefusedExactly c r → RefusedExactly c (made r)
  made_of r h = record { given = λ n t x. refused_made r n t (h.given n t x); only = λ n t e. h.only n t (made_refused r n t e) }

-- the first two of three causes may be taken for one
pub together : {A : Type 0} (c d e : Cause) {r : Reply A} → RefusedExactly (c or_else d or_else e) r → RefusedExactly ((c or_else d) or_else e) r
unfolding ◌or_else◌
together c d e h = record {
  given = λ n t. ⊎_elim
      (⊎_elim (λ x. h.given n t (inl x)) (λ x. h.given n t (inr (x.0, inl x.1))))
      (λ x. h.given n t (inr (λ m u y. x.0 m u (inl y), inr (λ m u y. x.0 m u (inr (λ k v z. x.0 k v (inl z), y)), x.1))));
  only = λ n t q. ⊎_elim (λ x. inl (inl x))
      (λ x. ⊎_elim (λ y. inl (inr (x.0, y))) (λ y. inr (λ m u. ⊎_elim (x.0 m u) (λ z. y.0 m u z.1), y.1)) x.1)
      (h.only n t q);
}

-- ---- many in a row

-- of each place up to k
pub before_or_last : {P : ℕ → Type 0} (k : ℕ) → ((j : ℕ) → j < k → P j) → P k → (j : ℕ) → j < suc k → P j
before_or_last {P = P} k before last j l = below_more P k before last j (omega arith)

-- nothing before test k refuses
abbrev Past : (ℕ → Cause) → ℕ → Type 0
Past c k = (j : ℕ) → j < k → Absent (c j)

-- nothing does, where none is the first
none_of : (c : ℕ → Cause) (count : ℕ) → Absent (first_of count c) → (k : ℕ) → k ≤ count → Past c k
unfolding first_of
none_of c count none zero l = λ j m. absurd (omega arith)
none_of c count none (suc k) l =
    let past : Past c k = none_of c count none k (omega arith) in
    before_or_last k past (λ n t x. none n t (k, (omega arith, past, x)))

-- W i is what refuses from test i on: that test, or else what comes behind it
module _ (W c : ℕ → Cause) (count : ℕ) (step : (i : ℕ) → i < count → (n t : ℕ) → W i n t ↔ (c i or_else W (suc i)) n t) where
  on_from : (left k n t : ℕ) → k + left ≡ count → Past c k → W k n t → (first_of count c or_else W count) n t
  unfolding ◌or_else◌ first_of
  on_from zero k n t e past w =
      let end : k ≡ count = omega arith in
      inr (λ m u x. past x.0 (omega (arith, x.1.0)) m u x.1.2, subst (λ (i : ℕ). W i n t) end w)
  on_from (suc left) k n t e past w =
      ⊎_elim (λ x. inl (k, (omega arith, past, x))) (λ x. on_from left (suc k) n t (omega arith) (before_or_last k past x.0) x.1)
      ((step k (omega arith) n t).0 w)

  back_from : (k n t : ℕ) → k ≤ count → Past c k → W k n t → W 0 n t
  unfolding ◌or_else◌
  back_from zero n t l past w = w
  back_from (suc k) n t l past w =
      back_from k n t (omega arith) (λ j m. past j (omega arith)) ((step k (omega arith) n t).1 (inr (past k (omega arith), w)))

  -- so it is the first that refuses, or else what comes behind them all
  pub in_a_row : (n t : ℕ) → W 0 n t ↔ (first_of count c or_else W count) n t
  unfolding ◌or_else◌ first_of
  in_a_row n t = (
    λ w. on_from count 0 n t (omega arith) (λ j l. absurd (omega arith)) w,
    ⊎_elim (λ x. back_from x.0 n t (omega (arith, x.1.0)) x.1.1 ((step x.0 x.1.0 n t).1 (inl x.1.2)))
        (λ x. back_from count n t (omega arith) (none_of c count x.0 count (omega arith)) x.1),
  )

-- ---- beside a buffer

-- a part of what is chosen is chosen from the parts
pub chosen : {A B : Type 0} (part : A → B) (b : Bool) (x y : A) → part (if b then x else y) ≡ (if b then part x else part y)
chosen part true x y = refl
chosen part false x y = refl

pub tested_lent : {A : Type 0} {c : Cause} (b : Bool) (n t : ℕ) (out : List ℕ) (o : Outcome A) → RefusedExactly c (if b then refusal n t else o.reply)
    → RefusedExactly c (if◌then◌else◌ {A = Outcome A} b (record { reply = refusal n t; buffer = out }) o).reply
tested_lent {A} b n t out o h = as_is (chosen (λ (x : Outcome A). x.reply) b _ o) h

pub going_on_lent : {A B : Type 0} {c : Cause} (r : Reply A) (g : A → Outcome B) (out : List ℕ) → RefusedExactly c (and_then r (λ a. (g a).reply))
    → RefusedExactly c (on_answer r g out).reply
going_on_lent (answer a) g out h = h
going_on_lent (refusal n t) g out h = h

-- ---- as C is told

-- from the number and what is told with it, where 0 stands for an answer
pub told_exactly : {A : Type 0} {c : Cause} (n t : ℕ) (a : A) (r : Reply A) → (if eqb n 0 then answer a else refusal n t) ≡ r → RefusedExactly c r → ToldExactly c n t
told_exactly {c = c} n t a r q h = go (eqb n 0) refl q
  where
    go : (b : Bool) → eqb n 0 ≡ b → (if b then answer a else refusal n t) ≡ r → ToldExactly c n t
    go true e q = record {
      given = λ m u x. not_answered a m u (sym (h.given m u x) ∙ sym q);
      only = λ z. let zero = eqb-true n 0 e in absurd (omega arith);
    }
    go false e q =
        let some : 0 < n = let no = eqb-false n 0 e in omega arith in record {
          given = λ m u x. let same = q ∙ h.given m u x in let number : n ≡ m = cc in (omega arith, number, cc);
          only = λ z. h.only n t (sym q);
        }
