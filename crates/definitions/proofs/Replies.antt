-- The two ways through a test of a size, what an answer is, and when a meaning is one-to-one.
use mathlib.Core.Path.{◌≡◌, refl, sym, ap, ◌∙◌}
use mathlib.Core.Logic.{◌⊎◌, inl, inr}
use mathlib.Core.Bool.{Bool, true, false, ◌&&◌}
use mathlib.Core.List.{List, ◌++◌}
use Prim.Native.Nat.{ℕ, ◌≤◌, ◌<◌}
use native.Mathlib.Omega.{arith}
use lib.ListN.{length, drop}
use lib.Seq.{sets}
use lib.Dec.{leb}
use borrow.Author.Tests.{lt-ltb, le-ltb, leb-true, leb-false}
use Rattle.definitions.specs.Reply.{Reply, answer, refusal, told, needing, writing}
use Rattle.definitions.proofs.Stores.{sets_front}

-- one of two orders holds
pub le_or_lt : (a b : ℕ) → (a ≤ b) ⊎ (b < a)
le_or_lt a b = go (leb a b) refl
  where
    go : (t : Bool) → leb a b ≡ t → (a ≤ b) ⊎ (b < a)
    go true e = inl (leb-true a b e)
    go false e = inr (leb-false a b e)

-- an answer is one answer
pub answered : {A : Type 0} {a b : A} → answer a ≡ answer b → a ≡ b
answered h = cc

-- and no refusal
pub not_answered : {A B : Type 0} (a : A) (n t : ℕ) → refusal n t ≡ answer a → B
not_answered a n t h = let z : ◌≡◌ {A = ℕ} 0 1 = cc in let no : ⊥ = omega arith in absurd no

-- a size that fits in 64 bits is told as it is
pub told_small : (n : ℕ) → n < 18446744073709551616 → told n ≡ n
told_small n h = omega arith

module _ {A : Type 0} (s : List ℕ) (n : ℕ) (r : Reply A) where
  pub needing_short : length s < n → needing s n r ≡ refusal 2 (told n)
  needing_short h = rw (lt-ltb _ _ h)

  pub needing_met : n ≤ length s → needing s n r ≡ r
  needing_met h = rw (le-ltb _ _ h)

module _ {A : Type 0} (out bytes : List ℕ) (a : A) where
  -- where the bytes need n, which is told
  pub writing_short : (n : ℕ) → n ≡ length bytes → n < 18446744073709551616 → length out < n
      → record { reply = refusal 6 n; buffer = out } ≡ writing out bytes a
  writing_short n e small h =
      let t : told (length bytes) ≡ n = omega arith in
      let l : length out < length bytes = omega arith in
      rw (lt-ltb _ _ l, t)

  -- where they were stored from the start on
  pub writing_met : (left : List ℕ) → length bytes ≤ length out → left ≡ sets out 0 bytes
      → record { reply = answer a; buffer = left } ≡ writing out bytes a
  writing_met left h e =
      let all : left ≡ bytes ++ drop (length bytes) out = e ∙ sets_front out bytes h in
      rw (le-ltb _ _ h, all)

-- a conjunction's parts
pub both : (p q : Bool) → p && q ≡ true → (p ≡ true) × (q ≡ true)
both true q h = (refl, h)
both false q h = (h, cc)

-- what has a way back is one-to-one
pub one_by : {A B : Type 0} (f : A → B) (g : B → A) → ((a : A) → g (f a) ≡ a) → (a b : A) → f a ≡ f b → a ≡ b
one_by f g back a b e = sym (back a) ∙ ap g e ∙ back b
