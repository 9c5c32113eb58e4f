-- What an answer tells of the tests before it.
use Rattle.std.specs.Prelude.{if◌then◌else◌}
use mathlib.Core.Path.{◌≡◌, refl, sym}
use mathlib.Core.Bool.{Bool, true, false}
use Prim.Native.Nat.{ℕ}
use Rattle.definitions.specs.Reply.{Reply, answer, refusal, and_then}
use Rattle.definitions.proofs.Replies.{not_answered}
pub use Rattle.definitions.proofs.Replies.{answered}

-- no refusal came before
pub passed : {A : Type 0} (t : Bool) (n m : ℕ) (r : Reply A) (a : A) → (if t then refusal n m else r) ≡ answer a → (t ≡ false) × (r ≡ answer a)
passed true n m r a h = not_answered a n m h
passed false n m r a h = (refl, h)

pub followed : {A B : Type 0} (r : Reply A) (g : A → Reply B) (b : B) → and_then r g ≡ answer b → (a : A) × (r ≡ answer a) × (g a ≡ answer b)
followed (answer a) g b h = (a, refl, h)
followed (refusal n m) g b h = not_answered b n m h

-- a refusal came first, where an answer would be an answer
pub unfollowed : {A B : Type 0} (r : Reply A) (g : A → B) (n m : ℕ) → and_then r (λ a. answer (g a)) ≡ refusal n m → r ≡ refusal n m
unfollowed (answer a) g n m h = not_answered (g a) n m (sym h)
unfollowed (refusal k t) g n m h = cc
