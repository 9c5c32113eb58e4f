-- When a reply is a refusal, and which: one shape for all that is refused.
use Rattle.std.specs.Prelude.{◌≡◌, ◌⊎◌, ℕ, ◌<◌}
use Rattle.definitions.specs.Reply.{Reply, refusal}

-- when the refusal n, telling t, is due
abbrev pub Cause : Type 1
Cause = ℕ → ℕ → Type 0

-- this number, telling this, where P holds
unfoldable pub refused : ℕ → ℕ → Type 0 → Cause
refused number tells P n t = P × (n ≡ number) × (t ≡ tells)

-- no refusal is due
abbrev pub Absent : Cause → Type 0
Absent c = (n t : ℕ) → c n t → ⊥

infixr 5 ◌or_else◌
-- tests in turn: the first, or the second where the first refuses nothing
unfoldable pub ◌or_else◌ : Cause → Cause → Cause
◌or_else◌ c d n t = c n t ⊎ (Absent c × d n t)

-- so many tests in turn: the first that refuses, which is test k where none before it does
unfoldable pub first_of : ℕ → (ℕ → Cause) → Cause
first_of count c n t = (k : ℕ) × ((k < count) × ((j : ℕ) → j < k → Absent (c j)) × c k n t)

-- a test that is made where P holds
unfoldable pub provided : Type 0 → Cause → Cause
provided P c n t = P × c n t

-- r is the refusal that is due, and no other; so where none is due there is an answer
pub record RefusedExactly {A : Type 0} (c : Cause) (r : Reply A) : Type 0 where
  pub given : (n t : ℕ) → c n t → r ≡ refusal n t
  pub only : (n t : ℕ) → r ≡ refusal n t → c n t

-- the same of what a struct for C tells, where a reply of 0 is an answer
pub record ToldExactly (c : Cause) (reply told : ℕ) : Type 0 where
  pub given : (n t : ℕ) → c n t → (0 < n) × (reply ≡ n) × (told ≡ t)
  pub only : 0 < reply → c reply told
