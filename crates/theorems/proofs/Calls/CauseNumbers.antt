-- Which numbers the refusals of a cause have: of tests in turn those of each test.
use mathlib.Core.Path.{◌≡◌}
use mathlib.Core.Logic.{⊎_elim}
use mathlib.Core.Bool.{Bool, true}
use Prim.Native.Nat.{ℕ}
use Rattle.theorems.specs.Refused.{Cause, refused, ◌or_else◌, first_of, provided}

-- each is one that the test takes
abbrev pub Within : (ℕ → Bool) → Cause → Type 0
Within test c = (n t : ℕ) → c n t → test n ≡ true

module _ (test : ℕ → Bool) where
  pub within_one : (number tells : ℕ) (P : Type 0) → test number ≡ true → Within test (refused number tells P)
  unfolding refused
  within_one number tells P h n t x = rw x.1 h

  pub within_else : (c d : Cause) → Within test c → Within test d → Within test (c or_else d)
  unfolding ◌or_else◌
  within_else c d h i n t = ⊎_elim (h n t) (λ x. i n t x.1)

  pub within_first : (count : ℕ) (c : ℕ → Cause) → ((k : ℕ) → Within test (c k)) → Within test (first_of count c)
  unfolding first_of
  within_first count c h n t x = h x.0 n t x.1.2

  pub within_provided : (P : Type 0) (c : Cause) → Within test c → Within test (provided P c)
  unfolding provided
  within_provided P c h n t x = h n t x.1
