-- What a test that came out true tells.
use mathlib.Core.Path.{◌≡◌, refl}
use mathlib.Core.List.{List}
use mathlib.Core.Bool.{Bool, true, false}
use Prim.Native.Nat.{ℕ, ◌<◌}
use native.Mathlib.Omega.{arith}
use borrow.Author.Tests.{ltb-true}
use lib.Dec.{ltb}
use lib.ListN.{length, get_or}
use Rattle.definitions.specs.Unicode.{Encoding, Char as Character, scalar, damage, scalar_if, char_of, inside, char_at}

pub damage_no : (v m : ℕ) → damage ≡ scalar v m → ⊥
damage_no v m h = let z : ◌≡◌ {A = ℕ} 0 1 = cc in omega arith

-- a scalar value came out, so the test was true and it is the tested one
pub scalar_if_law : (t : Bool) (x k v m : ℕ) → scalar_if t x k ≡ scalar v m → (t ≡ true) × (v ≡ x) × (m ≡ k)
scalar_if_law true x k v m h = (refl, cc, cc)
scalar_if_law false x k v m h = absurd (damage_no v m h)

pub of_inside : (n : ℕ) (r : Character) (v m : ℕ) → inside n r ≡ scalar v m → (r ≡ scalar v m) × (m < n)
of_inside n (scalar x k) v m h =
    let f = scalar_if_law (ltb k n) x k v m h in
    let l : k < n = ltb-true _ _ f.0 in
    (cc, omega (arith, f.2))
of_inside n damage v m h = absurd (damage_no v m h)

-- the character's own bytes say so, and it ends within the text
pub char_from : (e : Encoding) (l : List ℕ) (v m : ℕ) → char_at e l ≡ scalar v m
    → (char_of e (get_or l 0 0) (get_or l 1 0) (get_or l 2 0) (get_or l 3 0) ≡ scalar v m) × (m < length l)
unfolding char_at
char_from e l v m h = of_inside (length l) (char_of e (get_or l 0 0) (get_or l 1 0) (get_or l 2 0) (get_or l 3 0)) v m h

pub inside_back : (e : Encoding) (l : List ℕ) (v m : ℕ) → char_at e l ≡ scalar v m → m < length l
inside_back e l v m h = (char_from e l v m h).1
