-- What stands behind the stop does not matter.
use Rattle.std.specs.Prelude.{if◌then◌else◌}
use mathlib.Core.Path.{◌≡◌, refl, ap}
use mathlib.Core.List.{List, [], ◌∷◌, ◌++◌}
use Prim.Native.Nat.{ℕ, zero, suc, ◌+◌, ◌*◌}
use native.Mathlib.Omega.{arith}
use lib.Dec.{eqb}
use lib.ListN.{length}
use Rattle.definitions.specs.Unicode.{Encoding, latin1, utf8, utf16, before_nul, before_zero_unit, stopped, chars, text_from, text_of}

pub same_text : (e : Encoding) (s t : List ℕ) → stopped e s ≡ stopped e t → text_of e s ≡ text_of e t
unfolding text_of
same_text e s t h = ap (λ (l : List ℕ). text_from e (chars e 0 l)) h

-- a zero byte anywhere stops Latin-1 and UTF-8
pub behind_nul : (a b c : List ℕ) → before_nul (a ++ 0 ∷ b) ≡ before_nul (a ++ 0 ∷ c)
unfolding before_nul
behind_nul [] b c = refl
behind_nul (x ∷ a) b c = ap (λ (l : List ℕ). if eqb x 0 then [] else x ∷ l) (behind_nul a b c)

-- a zero unit stops UTF-16 at an even place
pub behind_zero_unit : (n : ℕ) (a b c : List ℕ) → length a ≡ 2 * n → before_zero_unit (a ++ 0 ∷ 0 ∷ b) ≡ before_zero_unit (a ++ 0 ∷ 0 ∷ c)
unfolding before_zero_unit
behind_zero_unit n [] b c h = refl
behind_zero_unit n (x ∷ []) b c h = absurd (omega arith)
behind_zero_unit zero (x ∷ y ∷ a) b c h = absurd (omega arith)
behind_zero_unit (suc n) (x ∷ y ∷ a) b c h =
    ap (λ (l : List ℕ). if eqb (x + y) 0 then [] else x ∷ y ∷ l) (behind_zero_unit n a b c (omega arith))

-- the zero that stops a text, and the places where it does
abbrev pub zero_of : Encoding → List ℕ
zero_of latin1 = 0 ∷ []
zero_of utf8 = 0 ∷ []
zero_of (utf16 o) = 0 ∷ 0 ∷ []

abbrev pub WholeUnits : Encoding → List ℕ → Type 0
WholeUnits latin1 a = Unit {0}
WholeUnits utf8 a = Unit {0}
WholeUnits (utf16 o) a = (n : ℕ) × (length a ≡ 2 * n)

pub text_behind : (e : Encoding) (a b c : List ℕ) → WholeUnits e a → text_of e (a ++ (zero_of e ++ b)) ≡ text_of e (a ++ (zero_of e ++ c))
unfolding stopped
text_behind latin1 a b c w = same_text latin1 _ _ (behind_nul a b c)
text_behind utf8 a b c w = same_text utf8 _ _ (behind_nul a b c)
text_behind (utf16 o) a b c w = same_text (utf16 o) _ _ (behind_zero_unit w.0 a b c w.1)
