-- Tests, as the code makes them and as the definitions do.
use mathlib.Core.Path.{◌≡◌, refl, sym}
use mathlib.Core.Logic.{◌⊎◌, inl, inr}
use mathlib.Core.Bool.{Bool, true, false, not, ◌||◌}
use Prim.Native.Nat.{ℕ, ◌+◌, ◌-◌, ◌≤◌, ◌<◌}
use native.Mathlib.Omega.{arith}
use lib.Dec.{ltb, eqb}
use borrow.Author.Tests.{lt-ltb, le-ltb, ltb-true, ltb-false, eqb-true}

-- a test by its two outcomes
ltb_is : (a b : ℕ) (t : Bool) → (t ≡ true → a < b) → (t ≡ false → b ≤ a) → ltb a b ≡ t
ltb_is a b true f g = lt-ltb a b (f refl)
ltb_is a b false f g = le-ltb a b (g refl)

-- an end tested by subtraction is the end tested by the sum
pub outside : (length skipped offset span : ℕ) → skipped ≤ length → offset ≤ length - skipped
    → ltb (length - skipped - offset) span ≡ ltb length (skipped + offset + span)
outside length skipped offset span h l =
    ltb_is (length - skipped - offset) span (ltb length (skipped + offset + span))
    (λ e. (let x : length < skipped + offset + span = ltb-true length (skipped + offset + span) e in omega arith))
    (λ e. (let x : skipped + offset + span ≤ length = ltb-false length (skipped + offset + span) e in omega arith))

-- one of two tests holds
either : (a b : Bool) → not (a || b) ≡ false → (a ≡ true) ⊎ (b ≡ true)
either true b e = inl refl
either false true e = inr refl
either false false e = inl (sym e)

-- a width that is 32 or 64
pub float_width : (count : ℕ) → not (eqb count 32 || eqb count 64) ≡ false → (count ≡ 32) ⊎ (count ≡ 64)
float_width count e = elim (either (eqb count 32) (eqb count 64) e) [
  | inl p ↦ inl (eqb-true count 32 p)
  | inr p ↦ inr (eqb-true count 64 p)
]
