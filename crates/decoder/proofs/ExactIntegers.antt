-- An integer of at most 53 bits is a double as it is.
use Rattle.std.specs.Prelude.{if◌then◌else◌}
use mathlib.Core.Path.{◌≡◌, refl, sym, ◌∙◌, subst}
use mathlib.Core.Bool.{Bool, true, false}
use Prim.Native.Nat.{ℕ, suc, ◌-◌, ◌^◌, ◌≤◌, ◌<◌}
use native.Mathlib.Omega.{arith}
use lib.IntN.{ℤ, pos, negsuc}
use lib.Dec.{T, ltb}
use lib.Pow.{pow_mono}
use lib.Ieee.{binary64, in_float}
use mir.Syntax.{w64}
use mir.Val.{SFits, to_z, of_z}
use mir.ValLaws.{to_z-of_z}
use borrow.Author.Tests.{le-leb, lt-ltb}
use Rattle.definitions.specs.Bytes.{twos_complement}

pub unsigned_small : (count x : ℕ) → count ≤ 53 → x < 2 ^ count → x < 2 ^ 63
unsigned_small count x hi h =
    let m : 2 ^ count ≤ 2 ^ 53 = pow_mono {i = count} {j = 53} hi in
    omega arith

positive_exact : (count x : ℕ) → count ≤ 53 → x < 2 ^ count → T (in_float binary64 (pos x))
unfolding in_float
positive_exact count x hi h =
    let m : 2 ^ count ≤ 2 ^ 53 = pow_mono {i = count} {j = 53} hi in
    let l : x ≤ 2 ^ 53 = omega arith in
    subst T (sym (le-leb x (2 ^ 53) l)) tt

-- the bits of a positive number are the number
pub unsigned_back : (count x : ℕ) → count ≤ 53 → x < 2 ^ count → to_z w64 x ≡ pos x
unsigned_back count x hi h = to_z-of_z w64 (pos x) (record { sfits = unsigned_small count x hi h })

pub unsigned_exact : (count x : ℕ) → count ≤ 53 → x < 2 ^ count → T (in_float binary64 (to_z w64 x))
unsigned_exact count x hi h = rw (unsigned_back count x hi h) (positive_exact count x hi h)

in_half : (count x : ℕ) (t : Bool) → ltb x (2 ^ (count - 1)) ≡ t → 1 ≤ count → count ≤ 53 → x < 2 ^ count
    → T (in_float binary64 (if t then pos x else negsuc (2 ^ count - suc x)))
unfolding in_float
in_half count x true e lo hi h = positive_exact count x hi h
in_half count x false e lo hi h =
    let m : 2 ^ count ≤ 2 ^ 53 = pow_mono {i = count} {j = 53} hi in
    let l : 2 ^ count - suc x < 2 ^ 53 = omega arith in
    subst T (sym (lt-ltb (2 ^ count - suc x) (2 ^ 53) l)) tt

module _ (count x : ℕ) {z : ℤ} (e : z ≡ twos_complement count x) where
  -- as the machine reads it back from its bits
  pub read_back : SFits w64 z → to_z w64 (of_z w64 z) ≡ twos_complement count x
  read_back f = to_z-of_z w64 z f ∙ e

  pub signed_exact : SFits w64 z → 1 ≤ count → count ≤ 53 → x < 2 ^ count → T (in_float binary64 (to_z w64 (of_z w64 z)))
  signed_exact f lo hi h = rw (read_back f) (in_half count x (ltb x (2 ^ (count - 1))) refl lo hi h)
