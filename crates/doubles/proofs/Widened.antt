-- A 32-bit float's pattern widened: its value is kept (`widening_exact`), any NaN becomes one NaN (`nan_widened`), and the
-- sign stands by itself (`sign_widened`).
use mathlib.Core.Path.{◌≡◌, refl, sym, ap, ◌∙◌, subst}
use mathlib.Core.Bool.{Bool, true, false, not, ◌&&◌, cond}
use Prim.Native.Nat.{ℕ, ◌+◌, ◌/◌, ◌%◌, ◌^◌, ◌≤◌, ◌<◌}
use native.Mathlib.Nat.{mod-eq_of_lt}
use native.Mathlib.Omega.{arith}
use lib.Dec.{T, eqb, leb, le→leb}
use lib.Arith.{lt→nleb}
use lib.Bits.{bit_and, and_mask}
use lib.Pow.{mod-mod-pow}
use lib.Ieee.{Float, nan, binary32, binary64, is_nan, fits, of_fields, of_bits, to_bits}
use lib.Ieee as ieee
use lib.Ieee.Fits.{fits_widens}
use lib.Ieee.Bits.{is_true, is_false, of_bits-to_bits, of_bits-fits, to_bits-lt}
use Rattle.definitions.specs.Ieee754.{nan_pattern, widened}
use Rattle.doubles.proofs.Pattern.{sign_bit}
use Rattle.doubles.proofs.SignBit.{sign_bit_law, without_sign_bit, fields_opposite}
use Rattle.doubles.proofs.Nan.{is_nan_law, nan_above, no_nan_below}

-- ---- nothing is lost
held : (b : ℕ) → T (fits binary64 (of_bits binary32 b))
held b = fits_widens (of_bits binary32 b) (of_bits-fits binary32 b)

pub widening_exact : (b : ℕ) → of_bits binary64 (widened b) ≡ of_bits binary32 b
widening_exact b = of_bits-to_bits binary64 (of_bits binary32 b) (held b)

nan_pattern_law : to_bits binary64 nan ≡ nan_pattern
unfolding to_bits
nan_pattern_law = refl

pub nan_widened : (b : ℕ) → is_nan (of_bits binary32 b) ≡ true → widened b ≡ nan_pattern
nan_widened b h = ap (to_bits binary64) (is_nan_law (of_bits binary32 b) h) ∙ nan_pattern_law

-- ---- the sign
fields_of_law : (b : ℕ) → of_bits binary32 b ≡ of_fields binary32 (leb (2 ^ 31) b) (b % 2 ^ 31 / 2 ^ 23) (b % 2 ^ 23)
unfolding of_bits
fields_of_law b = refl

pub fields_positive : (b : ℕ) → b < 2 ^ 31 → of_bits binary32 b ≡ of_fields binary32 false (b / 2 ^ 23) (b % 2 ^ 23)
fields_positive b h =
    fields_of_law b
    ∙ ap (λ (s : Bool). of_fields binary32 s (b % 2 ^ 31 / 2 ^ 23) (b % 2 ^ 23)) (is_false (leb (2 ^ 31) b) (lt→nleb (2 ^ 31) b h))
    ∙ ap (λ (x : ℕ). of_fields binary32 false (x / 2 ^ 23) (b % 2 ^ 23)) (mod-eq_of_lt h)

-- what `nan_bits` tests
no_nan_fields : (b : ℕ) → T (not (ieee.nan_bits binary32 b))
    → T (not (eqb (b % 2 ^ 31 / 2 ^ 23) 255 && not (eqb (b % 2 ^ 23) 0)))
unfolding ieee.nan_bits
no_nan_fields b t = t

pick : (s : Bool) (x t : ℕ) → of_fields binary32 s x t ≡ cond s (of_fields binary32 true x t) (of_fields binary32 false x t)
pick true x t = refl
pick false x t = refl

pub sign_widened : (b : ℕ) → b % 2 ^ 31 ≤ 0x7f80_0000 → widened b ≡ sign_bit (leb (2 ^ 31) b) + widened (b % 2 ^ 31)
sign_widened b h =
    let s : Bool = leb (2 ^ 31) b in
    let x : ℕ = b % 2 ^ 31 / 2 ^ 23 in
    let small : b % 2 ^ 31 < 2 ^ 31 = omega arith in
    let t : ℕ = b % 2 ^ 23 in
    let same : of_bits binary32 (b % 2 ^ 31) ≡ of_fields binary32 false x t =
    fields_positive (b % 2 ^ 31) small ∙ ap (λ (y : ℕ). of_fields binary32 false x y) (mod-mod-pow b 8 23) in
    ap (to_bits binary64) (fields_of_law b ∙ pick s x t)
    ∙ sign_bit_law _ _ (fields_opposite x t (no_nan_fields b (no_nan_below binary32 b h))) s
    ∙ ap (λ (v : Float). sign_bit s + to_bits binary64 v) (sym same)

-- with the sign's bit it still has 64 digits
pub widened_clear : (b : ℕ) → b ≤ 0x7f80_0000 → widened b < 2 ^ 63
widened_clear b h =
    let n : ℕ = 2 ^ 31 + b in
    let back : n % 2 ^ 31 ≡ b = omega arith in
    let low : n % 2 ^ 31 ≤ 0x7f80_0000 = omega arith in
    let set : leb (2 ^ 31) n ≡ true = is_true _ (le→leb (2 ^ 31) n (omega arith)) in
    let both : widened n ≡ 2 ^ 63 + widened b =
    sign_widened n low ∙ ap (λ (s : Bool). sign_bit s + widened (n % 2 ^ 31)) set ∙ ap (λ (x : ℕ). 2 ^ 63 + widened x) back in
    without_sign_bit (widened b) (subst (λ (x : ℕ). x < 2 ^ 64) both (to_bits-lt binary64 (of_bits binary32 n) (held n)))

-- ---- as a program makes it, which takes the sign off by a mask
pub masked_nan : (b : ℕ) → 0x7f80_0000 < bit_and b 0x7fff_ffff → 0x7ff8_0000_0000_0000 ≡ widened b
masked_nan b h =
    let above : 0x7f80_0000 < b % 2 ^ 31 = subst (λ (x : ℕ). 0x7f80_0000 < x) (and_mask b 31) h in
    sym (ap (to_bits binary64) (nan_above binary32 b above) ∙ nan_pattern_law)

pub masked_with_sign : (b p r : ℕ) → bit_and b 0x7fff_ffff ≤ 0x7f80_0000
    → p ≡ widened (bit_and b 0x7fff_ffff) → r ≡ sign_bit (leb (2 ^ 31) b) + p → r ≡ widened b
masked_with_sign b p r h e f =
    let m : bit_and b 0x7fff_ffff ≡ b % 2 ^ 31 = and_mask b 31 in
    let low : b % 2 ^ 31 ≤ 0x7f80_0000 = subst (λ (x : ℕ). x ≤ 0x7f80_0000) m h in
    f ∙ ap (λ (x : ℕ). sign_bit (leb (2 ^ 31) b) + x) (e ∙ ap widened m) ∙ sym (sign_widened b low)
