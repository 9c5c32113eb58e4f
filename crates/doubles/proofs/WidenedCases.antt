-- The widened pattern of a 32-bit float whose sign is clear: 0, below the normal ones, a normal one, the infinity.
use mathlib.Core.Path.{◌≡◌, refl, sym, ap, ◌∙◌, subst}
use mathlib.Core.Bool.{false, not, cond}
use Prim.Native.Nat.{ℕ, suc, ◌+◌, ◌-◌, ◌*◌, ◌/◌, ◌%◌, ◌^◌, ◌≤◌, ◌<◌}
use native.Mathlib.Nat.{mul_assoc, mul-one, zero-add, mod-eq_of_lt, le_trans, le_of_eq, le_of_lt, lt_of_lt_of_le, mul-le-mul_right}
use native.Mathlib.Omega.{arith}
use lib.IntN.{pos}
use lib.Dec.{T, eqb, eqb→eq, not_T}
use lib.Pow.{pow-add, pow_pos, pow_mono, shl_lt}
use lib.Ieee.{Float, nan, inf, binary32, binary64, odd, of_fields, of_bits, to_bits}
use lib.Ieee.Bits.{cond_no}
use lib.Ieee.Exact.{odd_sign}
use Rattle.definitions.specs.Ieee754.{unit, double_of, widened}
use Rattle.doubles.proofs.Pattern.{rescale, written}
use Rattle.doubles.proofs.Whole.{dropped, kept, kept_le, kept_ge, dropped_ge, pattern_kept, of_positive}
use Rattle.doubles.proofs.Exact.{all_kept}
use Rattle.doubles.proofs.Widened.{fields_positive}

pub zero_widened : widened 0 ≡ 0
unfolding of_bits to_bits
zero_widened = refl

pub infinity_widened : widened 0x7f80_0000 ≡ 0x7ff0_0000_0000_0000
unfolding of_bits to_bits
infinity_widened = refl

subnormal_fields : (t : ℕ) → of_fields binary32 false 0 t ≡ odd 24 false t 0 149
unfolding of_fields
subnormal_fields t = refl

normal_fields : (x t : ℕ) → suc x < 255 → of_fields binary32 false (suc x) t ≡ odd 24 false (2 ^ 23 + t) x 149
unfolding of_fields
normal_fields x t h = cond_no (eqb (suc x) 255) (cond (eqb t 0) (inf false) nan) (odd 24 false (2 ^ 23 + t) x 149) finite
  where
    other : suc x ≡ 255 → ⊥
    other e = omega arith

    finite : T (not (eqb (suc x) 255))
    finite = not_T (eqb (suc x) 255) (λ u. other (eqb→eq (suc x) 255 u))

-- q * 2^x of the smallest 32-bit floats, 2^-149 each, as m * 2^k of the smallest doubles
odd_widened : (q x m k : ℕ) → 2 ^ 52 ≤ m → m ≤ 2 ^ 53 → m * 2 ^ k * 2 ^ 149 ≡ q * 2 ^ x * unit
    → to_bits binary64 (odd 24 false q x 149) ≡ k * 2 ^ 52 + m
odd_widened q x m k lo hi e =
    let v : Float = odd 24 false q x 149 in
    written v false m k lo hi (rescale v false (q * 2 ^ x) (2 ^ 149) (m * 2 ^ k) unit (pow_pos 149) e (odd_sign 24 false q x 149))
    ∙ zero-add (k * 2 ^ 52 + m)

scaled : (q i j x : ℕ) → i + j + 149 ≡ x + 1074 → q * 2 ^ i * 2 ^ j * 2 ^ 149 ≡ q * 2 ^ x * unit
scaled q i j x exponents =
    ap (λ (y : ℕ). y * 2 ^ 149) (mul_assoc q (2 ^ i) (2 ^ j) ∙ ap (λ (y : ℕ). q * y) (sym (pow-add 2 i j)))
    ∙ mul_assoc q (2 ^ (i + j)) (2 ^ 149)
    ∙ ap (λ (y : ℕ). q * y) (sym (pow-add 2 (i + j) 149) ∙ ap (λ (y : ℕ). 2 ^ y) exponents ∙ pow-add 2 x 1074)
    ∙ sym (mul_assoc q (2 ^ x) unit)

subnormal_value : (b : ℕ) → b < 2 ^ 23 → of_bits binary32 b ≡ odd 24 false b 0 149
subnormal_value b h =
    let field : b / 2 ^ 23 ≡ 0 = omega arith in
    fields_positive b (omega arith)
    ∙ ap (λ (x : ℕ). of_fields binary32 false x (b % 2 ^ 23)) field
    ∙ ap (λ (t : ℕ). of_fields binary32 false 0 t) (mod-eq_of_lt h)
    ∙ subnormal_fields b

-- a subnormal one is the number b with an exponent that is 149 lower
pub subnormal_widened : (b : ℕ) → 0 < b → b < 2 ^ 23 → widened b + 149 * 2 ^ 52 ≡ double_of (pos b)
subnormal_widened b p h =
    let q : ℕ = kept (b * unit) in
    let k : ℕ = dropped (b * unit) in
    let deep : 1022 ≤ k = dropped_ge b p in
    let some : 0 < k = omega arith in
    let back : k - 149 + 149 ≡ k = omega arith in
    let units : q * 2 ^ (k - 149) * 2 ^ 149 ≡ b * 2 ^ 0 * unit =
    mul_assoc q (2 ^ (k - 149)) (2 ^ 149)
    ∙ ap (λ (x : ℕ). q * x) (sym (pow-add 2 (k - 149) 149) ∙ ap (λ (x : ℕ). 2 ^ x) back)
    ∙ all_kept b (omega arith)
    ∙ ap (λ (x : ℕ). x * unit) (sym (mul-one b)) in
    let low : widened b ≡ (k - 149) * 2 ^ 52 + q =
    ap (to_bits binary64) (subnormal_value b h) ∙ odd_widened b 0 q (k - 149) (kept_ge (b * unit) some) (kept_le (b * unit)) units in
    let high : double_of (pos b) ≡ 0 + (k * 2 ^ 52 + q) = of_positive b ∙ pattern_kept false b p (omega arith) in
    sum (widened b) (double_of (pos b)) k q deep low high
  where
    sum : (w d k q : ℕ) → 1022 ≤ k → w ≡ (k - 149) * 2 ^ 52 + q → d ≡ 0 + (k * 2 ^ 52 + q) → w + 149 * 2 ^ 52 ≡ d
    sum w d k q l e g = omega arith

-- the same by the place h of its highest set bit, which becomes the leading one of the significand
pub subnormal_shifted : (b h : ℕ) → h < 23 → 2 ^ h ≤ b → b < 2 ^ suc h
    → (widened b ≡ (873 + h) * 2 ^ 52 + b * 2 ^ (52 - h)) × (2 ^ 52 ≤ b * 2 ^ (52 - h)) × (b * 2 ^ (52 - h) < 2 ^ 53)
subnormal_shifted b h l lo hi =
    let whole : 52 ≡ h + (52 - h) = omega arith in
    let next : suc h + (52 - h) ≡ 53 = omega arith in
    let small : b < 2 ^ 23 = lt_of_lt_of_le hi (pow_mono l) in
    let least : 2 ^ 52 ≤ b * 2 ^ (52 - h) =
    le_trans (le_of_eq (ap (λ (x : ℕ). 2 ^ x) whole ∙ pow-add 2 h (52 - h))) (mul-le-mul_right (2 ^ (52 - h)) lo) in
    let most : b * 2 ^ (52 - h) < 2 ^ 53 = subst (λ (x : ℕ). b * 2 ^ (52 - h) < 2 ^ x) next (shl_lt (suc h) (52 - h) hi) in (
      ap (to_bits binary64) (subnormal_value b small)
          ∙ odd_widened b 0 (b * 2 ^ (52 - h)) (873 + h) least (le_of_lt most) (scaled b (52 - h) (873 + h) 0 (omega arith)),
      least,
      most,
    )

-- a normal one has 29 digits more, and a field that counts from 896 lower
pub normal_widened : (b : ℕ) → 2 ^ 23 ≤ b → b < 0x7f80_0000 → widened b ≡ b * 2 ^ 29 + 896 * 2 ^ 52
normal_widened b lo hi =
    let t : ℕ = b % 2 ^ 23 in
    let x : ℕ = b / 2 ^ 23 - 1 in
    let q : ℕ = 2 ^ 23 + t in
    let field : b / 2 ^ 23 ≡ suc x = omega arith in
    let small : suc x < 255 = omega arith in
    let least : 2 ^ 52 ≤ q * 2 ^ 29 = omega arith in
    let most : q * 2 ^ 29 ≤ 2 ^ 53 = omega arith in
    let sum : (x + 896) * 2 ^ 52 + q * 2 ^ 29 ≡ b * 2 ^ 29 + 896 * 2 ^ 52 = omega arith in
    let is : of_bits binary32 b ≡ odd 24 false q x 149 =
    fields_positive b (omega arith) ∙ ap (λ (y : ℕ). of_fields binary32 false y t) field ∙ normal_fields x t small in
    ap (to_bits binary64) is ∙ odd_widened q x (q * 2 ^ 29) (x + 896) least most (scaled q 29 (x + 896) x (omega arith)) ∙ sum
