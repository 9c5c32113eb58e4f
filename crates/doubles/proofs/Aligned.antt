-- The double of a whole number as a program makes it, which knows the place h of the highest set bit of n and shifts that bit
-- to the top of a word: `double_aligned`.
use mathlib.Core.Path.{◌≡◌, sym, ap, ◌∙◌, subst}
use mathlib.Core.Bool.{false}
use Prim.Native.Nat.{ℕ, suc, ◌+◌, ◌-◌, ◌*◌, ◌/◌, ◌%◌, ◌^◌, ◌≤◌, ◌<◌, compare}
use native.Mathlib.Nat.{le_trans, le_of_eq, lt_of_lt_of_le, le-div_iff_mul-le, mul-le-mul_right, mul_assoc, zero-add, mod-eq_of_lt}
use native.Mathlib.Omega.{arith}
use lib.IntN.{pos}
use lib.Pow.{pow-add, pow_pos, shl_lt, shr_lt}
use lib.Ieee.Fits.{nearest-le}
use lib.Ieee.Nearest.{closest, closest_same, nearest-ge}
use Rattle.definitions.specs.Ieee754.{unit, double_of}
use Rattle.doubles.proofs.Pattern.{size_is}
use Rattle.doubles.proofs.Whole.{dropped, kept, of_positive, pattern_kept}

module _ (n h : ℕ) (small : h < 64) (lo : 2 ^ h ≤ n) (hi : n < 2 ^ (h + 1)) where
  aligned_ge : 2 ^ 63 ≤ n * 2 ^ (63 - h)
  aligned_ge =
      let all : 63 ≡ h + (63 - h) = omega arith in
      le_trans (le_of_eq (ap (λ (x : ℕ). 2 ^ x) all ∙ pow-add 2 h (63 - h))) (mul-le-mul_right (2 ^ (63 - h)) lo)

  aligned_lt : n * 2 ^ (63 - h) < 2 ^ 64
  aligned_lt =
      let all : h + 1 + (63 - h) ≡ 64 = omega arith in
      subst (λ (x : ℕ). n * 2 ^ (63 - h) < 2 ^ x) all (shl_lt (h + 1) (63 - h) hi)

  dropped_aligned : dropped (n * unit) ≡ 1022 + h
  dropped_aligned =
      let next : h + 1 + 1074 ≡ suc (h + 1074) = omega arith in
      let less : suc (h + 1074) - 53 ≡ 1022 + h = omega arith in
      let least : 2 ^ (h + 1074) ≤ n * unit = le_trans (le_of_eq (pow-add 2 h 1074)) (mul-le-mul_right unit lo) in
      let most : n * unit < 2 ^ suc (h + 1074) = subst (λ (x : ℕ). n * unit < 2 ^ x) next (shl_lt (h + 1) 1074 hi) in
      ap (λ (x : ℕ). x - 53) (size_is (h + 1074) (n * unit) least most) ∙ less

  kept_aligned : kept (n * unit) ≡ closest (n * 2 ^ (63 - h)) (2 ^ 11)
  kept_aligned =
      let k : ℕ = 1022 + h in
      let all : 1074 + 11 ≡ 63 - h + k = omega arith in
      ap (λ (x : ℕ). closest (n * unit) (2 ^ x)) dropped_aligned
      ∙ closest_same (n * unit) (2 ^ k) (n * 2 ^ (63 - h)) (2 ^ 11) (pow_pos k) (pow_pos 11)
      (mul_assoc n unit (2 ^ 11)
      ∙ ap (λ (x : ℕ). n * x) (sym (pow-add 2 1074 11) ∙ ap (λ (x : ℕ). 2 ^ x) all ∙ pow-add 2 (63 - h) k)
      ∙ sym (mul_assoc n (2 ^ (63 - h)) (2 ^ k)))

  -- what is made of the significand q that was rounded from there, where no shift loses a bit
  module _ (q : ℕ) (rounded : q ≡ closest (n * 2 ^ (63 - h) % 2 ^ 64) (2 ^ 11)) where
    q_aligned : q ≡ closest (n * 2 ^ (63 - h)) (2 ^ 11)
    q_aligned = rounded ∙ ap (λ (x : ℕ). closest x (2 ^ 11)) (mod-eq_of_lt aligned_lt)

    pub significand_ge : 2 ^ 52 ≤ q
    significand_ge =
        let m : ℕ = n * 2 ^ (63 - h) in
        le_trans ((le-div_iff_mul-le (pow_pos 11)).1 (le_trans (le_of_eq (sym (pow-add 2 52 11))) aligned_ge))
        (le_trans (nearest-ge (m / 2 ^ 11) (compare (m % 2 ^ 11 * 2) (2 ^ 11))) (le_of_eq (sym q_aligned)))

    pub significand_le : q ≤ 2 ^ 53
    significand_le =
        let m : ℕ = n * 2 ^ (63 - h) in
        le_trans (le_of_eq q_aligned)
        (le_trans (nearest-le (m / 2 ^ 11) (compare (m % 2 ^ 11 * 2) (2 ^ 11))) (shr_lt 53 11 aligned_lt))

    pub double_aligned : n < 2 ^ 64 → (1023 + h) * 2 ^ 52 % 2 ^ 64 + (q - 2 ^ 52) ≡ double_of (pos n)
    double_aligned whole =
        let field : (1023 + h) * 2 ^ 52 % 2 ^ 64 + (q - 2 ^ 52) ≡ (1022 + h) * 2 ^ 52 + q = omega (arith, significand_ge) in
        field
        ∙ ap (λ (x : ℕ). (1022 + h) * 2 ^ 52 + x) (q_aligned ∙ sym kept_aligned)
        ∙ ap (λ (x : ℕ). x * 2 ^ 52 + kept (n * unit)) (sym dropped_aligned)
        ∙ sym (zero-add (dropped (n * unit) * 2 ^ 52 + kept (n * unit)))
        ∙ sym (pattern_kept false n (lt_of_lt_of_le (pow_pos h) lo) whole)
        ∙ sym (of_positive n)
