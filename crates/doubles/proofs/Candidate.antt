-- The one 32-bit pattern, its sign clear and no NaN's, that can widen to the pattern m: one law for each range of m.
use mathlib.Core.Path.{◌≡◌, sym, ap, ap₂, ◌∙◌}
use mathlib.Core.Logic.{◌⊎◌, inl, inr}
use Prim.Native.Nat.{ℕ, ◌+◌, ◌-◌, ◌*◌, ◌/◌, ◌%◌, ◌^◌, ◌≤◌, ◌<◌}
use native.Mathlib.Nat.{le_trans, le_of_eq, lt_of_le_of_lt, eq-zero-or-pos, eq-or-lt_of_le}
use native.Mathlib.Omega.{arith}
use lib.Count.{leading_top}
use lib.Pow.{shl-shr, shr-shr, shr_le}
use Rattle.definitions.specs.Ieee754.{widened}
use Rattle.doubles.specs.Meaning.{OnlyOne}
use Rattle.definitions.proofs.Replies.{le_or_lt}
use Rattle.doubles.proofs.WidenedCases.{zero_widened, infinity_widened, subnormal_shifted, normal_widened}

-- m is what a pattern x below the normal ones widens to
record FromSubnormal (m x : ℕ) : Type 0 where
  least : 874 ≤ m / 2 ^ 52
  most : m / 2 ^ 52 ≤ 896
  units : x ≡ (2 ^ 52 + m % 2 ^ 52) / 2 ^ (926 - m / 2 ^ 52)

from_subnormal : (m x : ℕ) → 0 < x → x < 2 ^ 23 → widened x ≡ m → FromSubnormal m x
from_subnormal m x p l e =
    let t = leading_top 23 x p l in
    let h : ℕ = t.0 in
    let low : h < 23 = omega (arith, t.1) in
    let s = subnormal_shifted x h low t.2 t.3 in
    fields h (x * 2 ^ (52 - h)) low (sym e ∙ s.0) s.1 s.2 (shl-shr x (52 - h))
  where
    fields : (h q : ℕ) → h < 23 → m ≡ (873 + h) * 2 ^ 52 + q → 2 ^ 52 ≤ q → q < 2 ^ 53 → q / 2 ^ (52 - h) ≡ x → FromSubnormal m x
    fields h q low is lo hi back =
        let significand : q ≡ 2 ^ 52 + m % 2 ^ 52 = omega arith in
        let places : 52 - h ≡ 926 - m / 2 ^ 52 = omega arith in
        record {
          least = omega arith;
          most = omega arith;
          units = sym back ∙ ap₂ (λ (y k : ℕ). y / 2 ^ k) significand places;
        }

-- what x may be: 0, below the normal ones, a normal one, the infinity
by_kind : {A : Type 0} (m x : ℕ) → x ≤ 0x7f80_0000 → widened x ≡ m
    → (x ≡ 0 → m ≡ 0 → A)
    → (FromSubnormal m x → A)
    → (2 ^ 23 ≤ x → x < 0x7f80_0000 → m ≡ x * 2 ^ 29 + 896 * 2 ^ 52 → A)
    → (x ≡ 0x7f80_0000 → m ≡ 0x7ff0_0000_0000_0000 → A)
    → A
by_kind {A} m x l e none subnormal normal infinite = go (eq-zero-or-pos x) (le_or_lt (2 ^ 23) x) (eq-or-lt_of_le l)
  where
    go : (x ≡ 0) ⊎ (0 < x) → (2 ^ 23 ≤ x) ⊎ (x < 2 ^ 23) → (x ≡ 0x7f80_0000) ⊎ (x < 0x7f80_0000) → A
    go (inl z) b c = none z (sym e ∙ ap widened z ∙ zero_widened)
    go (inr p) (inr b) c = subnormal (from_subnormal m x p b e)
    go (inr p) (inl b) (inl z) = infinite z (sym e ∙ ap widened z ∙ infinity_widened)
    go (inr p) (inl b) (inr c) = normal b c (sym e ∙ normal_widened x b c)

module _ (m : ℕ) where
  pub only_zero : m / 2 ^ 52 < 874 → OnlyOne m 0
  only_zero h x l e =
      by_kind m x l e
      (λ z i. z)
      (λ s. let no : ⊥ = omega (arith, s.least) in absurd no)
      (λ a b i. let no : ⊥ = omega arith in absurd no)
      (λ z i. let no : ⊥ = omega arith in absurd no)

  pub only_subnormal : 874 ≤ m / 2 ^ 52 → m < 897 * 2 ^ 52 → OnlyOne m ((2 ^ 52 + m % 2 ^ 52) / 2 ^ (926 - m / 2 ^ 52))
  only_subnormal lo hi x l e =
      by_kind m x l e
      (λ z i. let no : ⊥ = omega arith in absurd no)
      (λ s. s.units)
      (λ a b i. let no : ⊥ = omega arith in absurd no)
      (λ z i. let no : ⊥ = omega arith in absurd no)

  pub only_normal : 897 * 2 ^ 52 ≤ m → m < 1151 * 2 ^ 52 → OnlyOne m ((m - 896 * 2 ^ 52) / 2 ^ 29)
  only_normal lo hi x l e =
      by_kind m x l e
      (λ z i. let no : ⊥ = omega arith in absurd no)
      (λ s. let no : ⊥ = omega (arith, s.most) in absurd no)
      (λ a b i. omega arith)
      (λ z i. let no : ⊥ = omega arith in absurd no)

  pub only_infinity : 1151 * 2 ^ 52 ≤ m → OnlyOne m 0x7f80_0000
  only_infinity lo x l e =
      by_kind m x l e
      (λ z i. let no : ⊥ = omega arith in absurd no)
      (λ s. let no : ⊥ = omega (arith, s.most) in absurd no)
      (λ a b i. let no : ⊥ = omega arith in absurd no)
      (λ z i. z)

  -- below the normal ones a pattern has 23 digits
  pub few_units : m < 897 * 2 ^ 52 → (2 ^ 52 + m % 2 ^ 52) / 2 ^ (926 - m / 2 ^ 52) < 2 ^ 23
  few_units l =
      let s : ℕ = 2 ^ 52 + m % 2 ^ 52 in
      let more : ℕ = 896 - m / 2 ^ 52 in
      let places : 926 - m / 2 ^ 52 ≡ 30 + more = omega arith in
      let most : s / 2 ^ 30 < 2 ^ 23 = omega arith in
      lt_of_le_of_lt
      (le_trans (le_of_eq (ap (λ (k : ℕ). s / 2 ^ k) places ∙ sym (shr-shr s 30 more))) (shr_le (s / 2 ^ 30) more))
      most
