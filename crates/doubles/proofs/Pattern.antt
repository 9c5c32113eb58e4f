-- The pattern of a finite double, by its size in units of the smallest double above 0: `written`.
use mathlib.Core.Path.{◌≡◌, sym, ap, ◌∙◌, subst}
use mathlib.Core.Logic.{inl, inr}
use mathlib.Core.Bool.{Bool, cond}
use Prim.Native.Nat.{ℕ, suc, ◌+◌, ◌-◌, ◌*◌, ◌/◌, ◌^◌, ◌≤◌, ◌<◌}
use native.Mathlib.Nat.{le_refl, le_trans, le_of_eq, le_antisymm, eq-or-lt_of_le}
use native.Mathlib.Nat.{lt_irrefl, lt_of_lt_of_le, lt_of_le_of_lt, lt_of_not-le}
use native.Mathlib.Nat.{mul_right_comm, mul-div_cancel, mul-le-mul_right, eq_of_mul-eq-mul_right}
use native.Mathlib.Omega.{arith}
use lib.Dec.{lit<}
use lib.Pow.{pow-add, pow_pos, pow_mono, shl_lt}
use lib.Ieee.{Float, nan, inf, fin, binary64, up, down, size, to_bits}
use lib.Ieee.Digits.{size-lt, size-le}
use lib.Ieee.Fits.{down_pos}
use lib.Ieee.Exact.{HasValue}
use Rattle.definitions.specs.Ieee754.{unit}

-- ---- how many digits a number has
pub exponent_lt : (i p : ℕ) → 2 ^ i < 2 ^ p → i < p
exponent_lt i p h = lt_of_not-le (λ (g : p ≤ i). lt_irrefl (2 ^ i) (lt_of_lt_of_le h (pow_mono g)))

pub size_is : (a n : ℕ) → 2 ^ a ≤ n → n < 2 ^ suc a → size n ≡ suc a
size_is a n lo hi = le_antisymm (size-le n (suc a) hi) (exponent_lt a (size n) (lt_of_le_of_lt lo (size-lt n)))

-- ---- a value as a fraction
-- one value has one size, whatever the fraction's sign is called
pub one_size : (v : Float) (s t : Bool) (a b c : ℕ) → HasValue v s a c → HasValue v t b c → a ≡ b
one_size nan s t a b c p q = absurd p
one_size (inf u) s t a b c p q = absurd p
one_size (fin u m e) s t a b c p q = eq_of_mul-eq-mul_right (down e) (down_pos e) a b (sym p.1 ∙ q.1)

-- from one fraction to another that equals it
pub rescale : (v : Float) (s : Bool) (a c b d : ℕ) → 0 < c → b * c ≡ a * d → HasValue v s a c → HasValue v s b d
rescale nan s a c b d p h v = v
rescale (inf t) s a c b d p h v = v
rescale (fin t m e) s a c b d p h v = (
  v.0,
  eq_of_mul-eq-mul_right c p (m * up e * d) (b * down e)
      (mul_right_comm (m * up e) d c
      ∙ ap (λ (x : ℕ). x * d) v.1
      ∙ mul_right_comm a (down e) d
      ∙ ap (λ (x : ℕ). x * down e) (sym h)
      ∙ mul_right_comm b c (down e)),
)

-- ---- the pattern
abbrev pub sign_bit : Bool → ℕ
sign_bit s = cond s (2 ^ 63) 0

of_units : (v : Float) (s : Bool) (a k : ℕ) → HasValue v s a unit → size a - 53 ≡ k
    → to_bits binary64 v ≡ sign_bit s + k * 2 ^ 52 + a / 2 ^ k
unfolding to_bits
of_units nan s a k h e = absurd h
of_units (inf t) s a k h e = absurd h
of_units (fin t m e) s a k h z =
    ap (λ (x : ℕ). sign_bit t + (size x - 53) * 2 ^ 52 + x / 2 ^ (size x - 53)) (ap (λ (x : ℕ). x / down e) h.1 ∙ mul-div_cancel a (down_pos e))
    ∙ ap (λ (x : Bool). sign_bit x + (size a - 53) * 2 ^ 52 + a / 2 ^ (size a - 53)) h.0
    ∙ ap (λ (x : ℕ). sign_bit s + x * 2 ^ 52 + a / 2 ^ x) z

-- with a significand of 53 digits, k more being dropped
full : (v : Float) (s : Bool) (q k : ℕ) → 2 ^ 52 ≤ q → q < 2 ^ 53 → HasValue v s (q * 2 ^ k) unit
    → to_bits binary64 v ≡ sign_bit s + (k * 2 ^ 52 + q)
full v s q k lo hi h =
    let least : 2 ^ (52 + k) ≤ q * 2 ^ k = le_trans (le_of_eq (pow-add 2 52 k)) (mul-le-mul_right (2 ^ k) lo) in
    let most : q * 2 ^ k < 2 ^ suc (52 + k) = subst (λ (x : ℕ). q * 2 ^ k < 2 ^ x) (next k) (shl_lt 53 k hi) in
    of_units v s (q * 2 ^ k) k h (ap (λ (x : ℕ). x - 53) (size_is (52 + k) (q * 2 ^ k) least most) ∙ without_53 k)
    ∙ ap (λ (x : ℕ). sign_bit s + k * 2 ^ 52 + x) (mul-div_cancel q (pow_pos k))
    ∙ assoc (sign_bit s) (k * 2 ^ 52) q
  where
    next : (k : ℕ) → 53 + k ≡ suc (52 + k)
    next k = omega arith

    without_53 : (k : ℕ) → suc (52 + k) - 53 ≡ k
    without_53 k = omega arith

    assoc : (a b c : ℕ) → a + b + c ≡ a + (b + c)
    assoc a b c = omega arith

-- 2^53 is 2^52 with an exponent that is one higher
carried : (v : Float) (s : Bool) (k : ℕ) → HasValue v s (2 ^ 53 * 2 ^ k) unit
    → to_bits binary64 v ≡ sign_bit s + (k * 2 ^ 52 + 2 ^ 53)
carried v s k h =
    let moved : 53 + k ≡ 52 + suc k = omega arith in
    let sum : suc k * 2 ^ 52 + 2 ^ 52 ≡ k * 2 ^ 52 + 2 ^ 53 = omega arith in
    let same : 2 ^ 53 * 2 ^ k ≡ 2 ^ 52 * 2 ^ suc k = sym (pow-add 2 53 k) ∙ ap (λ (x : ℕ). 2 ^ x) moved ∙ pow-add 2 52 (suc k) in
    full v s (2 ^ 52) (suc k) (le_refl (2 ^ 52)) (lit< tt) (subst (λ (x : ℕ). HasValue v s x unit) same h)
    ∙ ap (λ (x : ℕ). sign_bit s + x) sum

-- The leading digit of the significand q is added to the field k, so a q that was rounded up to 2^53 is no case of its own.
pub written : (v : Float) (s : Bool) (q k : ℕ) → 2 ^ 52 ≤ q → q ≤ 2 ^ 53 → HasValue v s (q * 2 ^ k) unit
    → to_bits binary64 v ≡ sign_bit s + (k * 2 ^ 52 + q)
written v s q k lo hi h =
    elim (eq-or-lt_of_le hi) [
      | inl e ↦
          let at : HasValue v s (2 ^ 53 * 2 ^ k) unit = subst (λ (x : ℕ). HasValue v s (x * 2 ^ k) unit) e h in
          carried v s k at ∙ ap (λ (x : ℕ). sign_bit s + (k * 2 ^ 52 + x)) (sym e)
      | inr l ↦ full v s q k lo l h
    ]
