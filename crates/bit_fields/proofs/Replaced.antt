-- A number with another in the place of a bit field.
use mathlib.Core.Path.{◌≡◌, sym, ap, ap₂, ◌∙◌, subst}
use Prim.Native.Nat.{ℕ, ◌+◌, ◌-◌, ◌*◌, ◌/◌, ◌%◌, ◌^◌, ◌≤◌, ◌<◌}
use native.Mathlib.Nat.{add-mul, mul_assoc, mod-lt, mod-le, le_trans, div-one, div-lt_iff_lt-mul}
use native.Mathlib.Omega.{arith}
use lib.Pow.{pow_pos, pow-add, split, high, low, mod-pow-add, shr-shr, shr_lt, shr_le, shl_exact}
use Rattle.definitions.specs.Bytes.{bits, bit, with_bits}
use Rattle.bit_fields.proofs.Bits.{field_below, agree, above}

-- x is put on where the field f was
replaced : (n q h f lo p x : ℕ) → q * p + lo ≡ n → h + f ≡ q → (f * p ≤ n) × (n - f * p + x * p ≡ (h + x) * p + lo)
replaced n q h f lo p x en eq =
    let a : q * p ≡ h * p + f * p = ap (λ (y : ℕ). y * p) (sym eq) ∙ add-mul h f p in
    let b : (h + x) * p ≡ h * p + x * p = add-mul h x p in
    (omega (arith, a), omega (arith, a, b))

-- what has the same bits from k on is below the same power
below_by : (y n k m : ℕ) → k ≤ m → y / 2 ^ k ≡ n / 2 ^ k → n < 2 ^ m → y < 2 ^ m
below_by y n k m h e l =
    let s : m ≡ m - k + k = omega arith in
    let up : n < 2 ^ (m - k + k) = subst (λ (j : ℕ). n < 2 ^ j) s l in
    let q : y / 2 ^ k < 2 ^ (m - k) = rw e (shr_lt (m - k) k up) in
    subst (λ (z : ℕ). y < z) (sym (ap (λ (j : ℕ). 2 ^ j) s ∙ pow-add 2 (m - k) k)) ((div-lt_iff_lt-mul (pow_pos k)).0 q)

module _ (n offset count x : ℕ) where
  both : (bits n offset count * 2 ^ offset ≤ n)
      × (with_bits n offset count x ≡ (n / 2 ^ offset / 2 ^ count * 2 ^ count + x) * 2 ^ offset + n % 2 ^ offset)
  both =
      replaced n (n / 2 ^ offset) (n / 2 ^ offset / 2 ^ count * 2 ^ count) (bits n offset count) (n % 2 ^ offset) (2 ^ offset) x
      (split n offset) (split (n / 2 ^ offset) count)

  -- what stands above the field, x, and what stands below
  pub parts : with_bits n offset count x ≡ (n / 2 ^ offset / 2 ^ count * 2 ^ count + x) * 2 ^ offset + n % 2 ^ offset
  parts = both.1

  -- there is a field to take off
  pub field_inside : bits n offset count * 2 ^ offset ≤ n
  field_inside = both.0

  from_field : with_bits n offset count x / 2 ^ offset ≡ n / 2 ^ offset / 2 ^ count * 2 ^ count + x
  from_field =
      ap (λ (y : ℕ). y / 2 ^ offset) parts ∙ high (n / 2 ^ offset / 2 ^ count * 2 ^ count + x) offset (mod-lt n (pow_pos offset))

  -- the bits below the field are kept
  pub kept_below : with_bits n offset count x % 2 ^ offset ≡ n % 2 ^ offset
  kept_below =
      ap (λ (y : ℕ). y % 2 ^ offset) parts ∙ low (n / 2 ^ offset / 2 ^ count * 2 ^ count + x) offset (mod-lt n (pow_pos offset))

  pub bit_below : (k : ℕ) → k < offset → bit (with_bits n offset count x) k ≡ bit n k
  bit_below k h = agree (with_bits n offset count x) n k 1 offset (omega arith) kept_below

  module _ (fits : x < 2 ^ count) where
    -- the field is x
    pub back : bits (with_bits n offset count x) offset count ≡ x
    back = ap (λ (y : ℕ). y % 2 ^ count) from_field ∙ low (n / 2 ^ offset / 2 ^ count) count fits

    -- the bits above the field are kept
    pub kept_above : with_bits n offset count x / 2 ^ (offset + count) ≡ n / 2 ^ (offset + count)
    kept_above =
        sym (shr-shr (with_bits n offset count x) offset count)
        ∙ ap (λ (y : ℕ). y / 2 ^ count) from_field ∙ high (n / 2 ^ offset / 2 ^ count) count fits ∙ shr-shr n offset count

    pub bit_above : (k : ℕ) → offset + count ≤ k → bit (with_bits n offset count x) k ≡ bit n k
    bit_above k h =
        let j : ℕ = k - (offset + count) in
        let e : k ≡ offset + count + j = omega arith in
        let by : (y : ℕ) → y / 2 ^ (offset + count) / 2 ^ j ≡ y / 2 ^ k =
        λ y. shr-shr y (offset + count) j ∙ ap (λ (i : ℕ). y / 2 ^ i) (sym e) in
        ap (λ (y : ℕ). y % 2) (sym (by (with_bits n offset count x)) ∙ ap (λ (y : ℕ). y / 2 ^ j) kept_above ∙ by n)

    -- where the field fits, x fits
    pub stays_below : (m : ℕ) → offset + count ≤ m → n < 2 ^ m → with_bits n offset count x < 2 ^ m
    stays_below m h l = below_by (with_bits n offset count x) n (offset + count) m h kept_above l

    -- what the machine makes of it
    pub machine : {f : ℕ} → f ≡ bits n offset count → offset + count ≤ 64 → n < 2 ^ 64
        → ((f * 2 ^ offset) % 2 ^ 64 ≤ n) × (n - (f * 2 ^ offset) % 2 ^ 64 + (x * 2 ^ offset) % 2 ^ 64 ≡ with_bits n offset count x)
        × (with_bits n offset count x < 2 ^ 64)
    machine {f} ef h l =
        let a : (f * 2 ^ offset) % 2 ^ 64 ≡ bits n offset count * 2 ^ offset =
        ap (λ (y : ℕ). (y * 2 ^ offset) % 2 ^ 64) ef ∙ shl_exact count offset 64 (field_below n offset count) (omega arith) in
        let b : (x * 2 ^ offset) % 2 ^ 64 ≡ x * 2 ^ offset = shl_exact count offset 64 fits (omega arith) in
        (rw a field_inside, ap₂ (λ (y z : ℕ). n - y + z) a b, stays_below 64 h l)

-- the field of a number in two parts, where it starts in the low one and ends in the high one
two : (hi lo a b xa xb x f m q p : ℕ) → q * p ≡ m → a ≤ hi → b * p ≤ lo → f ≡ a * q + b → x ≡ xa * q + xb
    → hi * m + lo - f * p + x * p ≡ (hi - a * 1 + xa * 1) * m + (lo - b * p + xb * p)
two hi lo a b xa xb x f m q p em ha hb ef ex =
    let h : ℕ = hi - a in
    let weigh : (y z : ℕ) → (y * q + z) * p ≡ y * m + z * p =
    λ y z. add-mul (y * q) z p ∙ ap (λ (w : ℕ). w + z * p) (mul_assoc y q p ∙ ap (λ (w : ℕ). y * w) em) in
    let ep : f * p ≡ a * m + b * p = ap (λ (w : ℕ). w * p) ef ∙ weigh a b in
    let xp : x * p ≡ xa * m + xb * p = ap (λ (w : ℕ). w * p) ex ∙ weigh xa xb in
    let eh : hi * m ≡ h * m + a * m = ap (λ (w : ℕ). w * m) {x = hi} {y = h + a} (omega arith) ∙ add-mul h a m in
    let er : (hi - a * 1 + xa * 1) * m ≡ h * m + xa * m = ap (λ (w : ℕ). w * m) {x = hi - a * 1 + xa * 1} {y = h + xa} (omega arith) ∙ add-mul h xa m in
    omega (arith, ep, xp, eh, er)

module _ (hi lo offset count x m : ℕ) (small : lo < 2 ^ m) (starts : offset ≤ m) (ends : m ≤ offset + count) where
  field_split : bits (hi * 2 ^ m + lo) offset count ≡ bits hi 0 (offset + count - m) * 2 ^ (m - offset) + bits lo offset (m - offset)
  field_split =
      let n : ℕ = hi * 2 ^ m + lo in
      let k : ℕ = m - offset in
      let d : ℕ = offset + count - m in
      ap (λ (c : ℕ). n / 2 ^ offset % 2 ^ c) {x = count} {y = d + k} (omega arith) ∙ mod-pow-add (n / 2 ^ offset) d k
      ∙ ap₂ (λ (y z : ℕ). y % 2 ^ d * 2 ^ k + z)
      (shr-shr n offset k ∙ ap (λ (j : ℕ). n / 2 ^ j) {x = offset + k} {y = m} (omega arith) ∙ high hi m small ∙ sym (div-one hi))
      (above hi lo offset k m (omega arith))

  pub in_two : with_bits (hi * 2 ^ m + lo) offset count x
      ≡ with_bits hi 0 (offset + count - m) (x / 2 ^ (m - offset)) * 2 ^ m + with_bits lo offset (m - offset) (x % 2 ^ (m - offset))
  in_two =
      let k : ℕ = m - offset in
      let d : ℕ = offset + count - m in
      two hi lo (bits hi 0 d) (bits lo offset k) (x / 2 ^ k) (x % 2 ^ k) x (bits (hi * 2 ^ m + lo) offset count) (2 ^ m) (2 ^ k) (2 ^ offset)
      (sym (pow-add 2 k offset) ∙ ap (λ (j : ℕ). 2 ^ j) {x = k + offset} {y = m} (omega arith))
      (lowest hi d) (field_inside lo offset k 0) field_split (sym (split x k))
    where
      lowest : (y d : ℕ) → bits y 0 d ≤ y
      lowest y d = le_trans (mod-le (y / 2 ^ 0) (2 ^ d)) (shr_le y 0)
