-- Numbers of so many digits.
use mathlib.Core.Path.{◌≡◌, refl, ap, ◌∙◌}
use mathlib.Core.Bool.{Bool, true, false}
use Prim.Native.Nat.{ℕ, suc, ◌+◌, ◌-◌, ◌*◌, ◌/◌, ◌^◌, ◌≤◌, ◌<◌}
use native.Mathlib.Nat.{div-lt_iff_lt-mul, one-mul}
use native.Mathlib.Omega.{arith}
use lib.Dec.{ltb, eqb}
use lib.Pow.{pow_pos, pow-add, suc_ones, ones_split, high, ones_lt}
use borrow.Author.Tests.{ltb-true, ltb-false, lt-ltb, le-ltb, eq-eqb, ne_eqb}

-- nothing is left of n above count digits
pub no_more : (n count : ℕ) → eqb (n / 2 ^ count) 0 ≡ ltb n (2 ^ count)
no_more n count = go (ltb n (2 ^ count)) refl
  where
    go : (t : Bool) → ltb n (2 ^ count) ≡ t → eqb (n / 2 ^ count) 0 ≡ t
    go true e =
        let l : n < 1 * 2 ^ count = rw one-mul (ltb-true n (2 ^ count) e) in
        let q : n / 2 ^ count < 1 = (div-lt_iff_lt-mul (pow_pos count)).1 l in
        eq-eqb (n / 2 ^ count) 0 (omega arith)
    go false e = ne_eqb (n / 2 ^ count) 0 (λ z. over z)
      where
        over : n / 2 ^ count ≡ 0 → ⊥
        over z =
            let l : n < 1 * 2 ^ count = (div-lt_iff_lt-mul (pow_pos count)).0 (omega arith) in
            let m : 2 ^ count ≤ n = ltb-false n (2 ^ count) e in
            omega arith

-- one digit more doubles
pub twice : (count : ℕ) → 1 ≤ count → 2 ^ count ≡ 2 ^ (count - 1) * 2
twice count h = ap (λ (j : ℕ). 2 ^ j) {x = count} {y = count - 1 + 1} (omega arith) ∙ pow-add 2 (count - 1) 1

-- the halves of numbers of count digits
pub half : (n count : ℕ) → 1 ≤ count → ltb (n / 2) (2 ^ (count - 1)) ≡ ltb n (2 ^ count)
half n count h = go (ltb n (2 ^ count)) refl
  where
    go : (t : Bool) → ltb n (2 ^ count) ≡ t → ltb (n / 2) (2 ^ (count - 1)) ≡ t
    go true e =
        let l : n < 2 ^ count = ltb-true n (2 ^ count) e in
        lt-ltb (n / 2) (2 ^ (count - 1)) (omega (arith, twice count h))
    go false e =
        let l : 2 ^ count ≤ n = ltb-false n (2 ^ count) e in
        le-ltb (n / 2) (2 ^ (count - 1)) (omega (arith, twice count h))

-- what the machine's shift makes of all digits
pub all_set : (count : ℕ) → 1 ≤ count → count ≤ 64 → suc ((2 ^ 64 - 1) / 2 ^ (64 - count)) ≡ 2 ^ count
all_set count lo hi =
    let k : ℕ = 64 - count in
    let e : 2 ^ 64 - 1 ≡ (2 ^ count - 1) * 2 ^ k + (2 ^ k - 1) =
    ap (λ (j : ℕ). 2 ^ j - 1) {x = 64} {y = count + k} (omega arith) ∙ ones_split count k in
    ap suc (ap (λ (x : ℕ). x / 2 ^ k) e ∙ high (2 ^ count - 1) k (ones_lt k)) ∙ suc_ones count

-- -(n + 1) from all digits
pub turned : (n count r : ℕ) → suc r ≡ 2 ^ count → r - n ≡ 2 ^ count - suc n
turned n count r e = omega arith

pub below_ones : (n count r : ℕ) → 1 ≤ count → suc r ≡ 2 ^ count → n < 2 ^ (count - 1) → n ≤ r
below_ones n count r h e l = omega (arith, twice count h)
