-- Signed numbers as words.
use mathlib.Core.Path.{◌≡◌, refl, sym, ap, ◌∙◌}
use mathlib.Core.Bool.{Bool, true, false}
use Prim.Native.Nat.{ℕ, suc, ◌+◌, ◌-◌, ◌*◌, ◌%◌, ◌^◌, ◌≤◌, ◌<◌}
use native.Mathlib.Omega.{arith}
use lib.Dec.{ltb}
use lib.IntN.{pos, negsuc, ◌-ℤ◌}
use lib.Pow.{pow_mono, pow-add, shl_exact}
use borrow.Author.Tests.{lt-ltb, le-ltb, ltb-false}
use Rattle.definitions.specs.Bytes.{twos_complement}
use Rattle.fields.specs.declared.form.Number.TheVariants.{Signed}
use Rattle.tally.specs.Words.{signed_zero}
use Rattle.slots.specs.Slots.{word_of}
use Rattle.slots.specs.Known.{SignBit}

half : (count : ℕ) → 1 ≤ count → 2 ^ (count - 1) + 2 ^ (count - 1) ≡ 2 ^ count
half count some =
    let twice : 2 ^ (count - 1) + 2 ^ (count - 1) ≡ 2 ^ (count - 1) * 2 ^ 1 = omega arith in
    twice ∙ sym (pow-add 2 (count - 1) 1) ∙ ap (λ (k : ℕ). 2 ^ k) {x = count - 1 + 1} {y = count} (omega arith)

-- a one that is shifted up
pub sign_bit_law : (count : ℕ) → 1 ≤ count → count ≤ 64 → SignBit count ((1 * 2 ^ (count - 1)) % 2 ^ 64)
sign_bit_law count some few =
    let e : (1 * 2 ^ (count - 1)) % 2 ^ 64 ≡ 2 ^ (count - 1) = shl_exact {a = 1} 1 (count - 1) 64 (omega arith) (omega arith) ∙ omega arith in
    rw e
    (record {
      is = refl;
      most = pow_mono {i = count - 1} {j = 63} (omega arith);
      twice = half count some;
    })

-- either side of the sign bit
module _ (count x : ℕ) {sign : ℕ} (h : SignBit count sign) where
  pub not_negative : x < sign → x + signed_zero ≡ word_of Signed count x
  not_negative l = let m : x < 2 ^ (count - 1) = omega (arith, h.is) in rw (lt-ltb x (2 ^ (count - 1)) m)

  pub negative : sign ≤ x → x - sign + (signed_zero - sign) ≡ word_of Signed count x
  negative l =
      let m : 2 ^ (count - 1) ≤ x = omega (arith, h.is) in
      rw (le-ltb x (2 ^ (count - 1)) m) (ap (λ (s : ℕ). x - s + (signed_zero - s)) h.is)

above_zero : (x w : ℕ) → w ≡ x + signed_zero → pos w -ℤ pos signed_zero ≡ pos x
above_zero x w e =
    let t : ltb w signed_zero ≡ false = le-ltb w signed_zero (omega arith) in
    let d : w - signed_zero ≡ x = omega arith in
    rw (t, d)

below_zero : (k w : ℕ) → w + suc k ≡ signed_zero → pos w -ℤ pos signed_zero ≡ negsuc k
below_zero k w e =
    let t : ltb w signed_zero ≡ true = lt-ltb w signed_zero (omega arith) in
    let d : signed_zero - suc w ≡ k = omega arith in
    rw (t, d)

-- the word is the integer
pub counted : (count x : ℕ) → 1 ≤ count → count ≤ 64 → x < 2 ^ count → twos_complement count x ≡ pos (word_of Signed count x) -ℤ pos signed_zero
counted count x some few below = go (ltb x (2 ^ (count - 1))) refl
  where
    go : (t : Bool) → ltb x (2 ^ (count - 1)) ≡ t → twos_complement count x ≡ pos (word_of Signed count x) -ℤ pos signed_zero
    go true e = rw e (sym (above_zero x (x + signed_zero) refl))
    go false e =
        let s : ℕ = 2 ^ (count - 1) in
        let l : s ≤ x = ltb-false x s e in
        let d : s + s ≡ 2 ^ count = half count some in
        let most : s ≤ signed_zero = pow_mono {i = count - 1} {j = 63} (omega arith) in
        rw e (sym (below_zero (2 ^ count - suc x) (x - s + (signed_zero - s)) (omega arith)))
