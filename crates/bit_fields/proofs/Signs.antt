-- Two's complement over plain numbers.
use Rattle.std.specs.Prelude.{if◌then◌else◌}
use mathlib.Core.Path.{◌≡◌, refl, sym, ap, ◌∙◌, subst}
use mathlib.Core.Bool.{Bool, true, false}
use Prim.Native.Nat.{ℕ, suc, ◌+◌, ◌-◌, ◌*◌, ◌/◌, ◌%◌, ◌^◌, ◌≤◌, ◌<◌}
use native.Mathlib.Nat.{mul-le-mul_right}
use native.Mathlib.Omega.{arith}
use lib.Dec.{ltb}
use lib.IntN.{pos, negsuc}
use lib.Signed.{shr_z}
use mathlib.Core.Logic.{inl, inr}
use mir.Syntax.{w64}
use mir.Val.{to_z}
use Rattle.definitions.proofs.Replies.{le_or_lt}
use lib.Pow.{pow_pos, pow-add, shl_lt, shl_exact, shl-shr, high}
use borrow.Author.Tests.{lt-ltb, le-ltb, ltb-true, ltb-false}
use Rattle.definitions.specs.Bytes.{twos_complement}

-- the integer with a word's bits, on either side of the sign bit
pub word_signed : (x : ℕ) → to_z w64 x ≡ twos_complement 64 x
word_signed x = elim (le_or_lt (2 ^ 63) x) [
  | inl l ↦ rw (le-ltb x (2 ^ 63) l)
  | inr l ↦ rw (lt-ltb x (2 ^ 63) l)
]

-- x of `width` bits at the top of a word, where its sign is the word's, and shifted down again
module _ (width x : ℕ) (some : 1 ≤ width) (few : width ≤ 64) (below : x < 2 ^ width) where
  full : 2 ^ 64 ≡ 2 ^ width * 2 ^ (64 - width)
  full = ap (λ (k : ℕ). 2 ^ k) {x = 64} {y = width + (64 - width)} (omega arith) ∙ pow-add 2 width (64 - width)

  half : 2 ^ 63 ≡ 2 ^ (width - 1) * 2 ^ (64 - width)
  half = ap (λ (k : ℕ). 2 ^ k) {x = 63} {y = width - 1 + (64 - width)} (omega arith) ∙ pow-add 2 (width - 1) (64 - width)

  by_sign : (t : Bool) → ltb x (2 ^ (width - 1)) ≡ t
      → shr_z (twos_complement 64 (x * 2 ^ (64 - width))) (2 ^ (64 - width)) ≡ (if t then pos x else negsuc (2 ^ width - suc x))
  by_sign true e =
      let l : x * 2 ^ (64 - width) < 2 ^ (width - 1 + (64 - width)) = shl_lt (width - 1) (64 - width) (ltb-true x (2 ^ (width - 1)) e) in
      let h : x * 2 ^ (64 - width) < 2 ^ 63 = subst (λ (k : ℕ). x * 2 ^ (64 - width) < 2 ^ k) {x = width - 1 + (64 - width)} {y = 63} (omega arith) l in
      rw (lt-ltb (x * 2 ^ (64 - width)) (2 ^ 63) h) (ap pos (shl-shr x (64 - width)))
  by_sign false e =
      let m : 2 ^ (width - 1) * 2 ^ (64 - width) ≤ x * 2 ^ (64 - width) = mul-le-mul_right (2 ^ (64 - width)) (ltb-false x (2 ^ (width - 1)) e) in
      let h : 2 ^ 63 ≤ x * 2 ^ (64 - width) = subst (λ (y : ℕ). y ≤ x * 2 ^ (64 - width)) (sym half) m in
      let q : ℕ = 2 ^ width - suc x in
      let w : 2 ^ width ≡ q + suc x = omega arith in
      let f : 2 ^ 64 ≡ (q + suc x) * 2 ^ (64 - width) = full ∙ ap (λ (y : ℕ). y * 2 ^ (64 - width)) w in
      let p : 0 < 2 ^ (64 - width) = pow_pos (64 - width) in
      let d : 2 ^ 64 - suc (x * 2 ^ (64 - width)) ≡ q * 2 ^ (64 - width) + (2 ^ (64 - width) - 1) = omega arith in
      rw (le-ltb (x * 2 ^ (64 - width)) (2 ^ 63) h)
      (ap negsuc (ap (λ (y : ℕ). y / 2 ^ (64 - width)) d ∙ high q (64 - width) (omega arith)))

  pub from_the_top : shr_z (twos_complement 64 ((x * 2 ^ (64 - width)) % 2 ^ 64)) (2 ^ (64 - width)) ≡ twos_complement width x
  from_the_top =
      ap (λ (y : ℕ). shr_z (twos_complement 64 y) (2 ^ (64 - width))) (shl_exact width (64 - width) 64 below (omega arith))
      ∙ by_sign (ltb x (2 ^ (width - 1))) refl
